-- Drafts: the lines that are read so far, and what the grammar makes of them and of the line behind them.
use Rattle.std.proofs.Common.{◌≡◌, ℕ, suc, ◌≤◌, ◌<◌, ◌^◌, Bool, true, false, cond, eqb, ltb, leb, List, [], ◌∷◌, ◌++◌, length, map, filter, take, length-take, Option, Some, None, Ok, Err, refl, sym, ap, subst, ◌∙◌, arith, zero-le, inl, inr}
use Rattle.std.specs.Prelude.{◌&&◌, ◌||◌, not, codes, decimal}
use Rattle.std.specs.List.{list_any, AllByRecursion, enumerate_from}
use Rattle.std.proofs.lemmas.Bool.{and_parts, not-true, cases_Bool, cases_lt, cond_both, cond-true, ne_eqb, eqb-true, lt-ltb, le-ltb, lt-leb, le-leb}
use Rattle.std.proofs.Math.Bool.{or-false}
use Rattle.std.proofs.lemmas.List.{length-map, append-nil}
use Rattle.std.proofs.lemmas.List.Elements.{recursion_from_All}
use Rattle.std.proofs.lemmas.List.Folds.{list_any-append}
use Rattle.cs_types.specs.declared.task.Creds.{Creds}
use Rattle.cs_types.specs.declared.task.TaskSpec.{TaskSpec}
use Rattle.cs_types.specs.declared.event.Step.{Step}
use Rattle.cs_types.specs.declared.scenario.Teach.{Teach}
use Rattle.cs_types.specs.Scenario.{IsWithin, most_siblings, AreCreds, is_user, users_of, IsTask}
use Rattle.scenario_text.specs.declared.fault.BadKind.{BadKind}
use Rattle.scenario_text.specs.declared.fault.BadKind.TheVariants.{Cut, Shape, Twice, Leader, Full, User}
use Rattle.scenario_text.specs.declared.head.Head.{Head}
use Rattle.scenario_text.specs.declared.task.UserLine.{UserLine}
use Rattle.scenario_text.specs.declared.task.TaskLine.{TaskLine}
use Rattle.scenario_text.specs.declared.line.Place.{Place}
use Rattle.scenario_text.specs.declared.line.ScenarioLine.{ScenarioLine}
use Rattle.scenario_text.specs.declared.line.ScenarioLine.TheVariants as forms
use Rattle.scenario_text.specs.Words.{Word, user_words, user_task_words, task_words, teach_words}
use Rattle.scenario_text.specs.Text.{users_words, number_of, task_words_in, step_words, end_words}
use Rattle.scenario_text.specs.Grammar.{is_word, value, keyword, pid, sibling, policy, user, creds_form, user_form, Form, has_shape, teach_form, end_form, step_forms}
use Rattle.scenario_text.specs.Faults.{word_at, is_named, named, has_named, forms_after, same_word, is_twice, is_led, is_unled, is_full, users_named, has_users, is_wrong_user, has_end, first_held, kind_of}
use Rattle.scenario_text.specs.Reading.{◌>>=◌, parts, Read, line_of, Contents, place_after, has_fresh_pid, has_leader, count_named, is_next_user, may_name, are_named, check, usable, line_check, next_of, IsHead, head_lines, IsPlan, plan_lines}
use Rattle.scenario_text.proofs.Numbers.{number_again}
use Rattle.scenario_text.proofs.Tasks.{task_line_words, HasOwner}
use Rattle.scenario_text.proofs.Named.{same_number, length-users_words, any_same, any_number, length-users_named}
use Rattle.scenario_text.proofs.Judging.{Judged}
use Rattle.scenario_text.proofs.Told.{forms_at, line_judged}
use Rattle.scenario_text.proofs.Forms.{line_words, IsFirst, IsLine, line_is, line_again}
use Rattle.scenario_text.proofs.Usable.{usable_line}
use Rattle.scenario_text.proofs.Kinded.{AreShort, goes_wrong, cut_kind, unusable_kind, judged_kind, right_kind}

-- ---- what is read so far

abbrev pub draft_lines : Head → Contents → List (List Word)
draft_lines head plan = head_lines head ++ plan_lines head.version plan

-- ---- lists

any_map : {X Y : Type 0} (test : Y → Bool) (f : X → Y) (xs : List X) → list_any test (map f xs) ≡ list_any (λ x. test (f x)) xs
any_map test f [] = refl
any_map test f (x ∷ xs) = ap (λ (b : Bool). test (f x) || b) (any_map test f xs)

pub filter-append : {X : Type 0} (test : X → Bool) (xs ys : List X) → filter test (xs ++ ys) ≡ filter test xs ++ filter test ys
filter-append test [] ys = refl
filter-append {X = X} test (x ∷ xs) ys =
    elim (cases_Bool (test x)) [
      | inl is ↦ rw is (ap (λ (zs : List X). x ∷ zs) (filter-append test xs ys))
      | inr fails ↦ rw fails (filter-append test xs ys)
    ]

-- lines of one form, by their name
module _ {X : Type 0} (name : Word) (words : X → List Word) where
  named_none : ((x : X) → is_named name (words x) ≡ false) → (xs : List X) → named name (map words xs) ≡ []
  named_none h [] = refl
  named_none h (x ∷ xs) = rw (h x) (named_none h xs)

  named_all : ((x : X) → is_named name (words x) ≡ true) → (xs : List X) → named name (map words xs) ≡ map words xs
  named_all h [] = refl
  named_all h (x ∷ xs) = rw (h x) (ap (λ (ys : List (List Word)). words x ∷ ys) (named_all h xs))

  has_none : ((x : X) → is_named name (words x) ≡ false) → (xs : List X) → has_named name (map words xs) ≡ false
  has_none h [] = refl
  has_none h (x ∷ xs) = rw (h x) (has_none h xs)

  has_some : ((x : X) → is_named name (words x) ≡ true) → (xs : List X) → has_named name (map words xs) ≡ not (eqb (length xs) 0)
  has_some h [] = refl
  has_some h (x ∷ xs) = rw (h x, ne_eqb (suc (length xs)) 0 (λ e. omega arith)) refl

  ends_none : ((x : X) → has_shape end_form (words x) ≡ false) → (xs : List X) → has_end (map words xs) ≡ false
  ends_none h [] = refl
  ends_none h (x ∷ xs) = rw (h x) (ends_none h xs)

-- ---- the lines of a draft

-- a core of either version has at most 16 siblings
pub siblings_within : (head : Head) → IsHead head → IsWithin 1 16 head.siblings
siblings_within head is =
    let most : most_siblings head.version ≤ 16 = cond_both (eqb head.version 2) 16 8 (λ n. n ≤ 16) (λ _. omega arith) (λ _. omega arith) in
    (is.siblings.0, omega (arith, is.siblings.1))

-- a test that asks for the name of a line alone
by_first : (test : List Word → Bool) (version : ℕ) (users : List Creds) (task : TaskSpec) (b : Bool) → ((rest : List Word) → test (codes "task" ∷ rest) ≡ b) → test (task_words_in version users task) ≡ b
by_first test version users task b h =
    cond_both (eqb version 2) (user_task_words (number_of users task.creds) task) (task_words task) (λ ws. test ws ≡ b) (λ _. h _) (λ _. h _)

module _ (head : Head) (plan : Contents) where
  abbrev task_words_here : TaskSpec → List Word
  task_words_here = task_words_in head.version plan.users

  abbrev user_line_here : ℕ × Creds → List Word
  user_line_here numbered = user_words numbered.0 numbered.1

  abbrev numbered_users : List (ℕ × Creds)
  numbered_users = enumerate_from 0 plan.users

  users : List (List Word)
  users = users_words plan.users

  tasks : List (List Word)
  tasks = map task_words_here plan.tasks

  teaches : List (List Word)
  teaches = map teach_words plan.teaches

  steps : List (List Word)
  steps = map step_words plan.steps

  named_parts : (name : Word) → named name (users ++ tasks ++ teaches ++ steps) ≡ named name users ++ named name tasks ++ named name teaches ++ named name steps
  named_parts name =
      filter-append (is_named name) (users ++ tasks ++ teaches) steps
      ∙ ap (λ (ls : List (List Word)). ls ++ named name steps) (filter-append (is_named name) (users ++ tasks) teaches
      ∙ ap (λ (ls : List (List Word)). ls ++ named name teaches) (filter-append (is_named name) users tasks))

  -- whether a task line has a name
  task_named : (name : Word) (b : Bool) → is_word (codes "task") name ≡ b → (task : TaskSpec) → is_named name (task_words_here task) ≡ b
  task_named name b h task = by_first (is_named name) head.version plan.users task b (λ rest. h)

  pub users_named_here : named (codes "user") (draft_lines head plan) ≡ users_words plan.users
  unfolding users tasks teaches steps
  users_named_here =
      named_parts (codes "user")
      ∙ rw (
        named_all (codes "user") user_line_here (λ u. refl) numbered_users,
        named_none (codes "user") task_words_here (task_named (codes "user") false refl) plan.tasks,
        named_none (codes "user") teach_words (λ t. refl) plan.teaches,
        named_none (codes "user") step_words (λ s. refl) plan.steps,
      ) (append-nil (users_words plan.users ++ [] ++ []) ∙ append-nil (users_words plan.users ++ []) ∙ append-nil (users_words plan.users))

  pub tasks_named : named (codes "task") (draft_lines head plan) ≡ map task_words_here plan.tasks
  unfolding users tasks teaches steps
  tasks_named =
      named_parts (codes "task")
      ∙ rw (
        named_none (codes "task") user_line_here (λ u. refl) numbered_users,
        named_all (codes "task") task_words_here (task_named (codes "task") true refl) plan.tasks,
        named_none (codes "task") teach_words (λ t. refl) plan.teaches,
        named_none (codes "task") step_words (λ s. refl) plan.steps,
      ) (append-nil (map task_words_here plan.tasks ++ []) ∙ append-nil (map task_words_here plan.tasks))

  pub teaches_named : named (codes "teach") (draft_lines head plan) ≡ map teach_words plan.teaches
  unfolding users tasks teaches steps
  teaches_named =
      named_parts (codes "teach")
      ∙ rw (
        named_none (codes "teach") user_line_here (λ u. refl) numbered_users,
        named_none (codes "teach") task_words_here (task_named (codes "teach") false refl) plan.tasks,
        named_all (codes "teach") teach_words (λ t. refl) plan.teaches,
        named_none (codes "teach") step_words (λ s. refl) plan.steps,
      ) (append-nil (map teach_words plan.teaches))

  pub steps_named : named (codes "step") (draft_lines head plan) ≡ map step_words plan.steps
  unfolding users tasks teaches steps
  steps_named =
      named_parts (codes "step")
      ∙ rw (
        named_none (codes "step") user_line_here (λ u. refl) numbered_users,
        named_none (codes "step") task_words_here (task_named (codes "step") false refl) plan.tasks,
        named_none (codes "step") teach_words (λ t. refl) plan.teaches,
        named_all (codes "step") step_words (λ s. refl) plan.steps,
      ) refl

  has_parts : (name : Word) → has_named name (users ++ tasks ++ teaches ++ steps) ≡ (((has_named name users || has_named name tasks) || has_named name teaches) || has_named name steps)
  has_parts name =
      list_any-append (is_named name) (users ++ tasks ++ teaches) steps
      ∙ ap (λ (b : Bool). b || has_named name steps) (list_any-append (is_named name) (users ++ tasks) teaches
      ∙ ap (λ (b : Bool). b || has_named name teaches) (list_any-append (is_named name) users tasks))

  has_task : has_named (codes "task") (plan_lines head.version plan) ≡ (place_after plan).is_after_task
  unfolding users tasks teaches steps
  has_task =
      has_parts (codes "task")
      ∙ rw (
        has_none (codes "task") user_line_here (λ u. refl) numbered_users,
        has_some (codes "task") task_words_here (task_named (codes "task") true refl) plan.tasks,
        has_none (codes "task") teach_words (λ t. refl) plan.teaches,
        has_none (codes "task") step_words (λ s. refl) plan.steps,
      ) (or-false _ ∙ or-false _)

  has_teach : has_named (codes "teach") (plan_lines head.version plan) ≡ (place_after plan).is_after_teach
  unfolding users tasks teaches steps
  has_teach =
      has_parts (codes "teach")
      ∙ rw (
        has_none (codes "teach") user_line_here (λ u. refl) numbered_users,
        has_none (codes "teach") task_words_here (task_named (codes "teach") false refl) plan.tasks,
        has_some (codes "teach") teach_words (λ t. refl) plan.teaches,
        has_none (codes "teach") step_words (λ s. refl) plan.steps,
      ) (or-false _)

  has_step : has_named (codes "step") (plan_lines head.version plan) ≡ (place_after plan).is_after_step
  unfolding users tasks teaches steps
  has_step =
      has_parts (codes "step")
      ∙ rw (
        has_none (codes "step") user_line_here (λ u. refl) numbered_users,
        has_none (codes "step") task_words_here (task_named (codes "step") false refl) plan.tasks,
        has_none (codes "step") teach_words (λ t. refl) plan.teaches,
        has_some (codes "step") step_words (λ s. refl) plan.steps,
      ) refl

  pub no_end : has_end (draft_lines head plan) ≡ false
  unfolding has_shape users tasks teaches steps
  no_end =
      list_any-append (has_shape end_form) (users ++ tasks ++ teaches) steps
      ∙ ap (λ (b : Bool). b || has_end steps) (list_any-append (has_shape end_form) (users ++ tasks) teaches
      ∙ ap (λ (b : Bool). b || has_end teaches) (list_any-append (has_shape end_form) users tasks))
      ∙ rw (
        ends_none (codes "end") user_line_here (λ u. refl) numbered_users,
        ends_none (codes "end") task_words_here (λ task. by_first (has_shape end_form) head.version plan.users task false (λ rest. refl)) plan.tasks,
        ends_none (codes "end") teach_words (λ t. refl) plan.teaches,
        ends_none (codes "end") step_words (λ s. refl) plan.steps,
      ) refl

  module _ (is : IsHead head) where
    version_said : value (decimal head.version) ≡ head.version
    version_said = let again = number_again 1 2 head.version (omega arith) is.version in again.same

    siblings_said : value (decimal head.siblings) ≡ head.siblings
    siblings_said =
        let again = number_again 1 16 head.siblings (omega arith) (siblings_within head is) in again.same

    limit_said : value (decimal head.task_limit) ≡ head.task_limit
    limit_said = let again = number_again 1 256 head.task_limit (omega arith) is.task_limit in again.same

    pub forms_are : forms_after (draft_lines head plan) ≡ forms_at head.version head.siblings (place_after plan)
    forms_are = rw (version_said, has_task, has_teach, has_step, siblings_said) refl

-- ---- the tests on a line behind a draft

pid_small : (siblings : ℕ) (task : TaskSpec) → IsTask siblings task → (task.pid < 2 ^ 64) × (task.tgid < 2 ^ 64) × (task.pgid < 2 ^ 64)
pid_small siblings task is = (omega (arith, is.pid), omega (arith, is.tgid), omega (arith, is.pgid))

module _ (version siblings : ℕ) (users : List Creds) (line : TaskLine) (is : IsTask siblings line.spec) where
  -- a word of a task line that both versions have
  word_in : (task : TaskSpec) (place : ℕ) (word : Word) → word_at place (user_task_words (number_of users task.creds) task) ≡ word → word_at place (task_words task) ≡ word → word_at place (task_words_in version users task) ≡ word
  word_in task place word second first =
      cond_both (eqb version 2) (user_task_words (number_of users task.creds) task) (task_words task) (λ ws. word_at place ws ≡ word) (λ _. second) (λ _. first)

  word_of : (place : ℕ) (word : Word) → word_at place (user_task_words line.user line.spec) ≡ word → word_at place (task_words line.spec) ≡ word → word_at place (task_line_words version line) ≡ word
  word_of place word second first =
      cond_both (eqb version 2) (user_task_words line.user line.spec) (task_words line.spec) (λ ws. word_at place ws ≡ word) (λ _. second) (λ _. first)

  twice_same : (tasks : List TaskSpec) → AllByRecursion (IsTask siblings) tasks →
      list_any (λ earlier. same_word 1 earlier 1 (task_line_words version line)) (map (task_words_in version users) tasks) ≡ list_any (λ other. eqb other.pid line.spec.pid) tasks
  twice_same [] are = refl
  twice_same (other ∷ tasks) are =
      let small = pid_small siblings line.spec is in
      let small' = pid_small siblings other are.0 in
      rw (word_in other 1 (decimal other.pid) refl refl, word_of 1 (decimal line.spec.pid) refl refl, same_number other.pid line.spec.pid small'.0 small.0, twice_same tasks are.1) refl

  led_same : (tasks : List TaskSpec) → AllByRecursion (IsTask siblings) tasks → is_led (map (task_words_in version users) tasks) (task_line_words version line) ≡ has_leader tasks line.spec
  unfolding has_leader
  led_same tasks are =
      let small = pid_small siblings line.spec is in
      rw (word_of 1 (decimal line.spec.pid) refl refl, word_of 2 (decimal line.spec.tgid) refl refl, word_of 3 (decimal line.spec.pgid) refl refl, same_number line.spec.tgid line.spec.pid small.1 small.0)
      (ap (λ (b : Bool). eqb line.spec.tgid line.spec.pid || b) (leaders tasks are)) where
        leaders : (tasks : List TaskSpec) → AllByRecursion (IsTask siblings) tasks →
            list_any (λ leader. is_word (word_at 1 leader) (decimal line.spec.tgid) && same_word 2 leader 1 leader && is_word (word_at 3 leader) (decimal line.spec.pgid)) (map (task_words_in version users) tasks)
            ≡ list_any (λ leader. eqb leader.pid line.spec.tgid && eqb leader.tgid leader.pid && eqb leader.pgid line.spec.pgid) tasks
        leaders [] are = refl
        leaders (other ∷ tasks) are =
            let small = pid_small siblings line.spec is in
            let small' = pid_small siblings other are.0 in
            rw (
              word_in other 1 (decimal other.pid) refl refl,
              word_in other 2 (decimal other.tgid) refl refl,
              word_in other 3 (decimal other.pgid) refl refl,
              same_number other.pid line.spec.tgid small'.0 small.1,
              same_number other.tgid other.pid small'.1 small'.0,
              same_number other.pgid line.spec.pgid small'.2 small.2,
              leaders tasks are.1,
            ) refl

-- a count has reached a limit, or is below it
past_limit : (limit count : ℕ) → leb limit count ≡ not (ltb count limit)
past_limit limit count =
    elim (cases_lt count limit) [
      | inl below ↦ rw (lt-ltb count limit below) (lt-leb limit count below)
      | inr past ↦ rw (le-ltb count limit past) (le-leb limit count past)
    ]

-- what is read is one thing

abbrev known : {A : Type 0} → A → Read A
known x = Ok x

abbrev failed : {A : Type 0} → BadKind → Read A
failed kind = Err kind

pub ok_is : {A : Type 0} (x y : A) → known x ≡ known y → x ≡ y
ok_is x y e = cc

pub err_is : {A : Type 0} (kind other : BadKind) → failed {A = A} kind ≡ failed other → kind ≡ other
err_is kind other e = cc

-- the kind of a fault, or none
abbrev pub fault_in : Read (Unit {0}) → Option BadKind
fault_in (Ok unit) = None
fault_in (Err kind) = Some kind

four_tests : (fresh led few owned : Bool) → first_held ((not fresh, Twice) ∷ (not led, Leader) ∷ (not few, Full) ∷ (not owned, User) ∷ []) ≡ fault_in (check Twice fresh >>= λ unit. check Leader led >>= λ unit. check Full few >>= λ unit. check User owned)
four_tests true true true true = refl
four_tests true true true false = refl
four_tests true true false owned = refl
four_tests true false few owned = refl
four_tests false led few owned = refl

two_tests : (few owned : Bool) → first_held ((false, Twice) ∷ (false, Leader) ∷ (not few, Full) ∷ (not owned, User) ∷ []) ≡ fault_in (check Full few >>= λ unit. check User owned)
two_tests true true = refl
two_tests true false = refl
two_tests false owned = refl

one_test : (owned : Bool) → first_held ((false, Twice) ∷ (false, Leader) ∷ (false, Full) ∷ (not owned, User) ∷ []) ≡ fault_in (check User owned)
one_test true = refl
one_test false = refl

not_not : (b : Bool) → not (not b) ≡ b
not_not true = refl
not_not false = refl

de_morgan : (a b : Bool) → (not a || b) ≡ not (a && not b)
de_morgan true true = refl
de_morgan true false = refl
de_morgan false b = refl

de_morgan_and : (a b : Bool) → (not a || not b) ≡ not (a && b)
de_morgan_and true b = refl
de_morgan_and false b = refl

above : (n m : ℕ) → ltb n m ≡ not (leb m n)
above n m =
    elim (cases_lt n m) [
      | inl below ↦ lt-ltb n m below ∙ ap not (sym (lt-leb m n below))
      | inr past ↦ le-ltb n m past ∙ ap not (sym (le-leb m n past))
    ]

module _ (head : Head) (is : IsHead head) (plan : Contents) (planned : IsPlan head.version head.siblings head.task_limit plan) where
  abbrev before : List (List Word)
  before = draft_lines head plan

  abbrev version : ℕ
  version = head.version

  are_tasks : AllByRecursion (IsTask head.siblings) plan.tasks
  are_tasks = recursion_from_All (IsTask head.siblings) plan.tasks planned.tasks

  module _ (task : TaskLine) (fits : IsTask head.siblings task.spec) where
    abbrev words : List Word
    words = task_line_words version task

    is_task_line : (name : Word) (b : Bool) → is_word (codes "task") name ≡ b → is_named name words ≡ b
    is_task_line name b h = cond_both (eqb version 2) (user_task_words task.user task.spec) (task_words task.spec) (λ ws. is_named name ws ≡ b) (λ _. h) (λ _. h)

    task_twice : is_twice before words ≡ not (has_fresh_pid plan.tasks task.spec)
    unfolding has_fresh_pid
    task_twice =
        rw (is_task_line (codes "task") true refl)
        (ap (λ (ls : List (List Word)). list_any (λ earlier. same_word 1 earlier 1 words) ls) (tasks_named head plan)
        ∙ twice_same version head.siblings plan.users task fits plan.tasks are_tasks
        ∙ sym (not_not _))

    task_unled : is_unled before words ≡ not (has_leader plan.tasks task.spec)
    task_unled =
        rw (is_task_line (codes "task") true refl)
        (ap (λ (ls : List (List Word)). not (is_led ls words)) (tasks_named head plan)
        ∙ ap not (led_same version head.siblings plan.users task fits plan.tasks are_tasks))

    task_full : is_full before words ≡ not (ltb (length plan.tasks) head.task_limit)
    task_full =
        rw (is_task_line (codes "task") true refl, is_task_line (codes "teach") false refl, is_task_line (codes "step") false refl, limit_said head plan is, tasks_named head plan, length-map plan.tasks (task_words_in version plan.users))
        (or-false _ ∙ or-false _ ∙ past_limit head.task_limit (length plan.tasks))

  -- ---- the rules of users

  has_users_is : has_users before ≡ eqb version 2
  has_users_is = rw (version_said head plan is) refl

  -- how many users the tasks name, by the lines and by the plan
  named_few : eqb version 2 ≡ true → length (users_named (map (task_words_in version plan.users) plan.tasks) (users_words plan.users)) ≡ count_named version plan
  named_few two =
      let version_two : version ≡ 2 = eqb-true version 2 two in
      let all : users_of plan.tasks ≡ take (count_named version plan) plan.users = sym (cond-true (eqb version 2) (users_of plan.tasks) [] two) ∙ planned.named in
      let len : count_named version plan ≤ length plan.users = omega (arith, ap length planned.named, length-take (count_named version plan) plan.users) in
      ap (λ v. length (users_named (map (task_words_in v plan.users) plan.tasks) (users_words plan.users))) version_two
      ∙ length-users_named plan.users planned.apart plan.tasks (count_named version plan) len planned.few_users all

  user_wrong : (user : UserLine) → (user.number ≤ 255) × AreCreds user.creds × IsFirst version (place_after plan) → is_wrong_user before (user_words user.number user.creds) ≡ not (is_next_user plan.users user)
  unfolding is_next_user
  user_wrong user fits =
      let again = number_again 0 255 user.number (omega arith) (zero-le, fits.0) in
      rw (has_users_is, fits.2.second, users_named_here head plan, again.same, length-users_words plan.users, any_same user.number 0 user.creds plan.users fits.1 planned.users)
      (de_morgan (eqb user.number (length plan.users)) (list_any (is_user user.creds) plan.users))

  later_wrong : (line : List Word) → is_named (codes "user") line ≡ false → is_named (codes "task") line ≡ false → is_wrong_user before line ≡ not (are_named version plan)
  unfolding are_named
  later_wrong line no_user no_task =
      rw (has_users_is, no_user, no_task, users_named_here head plan, tasks_named head plan) (by_version (eqb version 2) refl) where
        by_version : (second : Bool) → eqb version 2 ≡ second →
            (second && ltb (length (users_named (map (task_words_in version plan.users) plan.tasks) (users_words plan.users))) (length (users_words plan.users))) ≡ not (leb (length plan.users) (count_named version plan))
        by_version true two = rw (named_few two, length-users_words plan.users) (above (count_named version plan) (length plan.users))
        by_version false one =
            let none : length plan.users ≡ 0 = ap length (planned.no_users one) in
            ap not (sym (le-leb (length plan.users) (count_named version plan) (omega arith)))

  task_wrong : (task : TaskLine) → HasOwner version plan.users task → is_wrong_user before (task_line_words version task) ≡ not (may_name version task.user plan)
  unfolding may_name
  task_wrong task owns = by_version (eqb version 2) refl where
    by_version : (second : Bool) → eqb version 2 ≡ second →
        is_wrong_user before (task_line_words version task) ≡ not (not (eqb version 2) || (ltb task.user (length plan.users) && leb task.user (count_named version plan)))
    by_version false one = rw (has_users_is, one) refl
    by_version true two =
        let again = number_again 0 255 task.user (omega arith) (zero-le, owns.few) in
        let few : length (users_named (map (task_words_in version plan.users) plan.tasks) (users_words plan.users)) ≡ length (users_of plan.tasks) =
        named_few two ∙ ap length (cond-true (eqb version 2) (users_of plan.tasks) [] two) in
        rw (
          has_users_is,
          users_named_here head plan,
          tasks_named head plan,
          few,
          two,
          any_number task.user plan.users planned.few_users (omega (arith, owns.few)),
          again.same,
          above (length (users_of plan.tasks)) task.user,
        ) (de_morgan_and (ltb task.user (length plan.users)) (leb task.user (length (users_of plan.tasks))))

  -- ---- every line

  teach_full : (teach : Teach) → is_full before (teach_words teach) ≡ not (ltb (length plan.teaches) 64)
  teach_full teach =
      rw (teaches_named head plan, length-map plan.teaches teach_words) (or-false _ ∙ past_limit 64 (length plan.teaches))

  step_full : (step : Step) → is_full before (step_words step) ≡ not (ltb (length plan.steps) 100000)
  step_full step = rw (steps_named head plan, length-map plan.steps step_words) (past_limit 100000 (length plan.steps))

  -- a line that is right in its form goes wrong as the test on it does
  pub wrong_is : (line : ScenarioLine) → IsLine version head.siblings plan.users (place_after plan) line → goes_wrong before (line_words version line) ≡ fault_in (line_check version head.task_limit line plan)
  unfolding line_check
  wrong_is (forms.User user) fits = rw (user_wrong user fits) (one_test (is_next_user plan.users user))
  wrong_is (forms.Task task) fits =
      rw (task_twice task fits.0, task_unled task fits.0, task_full task fits.0, task_wrong task fits.1)
      (four_tests (has_fresh_pid plan.tasks task.spec) (has_leader plan.tasks task.spec) (ltb (length plan.tasks) head.task_limit) (may_name version task.user plan))
  wrong_is (forms.Teach teach) fits = rw (teach_full teach, later_wrong (teach_words teach) refl refl) (two_tests (ltb (length plan.teaches) 64) (are_named version plan))
  wrong_is (forms.Step step) fits = rw (step_full step, later_wrong (step_words step) refl refl) (two_tests (ltb (length plan.steps) 100000) (are_named version plan))
  wrong_is forms.End fits = rw (later_wrong end_words refl refl) (one_test (are_named version plan))

  -- no form is longer than a task line
  forms_short : AreShort (forms_after before)
  forms_short = subst AreShort (sym (forms_are head plan is)) (short (eqb version 2) (not (eqb version 2) || place.is_after_task || place.is_after_teach || place.is_after_step) (place.is_after_teach || place.is_after_step) place.is_after_step) where
    place : Place
    place = place_after plan

    short : (second no_users no_tasks no_teaches : Bool) → AreShort (cond no_users [] (user_form ∷ []) ++ cond no_tasks [] ((keyword (codes "task") ∷ pid ∷ pid ∷ pid ∷ sibling head.siblings ∷ policy ∷ cond second (user ∷ []) creds_form) ∷ []) ++ cond no_teaches [] (teach_form ∷ []) ++ end_form ∷ step_forms head.siblings)
    short second true true true = refl
    short second true true false = refl
    short true true false true = refl
    short false true false true = refl
    short true true false false = refl
    short false true false false = refl
    short second false true true = refl
    short second false true false = refl
    short true false false true = refl
    short false false false true = refl
    short true false false false = refl
    short false false false false = refl

  -- ---- the line behind a draft

  -- what the next line is, where it is right and may follow
  pub record NextLine (line : ScenarioLine) (lines rest : List (List Word)) : Type 0 where
    pub next : List Word
    pub more : List (List Word)
    pub lines_are : lines ≡ line_words version line ∷ next ∷ more
    pub rest_is : rest ≡ next ∷ more
    pub fits : IsLine version head.siblings plan.users (place_after plan) line
    pub checked : line_check version head.task_limit line plan ≡ Ok tt
    pub good : kind_of before lines ≡ None

  few_siblings : (1 ≤ head.siblings) × (head.siblings < 256)
  few_siblings = let two = siblings_within head is in (omega arith, omega arith)

  judged_line : (words : List Word) → Judged (line_of version head.siblings plan.users (place_after plan) (parts words)) (forms_after before) words
  judged_line words =
      subst (λ (fs : List Form). Judged (line_of version head.siblings plan.users (place_after plan) (parts words)) fs words) (sym (forms_are head plan is)) (line_judged version head.siblings plan.users (place_after plan) words)

  abbrev with_rest : {A : Type 0} → List (List Word) → A → Read (A × List (List Word))
  with_rest rest x = Ok (x, rest)

  -- what follows from what was read
  abbrev then_checked : Read ScenarioLine → List (List Word) → Read (ScenarioLine × List (List Word))
  then_checked read rest = read >>= λ line. line_check version head.task_limit line plan >>= λ follows. with_rest rest line

  module _ (words next : List Word) (more : List (List Word)) (whole : list_any (λ word. eqb (length word) 0) words ≡ false) where
    abbrev lines : List (List Word)
    lines = words ∷ next ∷ more

    -- a line that was read in its form is told as the test on it is
    told_by_check : (read : ScenarioLine) → line_of version head.siblings plan.users (place_after plan) (parts words) ≡ Ok read → kind_of before lines ≡ fault_in (line_check version head.task_limit read plan)
    told_by_check read e =
        let says = line_is version head.siblings few_siblings.0 few_siblings.1 plan.users planned.users (place_after plan) words read e in
        right_kind before (no_end head plan) words next more whole read (subst (λ (r : Read ScenarioLine). Judged r (forms_after before) words) e (judged_line words))
        ∙ ap (goes_wrong before) says.0
        ∙ wrong_is read says.1

    good_check : (read line : ScenarioLine) (rest : List (List Word)) (c : Read (Unit {0})) → line_of version head.siblings plan.users (place_after plan) (parts words) ≡ Ok read → line_check version head.task_limit read plan ≡ c →
        (c >>= λ follows. with_rest (next ∷ more) read) ≡ Ok (line, rest) → NextLine line lines rest
    good_check read line rest (Ok unit) e k h =
        let both = ok_is (read, next ∷ more) (line, rest) h in
        let same : read ≡ line = ap (λ (p : ScenarioLine × List (List Word)). p.0) both in
        let left : next ∷ more ≡ rest = ap (λ (p : ScenarioLine × List (List Word)). p.1) both in
        let says = line_is version head.siblings few_siblings.0 few_siblings.1 plan.users planned.users (place_after plan) words read e in
        let made : NextLine read lines (next ∷ more) = record {
          next = next;
          more = more;
          lines_are = ap (λ (ws : List Word). ws ∷ next ∷ more) says.0;
          rest_is = refl;
          fits = says.1;
          checked = k;
          good = told_by_check read e ∙ ap fault_in k;
        } in
        rw (← same, ← left) made
    good_check read line rest (Err kind) e k h = absurd cc

    good_line : (r : Read ScenarioLine) (line : ScenarioLine) (rest : List (List Word)) → line_of version head.siblings plan.users (place_after plan) (parts words) ≡ r → then_checked r (next ∷ more) ≡ Ok (line, rest) → NextLine line lines rest
    good_line (Ok read) line rest e h = good_check read line rest (line_check version head.task_limit read plan) e refl h
    good_line (Err kind) line rest e h = absurd cc

    bad_check : (read : ScenarioLine) (kind : BadKind) (c : Read (Unit {0})) → line_of version head.siblings plan.users (place_after plan) (parts words) ≡ Ok read → line_check version head.task_limit read plan ≡ c →
        (c >>= λ follows. with_rest (next ∷ more) read) ≡ Err kind → kind_of before lines ≡ Some kind
    bad_check read kind (Ok unit) e k h = absurd cc
    bad_check read kind (Err found) e k h =
        let same = err_is {A = ScenarioLine × List (List Word)} found kind h in told_by_check read e ∙ ap fault_in k ∙ ap Some same

    bad_line : (r : Read ScenarioLine) (kind : BadKind) → line_of version head.siblings plan.users (place_after plan) (parts words) ≡ r → then_checked r (next ∷ more) ≡ Err kind → kind_of before lines ≡ Some kind
    bad_line (Ok read) kind e h = bad_check read kind (line_check version head.task_limit read plan) e refl h
    bad_line (Err found) kind e h =
        let same = err_is {A = ScenarioLine × List (List Word)} found kind h in
        judged_kind before (no_end head plan) words next more whole ScenarioLine found (subst (λ (r : Read ScenarioLine). Judged r (forms_after before) words) e (judged_line words))
        ∙ ap Some same

  whole_words : (words : List Word) → usable words ≡ true → list_any (λ word. eqb (length word) 0) words ≡ false
  whole_words words h = not-true _ (and_parts (leb (length words) 15) _ h).1

  good_words : (words next : List Word) (more : List (List Word)) (u : Bool) → usable words ≡ u → (line : ScenarioLine) (rest : List (List Word)) →
      (cond u (Ok words) (Err Shape) >>= with_rest (next ∷ more) >>= λ taken. then_checked (line_of version head.siblings plan.users (place_after plan) (parts taken.0)) taken.1) ≡ Ok (line, rest) → NextLine line (words ∷ next ∷ more) rest
  good_words words next more true e line rest h =
      good_line words next more (whole_words words e) (line_of version head.siblings plan.users (place_after plan) (parts words)) line rest refl h
  good_words words next more false e line rest h = absurd cc

  bad_words : (words next : List Word) (more : List (List Word)) (u : Bool) → usable words ≡ u → (kind : BadKind) →
      (cond u (Ok words) (Err Shape) >>= with_rest (next ∷ more) >>= λ taken. then_checked (line_of version head.siblings plan.users (place_after plan) (parts taken.0)) taken.1) ≡ Err kind → kind_of before (words ∷ next ∷ more) ≡ Some kind
  bad_words words next more true e kind h =
      bad_line words next more (whole_words words e) (line_of version head.siblings plan.users (place_after plan) (parts words)) kind refl h
  bad_words words next more false e kind h =
      let same = err_is {A = ScenarioLine × List (List Word)} Shape kind h in
      unusable_kind before (no_end head plan) words next more forms_short e ∙ ap Some same

  -- a line that is taken is right, and may follow
  pub next_good : (lines : List (List Word)) (line : ScenarioLine) (rest : List (List Word)) → next_of head plan lines ≡ Ok (line, rest) → NextLine line lines rest
  unfolding next_of
  next_good [] line rest h = absurd cc
  next_good (words ∷ []) line rest h = absurd cc
  next_good (words ∷ next ∷ more) line rest h = good_words words next more (usable words) refl line rest h

  -- a line that is refused has this kind
  pub next_bad : (lines : List (List Word)) (kind : BadKind) → 1 ≤ length lines → next_of head plan lines ≡ Err kind → kind_of before lines ≡ Some kind
  unfolding next_of
  next_bad [] kind some h = absurd (omega arith)
  next_bad (words ∷ []) kind some h = let same = err_is {A = ScenarioLine × List (List Word)} Cut kind h in cut_kind before (no_end head plan) words ∙ ap Some same
  next_bad (words ∷ next ∷ more) kind some h = bad_words words next more (usable words) refl kind h

  -- a line that is right and may follow is taken
  pub next_again : (line : ScenarioLine) (next : List Word) (more : List (List Word)) → IsLine version head.siblings plan.users (place_after plan) line → line_check version head.task_limit line plan ≡ Ok tt →
      next_of head plan (line_words version line ∷ next ∷ more) ≡ Ok (line, next ∷ more)
  unfolding next_of
  next_again line next more fits checked =
      rw (usable_line version head.siblings plan.users few_siblings.1 (place_after plan) line fits, line_again version head.siblings plan.users (place_after plan) few_siblings.1 line fits, checked) refl

-- fewer lines are left behind a line
pub is_shorter : (lines rest more : List (List Word)) (words next : List Word) → lines ≡ words ∷ next ∷ more → rest ≡ next ∷ more → length rest < length lines
is_shorter lines rest more words next lines_are rest_is = omega (arith, ap length lines_are, ap length rest_is)
