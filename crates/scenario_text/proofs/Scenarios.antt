-- Scenarios: what is read from a text is the scenario of the text, and no line of a scenario's text is bad.
use Rattle.std.proofs.Common.{◌≡◌, ℕ, ◌+◌, ◌<◌, ◌≤◌, Bool, true, false, cond, eqb, List, [], ◌∷◌, ◌++◌, length, map, get_or, take_all, Result, Ok, Err, refl, sym, ap, subst, ◌∙◌, arith, append_assoc, inl, inr, All}
use Rattle.std.specs.Prelude.{◌⊎◌, MatchResult, IfOk, IsErrAnd, codes}
use Rattle.std.specs.List.{AllByRecursion, range_with_len, enumerate_from}
use Rattle.std.proofs.lemmas.Bool.{both_ways, cond_both, cond-true, cond-false, leb-true}
use Rattle.std.proofs.lemmas.List.{append-nil, length-map}
use Rattle.std.proofs.lemmas.List.Elements.{All-nil, All-from_recursion, recursion_from_All}
use Rattle.cs_types.specs.declared.task.Creds.{Creds}
use Rattle.cs_types.specs.declared.task.TaskSpec.{TaskSpec}
use Rattle.cs_types.specs.declared.event.Step.{Step}
use Rattle.cs_types.specs.declared.scenario.Scenario.{Scenario}
use Rattle.cs_types.specs.declared.scenario.Teach.{Teach}
use Rattle.cs_types.specs.Scenario.{AreCreds, users_of, user_lines, IsTask, IsTeach, AreNumbered, IsStep, IsValid}
use Rattle.scenario_text.specs.declared.fault.BadKind.{BadKind}
use Rattle.scenario_text.specs.declared.fault.ReadFault.{ReadFault}
use Rattle.scenario_text.specs.declared.fault.ReadFault.TheVariants.{Bad, OutOfMemory}
use Rattle.scenario_text.specs.declared.head.Head.{Head}
use Rattle.scenario_text.specs.declared.task.UserLine.{UserLine}
use Rattle.scenario_text.specs.declared.task.TaskLine.{TaskLine}
use Rattle.scenario_text.specs.Words.{Word, user_words, teach_words}
use Rattle.scenario_text.specs.Text.{users_words, number_of, task_words_in, users_in, step_words, end_words, scenario_lines}
use Rattle.scenario_text.specs.Faults.{lines_in, is_named, named, IsFirstBad}
use Rattle.scenario_text.specs.Reader.{IsTextOf, HasNoScenario, HasOneScenario}
use Rattle.scenario_text.specs.Grammar.{user_form, task_form, teach_form}
use Rattle.scenario_text.specs.Reading.{parts, read_in, user_value, user_at, task_value, teach_value, step_line, version_reading, siblings_reading, limits_reading, count_words, head_words, Contents, count_named, are_named, AreApart, IsHead, head_lines, IsPlan, plan_lines, nothing, ReadsLines}
use Rattle.scenario_text.proofs.Texts.{lines_in-flat_map, text_is}
use Rattle.scenario_text.proofs.Heads.{version_again, count_again, limits_again}
use Rattle.scenario_text.proofs.Tasks.{task_line_words, HasOwner, user_again, task_again, teach_again}
use Rattle.scenario_text.proofs.Steps.{step_again}
use Rattle.scenario_text.proofs.Plain.{users_kept, plain_scenario}
use Rattle.scenario_text.proofs.Users.{apart_different, users_few, there_is, owned}
use Rattle.scenario_text.proofs.Drafts.{ok_is, draft_lines, siblings_within, filter-append, users_named_here, tasks_named, teaches_named, steps_named}
use Rattle.scenario_text.proofs.Firsts.{one_first}
use Rattle.scenario_text.proofs.Again.{none_bad}

-- ---- a scenario, as its head and its plan

abbrev pub head_of : Scenario → Head
head_of s =
    record { version = s.version; siblings = s.siblings; task_limit = s.task_limit; cookie_limit = s.cookie_limit; user_top = s.user_top }

abbrev pub plan_of : Scenario → Contents
plan_of s = record { users = users_in s.version s.tasks; tasks = s.tasks; teaches = s.teaches; steps = s.steps }

abbrev made_of : Head → Contents → Scenario
made_of head plan =
    record {
      version = head.version;
      siblings = head.siblings;
      task_limit = head.task_limit;
      cookie_limit = head.cookie_limit;
      user_top = head.user_top;
      tasks = plan.tasks;
      teaches = plan.teaches;
      steps = plan.steps;
    }

-- users that have lines are as many as a text has lines for them
user_lines_is : (version : ℕ) (tasks : List TaskSpec) → length (users_in version tasks) ≡ user_lines version tasks
user_lines_is version tasks = by_version (eqb version 2) where
  by_version : (second : Bool) → length (cond second (users_of tasks) []) ≡ cond second (length (users_of tasks)) 0
  by_version true = refl
  by_version false = refl

-- where each user is named, the users are those of the tasks
users_complete : (version siblings limit : ℕ) (plan : Contents) → IsPlan version siblings limit plan → are_named version plan ≡ true → plan.users ≡ users_in version plan.tasks
unfolding are_named
users_complete version siblings limit plan p named =
    let all : length plan.users ≤ count_named version plan = leb-true _ _ named in
    sym (p.named ∙ take_all (count_named version plan) plan.users all)

-- what is read is spelled so
pub made_is : (head : Head) (plan : Contents) (lines rest : List (List Word)) → IsHead head → lines ≡ head_lines head ++ rest → IsPlan head.version head.siblings head.task_limit plan → are_named head.version plan ≡ true → rest ≡ plan_lines head.version plan ++ end_words ∷ nothing →
    IsValid (made_of head plan) × (lines ≡ scenario_lines (made_of head plan) ++ nothing)
made_is head plan lines rest h cut p named left =
    let users = users_complete head.version head.siblings head.task_limit plan p named in (
      record {
        version = h.version;
        siblings = h.siblings;
        task_limit = h.task_limit;
        cookie_limit = h.cookie_limit;
        user_top = h.user_top;
        tasks = p.tasks;
        distinct = p.distinct;
        led = p.led;
        few_tasks = p.few_tasks;
        teaches = p.teaches;
        numbered = subst (λ n. AreNumbered (n + length plan.tasks) plan.teaches) (ap length users ∙ user_lines_is head.version plan.tasks) p.numbered;
        few_teaches = p.few_teaches;
        steps = p.steps;
        few_steps = p.few_steps;
      },
      cut
          ∙ ap (λ (ls : List (List Word)). head_lines head ++ ls) (left
          ∙ ap (λ (us : List Creds). plan_lines head.version (record plan { users = us }) ++ end_words ∷ nothing) users
          ∙ sym (append_assoc (plan_lines head.version (record plan { users = users_in head.version plan.tasks })) (end_words ∷ []) nothing)),
    )

-- the users of a scenario have credentials
kept : (version : ℕ) (tasks : List TaskSpec) (siblings : ℕ) → All (IsTask siblings) tasks → All AreCreds (users_in version tasks)
kept version tasks siblings are =
    cond_both (eqb version 2) (users_of tasks) [] (All AreCreds) (λ _. All-from_recursion AreCreds (users_of tasks) (users_kept tasks siblings are)) (λ _. All-nil AreCreds)

-- and a valid scenario is made up of these
pub head_is : (s : Scenario) → IsValid s → IsHead (head_of s)
head_is s valid =
    record { version = valid.version; siblings = valid.siblings; task_limit = valid.task_limit; cookie_limit = valid.cookie_limit; user_top = valid.user_top }

pub plan_is : (s : Scenario) → IsValid s → IsPlan s.version s.siblings s.task_limit (plan_of s)
plan_is s valid = record {
  users = kept s.version s.tasks s.siblings valid.tasks;
  apart = cond_both (eqb s.version 2) (users_of s.tasks) [] AreApart (λ _. apart_different (map (λ task. task.creds) s.tasks)) (λ _ i j d lt below. absurd (omega arith));
  few_users = omega (arith, users_few s.version s.tasks, valid.few_tasks, valid.task_limit);
  no_users = λ one. cond-false (eqb s.version 2) _ _ one;
  named = sym (take_all (length (users_in s.version s.tasks)) (users_in s.version s.tasks) (omega arith));
  tasks = valid.tasks;
  distinct = valid.distinct;
  led = valid.led;
  few_tasks = valid.few_tasks;
  teaches = valid.teaches;
  numbered = subst (λ n. AreNumbered (n + length s.tasks) s.teaches) (sym (user_lines_is s.version s.tasks)) valid.numbered;
  few_teaches = valid.few_teaches;
  steps = valid.steps;
  few_steps = valid.few_steps;
}

-- the lines of a scenario's text
text_lines : (bytes : List ℕ) (s : Scenario) → IsTextOf bytes s → lines_in bytes ≡ scenario_lines s ++ nothing
text_lines bytes s is = ap lines_in is.text ∙ lines_in-flat_map (scenario_lines s) (plain_scenario s is.valid)

pub found_is : (bytes : List ℕ) (s : Scenario) → ReadsLines (lines_in bytes) (Ok s) → IsTextOf bytes s
found_is bytes s read = record { valid = read.0; text = text_is bytes (scenario_lines s) read.1 }

-- ---- one scenario

same_cons : {X : Type 0} (x y : X) (xs ys : List X) → x ∷ xs ≡ y ∷ ys → (x ≡ y) × (xs ≡ ys)
same_cons x y xs ys e = (cc, cc)

not_cons : {X : Type 0} (x : X) (xs : List X) → x ∷ xs ≡ [] → ⊥
not_cons x xs e = absurd cc

-- lists that are spelled alike
map_same : {X Y : Type 0} (f : X → Y) (P : X → Type 0) → ((x y : X) → P x → P y → f x ≡ f y → x ≡ y) → (xs ys : List X) → AllByRecursion P xs → AllByRecursion P ys → map f xs ≡ map f ys → xs ≡ ys
map_same f P same [] [] are are' e = refl
map_same f P same [] (y ∷ ys) are are' e = absurd (not_cons (f y) (map f ys) (sym e))
map_same f P same (x ∷ xs) [] are are' e = absurd (not_cons (f x) (map f xs) e)
map_same f P same (x ∷ xs) (y ∷ ys) are are' e =
    let parts = same_cons (f x) (f y) (map f xs) (map f ys) e in
    let first = same x y are.0 are'.0 parts.0 in
    let rest = map_same f P same xs ys are.1 are'.1 parts.1 in
    λ i. first i ∷ rest i

-- a task, with the number of its user
abbrev owner_of : ℕ → List Creds → TaskSpec → ℕ
owner_of version users task = cond (eqb version 2) (number_of users task.creds) 0

-- a task of a scenario, whose user has a line in version 2
record IsOwned (version siblings : ℕ) (users : List Creds) (task : TaskSpec) : Type 0 where
  is : IsTask siblings task
  inside : eqb version 2 ≡ true → number_of users task.creds < length users

has_owner : (version siblings : ℕ) (users : List Creds) → length users ≤ 256 → (task : TaskSpec) → IsOwned version siblings users task → HasOwner version users (record { spec = task; user = owner_of version users task })
has_owner version siblings users few task owned = by_version (eqb version 2) refl where
  by_version : (second : Bool) → eqb version 2 ≡ second → HasOwner version users (record { spec = task; user = owner_of version users task })
  by_version false one =
      let none : owner_of version users task ≡ 0 = cond-false (eqb version 2) _ _ one in
      record { first = λ _. none; few = omega arith; second = λ two. absurd (both_ways (eqb version 2) one two) }
  by_version true two =
      let number : owner_of version users task ≡ number_of users task.creds = cond-true (eqb version 2) _ _ two in
      let inside = owned.inside two in
      record {
        first = λ one. absurd (both_ways (eqb version 2) one two);
        few = omega arith;
        second = λ _. there_is users task.creds inside ∙ ap (user_at users) (sym number);
      }

line_is_words : (version : ℕ) (users : List Creds) (task : TaskSpec) → task_line_words version (record { spec = task; user = owner_of version users task }) ≡ task_words_in version users task
line_is_words version users task = by_version (eqb version 2) refl where
  by_version : (second : Bool) → eqb version 2 ≡ second → task_line_words version (record { spec = task; user = owner_of version users task }) ≡ task_words_in version users task
  by_version true two = rw two refl
  by_version false one = rw one refl

task_same : (version siblings : ℕ) (users : List Creds) → siblings < 256 → length users ≤ 256 → (task other : TaskSpec) → IsOwned version siblings users task → IsOwned version siblings users other → task_words_in version users task ≡ task_words_in version users other → task ≡ other
task_same version siblings users small few task other is is' e =
    let read = λ (ws : List Word). read_in ((task_form version siblings, task_value version users) ∷ []) (parts ws) in
    let line = ok_is (record { spec = task; user = owner_of version users task }) (record { spec = other; user = owner_of version users other })
    (sym (task_again siblings small users (record { spec = task; user = owner_of version users task }) is.is version (has_owner version siblings users few task is))
    ∙ ap read (line_is_words version users task ∙ e ∙ sym (line_is_words version users other))
    ∙ task_again siblings small users (record { spec = other; user = owner_of version users other }) is'.is version (has_owner version siblings users few other is')) in
    ap (λ (l : TaskLine). l.spec) line

-- users that are spelled alike
user_same : (n : ℕ) → n ≤ 255 → (a b : Creds) → AreCreds a → AreCreds b → user_words n a ≡ user_words n b → a ≡ b
user_same n few a b is is' e =
    let line = ok_is (record { number = n; creds = a }) (record { number = n; creds = b })
    (sym (user_again (record { number = n; creds = a }) few is) ∙ ap (λ (ws : List Word). read_in ((user_form, user_value) ∷ []) (parts ws)) e ∙ user_again (record { number = n; creds = b }) few is') in
    ap (λ (l : UserLine). l.creds) line

users_same : (us ts : List Creds) (start : ℕ) → start + length us ≤ 256 → AllByRecursion AreCreds us → AllByRecursion AreCreds ts →
    map (λ (numbered : ℕ × Creds). user_words numbered.0 numbered.1) (enumerate_from start us) ≡ map (λ (numbered : ℕ × Creds). user_words numbered.0 numbered.1) (enumerate_from start ts) → us ≡ ts
users_same [] [] start few are are' e = refl
users_same [] (y ∷ ys) start few are are' e = absurd (not_cons (user_words start y) _ (sym e))
users_same (x ∷ xs) [] start few are are' e = absurd (not_cons (user_words start x) _ e)
users_same (x ∷ xs) (y ∷ ys) start few are are' e =
    let parts = same_cons _ _ _ _ e in
    let first = user_same start (omega arith) x y are.0 are'.0 parts.0 in
    let rest = users_same xs ys (start + 1) (omega arith) are.1 are'.1 parts.1 in
    λ i. first i ∷ rest i

step_same : (siblings : ℕ) → siblings < 256 → (step other : Step) → IsStep siblings step → IsStep siblings other → step_words step ≡ step_words other → step ≡ other
step_same siblings few step other is is' e =
    ok_is step other (sym (step_again siblings step.actor step.event few is) ∙ ap (λ (ws : List Word). step_line siblings (parts ws)) e ∙ step_again siblings other.actor other.event few is')

-- what a teach line says, beside its number
abbrev told : Teach → ℕ × List Word
told teach = (teach.line, teach_words teach)

teach_same : (teach other : Teach) → IsTeach teach → IsTeach other → told teach ≡ told other → teach ≡ other
teach_same teach other is is' e =
    ok_is teach other (sym (teach_again teach is) ∙ ap (λ (p : ℕ × List Word). read_in ((teach_form, teach_value p.0) ∷ []) (parts p.1)) e ∙ teach_again other is')

abbrev both : {X A B : Type 0} → (X → A) → (X → B) → X → A × B
both f g x = (f x, g x)

map_pair : {X A B : Type 0} (f : X → A) (g : X → B) (xs ys : List X) → map f xs ≡ map f ys → map g xs ≡ map g ys → map (both f g) xs ≡ map (both f g) ys
map_pair f g [] [] e k = refl
map_pair f g [] (y ∷ ys) e k = absurd (not_cons (f y) (map f ys) (sym e))
map_pair f g (x ∷ xs) [] e k = absurd (not_cons (f x) (map f xs) e)
map_pair f g (x ∷ xs) (y ∷ ys) e k =
    let first = same_cons (f x) (f y) (map f xs) (map f ys) e in
    let second = same_cons (g x) (g y) (map g xs) (map g ys) k in
    let rest = map_pair f g xs ys first.1 second.1 in
    λ i. (first.0 i, second.0 i) ∷ rest i

-- the lines of one form among those of a text
abbrev whole : Scenario → List (List Word)
whole s = draft_lines (head_of s) (plan_of s) ++ end_words ∷ nothing

users_given : (s : Scenario) → named (codes "user") (whole s) ≡ users_words (users_in s.version s.tasks)
users_given s =
    filter-append (is_named (codes "user")) (draft_lines (head_of s) (plan_of s)) (end_words ∷ nothing)
    ∙ append-nil (named (codes "user") (draft_lines (head_of s) (plan_of s)))
    ∙ users_named_here (head_of s) (plan_of s)

tasks_of : (s : Scenario) → named (codes "task") (whole s) ≡ map (task_words_in s.version (users_in s.version s.tasks)) s.tasks
tasks_of s =
    filter-append (is_named (codes "task")) (draft_lines (head_of s) (plan_of s)) (end_words ∷ nothing)
    ∙ append-nil (named (codes "task") (draft_lines (head_of s) (plan_of s)))
    ∙ tasks_named (head_of s) (plan_of s)

teaches_of : (s : Scenario) → named (codes "teach") (whole s) ≡ map teach_words s.teaches
teaches_of s =
    filter-append (is_named (codes "teach")) (draft_lines (head_of s) (plan_of s)) (end_words ∷ nothing)
    ∙ append-nil (named (codes "teach") (draft_lines (head_of s) (plan_of s)))
    ∙ teaches_named (head_of s) (plan_of s)

steps_of : (s : Scenario) → named (codes "step") (whole s) ≡ map step_words s.steps
steps_of s =
    filter-append (is_named (codes "step")) (draft_lines (head_of s) (plan_of s)) (end_words ∷ nothing)
    ∙ append-nil (named (codes "step") (draft_lines (head_of s) (plan_of s)))
    ∙ steps_named (head_of s) (plan_of s)

whole_is : (s : Scenario) → scenario_lines s ++ nothing ≡ whole s
whole_is s = ap (λ (ls : List (List Word)). head_lines (head_of s) ++ ls) (append_assoc (plan_lines s.version (plan_of s)) (end_words ∷ []) nothing)

module _ (s t : Scenario) (is : IsValid s) (is' : IsValid t) (e : whole s ≡ whole t) where
  same_version : s.version ≡ t.version
  same_version =
      ok_is s.version t.version
      (sym (version_again s.version is.version) ∙ ap (λ (ls : List (List Word)). read_in version_reading (parts (get_or ls 0 []))) e ∙ version_again t.version is'.version)

  same_siblings : s.siblings ≡ t.siblings
  same_siblings =
      ok_is s.siblings t.siblings
      (sym (count_again s.version s.siblings is.siblings)
      ∙ ap (λ (n : ℕ). read_in (siblings_reading n) (parts (count_words s.siblings))) same_version
      ∙ ap (λ (ls : List (List Word)). read_in (siblings_reading t.version) (parts (get_or ls 1 []))) e
      ∙ count_again t.version t.siblings is'.siblings)

  same_head : head_of s ≡ head_of t
  same_head =
      ok_is (head_of s) (head_of t)
      (sym (limits_again (head_of s) (head_is s is))
      ∙ (λ i. read_in (limits_reading (same_version i) (same_siblings i)) (parts (head_words (head_of s))))
      ∙ ap (λ (ls : List (List Word)). read_in (limits_reading t.version t.siblings) (parts (get_or ls 2 []))) e
      ∙ limits_again (head_of t) (head_is t is'))

  few : t.siblings < 256
  few = let two = siblings_within (head_of t) (head_is t is') in omega arith

  short : length (users_in t.version t.tasks) ≤ 256
  short = omega (arith, users_few t.version t.tasks, is'.few_tasks, is'.task_limit)

  same_users : users_in s.version s.tasks ≡ users_in t.version t.tasks
  same_users =
      users_same (users_in s.version s.tasks) (users_in t.version t.tasks) 0 (omega (arith, users_few s.version s.tasks, is.few_tasks, is.task_limit))
      (recursion_from_All AreCreds _ (kept s.version s.tasks s.siblings is.tasks)) (recursion_from_All AreCreds _ (kept t.version t.tasks t.siblings is'.tasks))
      (sym (users_given s) ∙ ap (named (codes "user")) e ∙ users_given t)

  are_owned : (u : Scenario) (are : All (IsTask t.siblings) u.tasks) → u.version ≡ t.version → users_in u.version u.tasks ≡ users_in t.version t.tasks → All (IsOwned t.version t.siblings (users_in t.version t.tasks)) u.tasks
  are_owned u are version users k d lt = record {
    is = are k d lt;
    inside = λ two.
        let all : users_of u.tasks ≡ users_in t.version t.tasks = sym (cond-true (eqb u.version 2) _ _ (ap (λ n. eqb n 2) version ∙ two)) ∙ users in
        subst (λ us. number_of us (get_or u.tasks k d).creds < length us) all (owned u.tasks k d lt);
  }

  same_tasks : s.tasks ≡ t.tasks
  same_tasks =
      let users = users_in t.version t.tasks in
      map_same (task_words_in t.version users) (IsOwned t.version t.siblings users) (task_same t.version t.siblings users few short) s.tasks t.tasks
      (recursion_from_All _ s.tasks (are_owned s (subst (λ (n : ℕ). All (IsTask n) s.tasks) same_siblings is.tasks) same_version same_users))
      (recursion_from_All _ t.tasks (are_owned t is'.tasks refl refl))
      ((λ i. map (task_words_in (sym same_version i) (sym same_users i)) s.tasks) ∙ sym (tasks_of s) ∙ ap (named (codes "task")) e ∙ tasks_of t)

  same_steps : s.steps ≡ t.steps
  same_steps =
      map_same step_words (IsStep t.siblings) (step_same t.siblings few) s.steps t.steps
      (recursion_from_All (IsStep t.siblings) s.steps (subst (λ (n : ℕ). All (IsStep n) s.steps) same_siblings is.steps))
      (recursion_from_All (IsStep t.siblings) t.steps is'.steps)
      (sym (steps_of s) ∙ ap (named (codes "step")) e ∙ steps_of t)

  same_teaches : s.teaches ≡ t.teaches
  same_teaches =
      let words : map teach_words s.teaches ≡ map teach_words t.teaches = sym (teaches_of s) ∙ ap (named (codes "teach")) e ∙ teaches_of t in
      let count : length s.teaches ≡ length t.teaches = sym (length-map s.teaches teach_words) ∙ ap length words ∙ length-map t.teaches teach_words in
      let numbers : map (λ teach. teach.line) s.teaches ≡ map (λ teach. teach.line) t.teaches =
      is.numbered
      ∙ (λ i. range_with_len (user_lines (same_version i) (same_tasks i) + length (same_tasks i) + 4) (length s.teaches))
      ∙ ap (range_with_len (user_lines t.version t.tasks + length t.tasks + 4)) count
      ∙ sym is'.numbered in
      map_same told IsTeach teach_same s.teaches t.teaches (recursion_from_All IsTeach s.teaches is.teaches) (recursion_from_All IsTeach t.teaches is'.teaches)
      (map_pair (λ teach. teach.line) teach_words s.teaches t.teaches numbers words)

  same_scenario : s ≡ t
  same_scenario = λ i. made_of (same_head i) (record { users = same_users i; tasks = same_tasks i; teaches = same_teaches i; steps = same_steps i })

pub one_scenario : (bytes : List ℕ) → HasOneScenario bytes
one_scenario bytes s t is is' =
    same_scenario s t is.valid is'.valid (sym (whole_is s) ∙ sym (text_lines bytes s is) ∙ text_lines bytes t is' ∙ whole_is t)

-- ---- the reader

-- a text with a bad line is no scenario's
pub none_of : (bytes : List ℕ) (number : ℕ) (kind : BadKind) → IsFirstBad (lines_in bytes) number kind → HasNoScenario bytes
none_of bytes number kind bad s is =
    none_bad (head_of s) (head_is s is.valid) (plan_of s) (plan_is s is.valid) refl number kind
    (subst (λ (ls : List (List Word)). IsFirstBad ls number kind) (text_lines bytes s is ∙ whole_is s) bad)

pub found_of : (bytes : List ℕ) (r : Result Scenario ReadFault) → ReadsLines (lines_in bytes) r → IfOk r (IsTextOf bytes)
found_of bytes (Ok s) read = found_is bytes s read
found_of bytes (Err fault) read = tt

pub only_of : (bytes : List ℕ) (r : Result Scenario ReadFault) → ReadsLines (lines_in bytes) r → (s : Scenario) → IsTextOf bytes s → MatchResult r (λ read. read ≡ s) (λ fault. fault ≡ OutOfMemory)
only_of bytes (Ok found) read s is = one_scenario bytes found s (found_is bytes found read) is
only_of bytes (Err OutOfMemory) read s is = refl
only_of bytes (Err (Bad number kind)) read s is = absurd (none_of bytes number kind read s is)

pub bad_of : (bytes : List ℕ) (r : Result Scenario ReadFault) → ReadsLines (lines_in bytes) r → (number : ℕ) (kind : BadKind) → IsFirstBad (lines_in bytes) number kind →
    IsErrAnd r (λ fault. (fault ≡ Bad number kind) ⊎ (fault ≡ OutOfMemory))
bad_of bytes (Ok found) read number kind bad = absurd (none_of bytes number kind bad found (found_is bytes found read))
bad_of bytes (Err OutOfMemory) read number kind bad = inr refl
bad_of bytes (Err (Bad line found)) read number kind bad =
    let same = one_first (lines_in bytes) line number found kind read bad in
    inl (λ i. Bad (same.0 i) (same.1 i))
