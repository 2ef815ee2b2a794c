-- Again: the lines of a valid scenario are read one by one, and none of them is bad.
use Rattle.std.proofs.Common.{◌≡◌, ℕ, suc, ◌+◌, ◌<◌, ◌≤◌, Bool, true, false, cond, eqb, List, [], ◌∷◌, ◌++◌, length, map, take, get_or, Option, Some, None, Ok, refl, sym, ap, subst, ◌∙◌, arith, All, append_assoc, inl, inr}
use Rattle.std.specs.Prelude.{◌-◌}
use Rattle.std.proofs.lemmas.Bool.{both_ways, cases_lt, cond_both, cond-true, cond-false, eq-eqb, lt-ltb, le-leb}
use Rattle.std.proofs.lemmas.List.{append-nil, length-append, length_push, get_or_at, get_or_append_left, drop_all}
use Rattle.std.specs.List.{list_any, enumerate_from}
use Rattle.std.proofs.lemmas.List.Folds.{list_any_none}
use Rattle.std.proofs.lemmas.List.Elements.{All-nil}
use Rattle.cs_types.specs.declared.task.Creds.{Creds}
use Rattle.cs_types.specs.declared.task.TaskSpec.{TaskSpec}
use Rattle.cs_types.specs.declared.event.Step.{Step}
use Rattle.cs_types.specs.declared.scenario.Teach.{Teach}
use Rattle.cs_types.specs.Scenario.{AreCreds, is_user, different, users_of, IsTask, IsTeach, IsStep}
use Rattle.scenario_text.specs.declared.fault.BadKind.{BadKind}
use Rattle.scenario_text.specs.declared.head.Head.{Head}
use Rattle.scenario_text.specs.declared.task.UserLine.{UserLine}
use Rattle.scenario_text.specs.declared.task.TaskLine.{TaskLine}
use Rattle.scenario_text.specs.declared.line.ScenarioLine.{ScenarioLine}
use Rattle.scenario_text.specs.declared.line.ScenarioLine.TheVariants as forms
use Rattle.scenario_text.specs.Words.{Word, user_words, teach_words}
use Rattle.scenario_text.specs.Text.{number_of, task_words_in, users_in, step_words, end_words}
use Rattle.scenario_text.specs.Faults.{kind_of, IsFirstBad}
use Rattle.scenario_text.specs.Reading.{Contents, with_task, nothing_planned, place_after, count_named, is_next_user, may_name, are_named, line_check, line_as, user_at, AreApart, version_reading, siblings_reading, limits_reading, AreGood, IsHead, head_lines, count_words, head_words, IsPlan, plan_lines, nothing}
use Rattle.scenario_text.proofs.Heads.{version_again, count_again, limits_again}
use Rattle.scenario_text.proofs.Users.{is_user_sym, names_next}
use Rattle.scenario_text.proofs.Tasks.{task_line_words, HasOwner}
use Rattle.scenario_text.proofs.Forms.{line_words, IsFirst, IsLine}
use Rattle.scenario_text.proofs.Followers.{distinct_fresh, led_test, numbered_at}
use Rattle.scenario_text.proofs.Kinded.{done_kind}
use Rattle.scenario_text.proofs.Usable.{usable_version, usable_count, usable_limits}
use Rattle.scenario_text.proofs.Drafts.{draft_lines, siblings_within, next_good, next_again}
use Rattle.scenario_text.proofs.Firsts.{good_more}
use Rattle.scenario_text.proofs.Beginnings.{version_good, count_good, limits_good}
use Rattle.scenario_text.proofs.Building.{with_user, with_teach, with_step, Grows, user_grows, task_grows, teach_grows, step_grows, teach_line_is, ReadSoFar, grown, end_there}

-- ---- lists

-- a list that ends in an element begins with one
has_first : {X : Type 0} (xs : List X) (y : X) (ys : List X) → (first : X) × (more : List X) × (xs ++ y ∷ ys ≡ first ∷ more)
has_first [] y ys = (y, ys, refl)
has_first (x ∷ xs) y ys = (x, xs ++ y ∷ ys, refl)

-- the element after a prefix of a list
element_after : {X : Type 0} (P : X → Type 0) (all prefix more : List X) (x : X) → all ≡ prefix ++ x ∷ more → All P all → P x
element_after {X = X} P all prefix more x is each =
    let len : length all ≡ length prefix + suc (length more) = ap length is ∙ length-append prefix (x ∷ more) in
    let at : get_or all (length prefix) x ≡ x = ap (λ (l : List X). get_or l (length prefix) x) is ∙ get_or_at prefix x more x (length prefix) refl in
    subst P at (each (length prefix) x (omega arith))

regrouped : {X : Type 0} (all prefix more : List X) (x : X) → all ≡ prefix ++ x ∷ more → all ≡ (prefix ++ x ∷ []) ++ more
regrouped all prefix more x is = is ∙ sym (append_assoc prefix (x ∷ []) more)

empty_plan : (version siblings limit : ℕ) → IsPlan version siblings limit nothing_planned
unfolding different
empty_plan version siblings limit = record {
  users = All-nil AreCreds;
  apart = λ i j d lt below. absurd (omega arith);
  few_users = omega arith;
  no_users = λ one. refl;
  named = cond_both (eqb version 2) [] [] (λ (us : List Creds). us ≡ take (length us) []) (λ _. refl) (λ _. refl);
  tasks = All-nil (IsTask siblings);
  distinct = λ i j d lt below. absurd (omega arith);
  led = λ k d below. absurd (omega arith);
  few_tasks = omega arith;
  teaches = All-nil IsTeach;
  numbered = refl;
  few_teaches = omega arith;
  steps = All-nil (IsStep siblings);
  few_steps = omega arith;
}

-- a user is none of those before it
apart_from : (all users more : List Creds) (user : Creds) → all ≡ users ++ user ∷ more → AreApart all → list_any (is_user user) users ≡ false
apart_from all users more user e apart =
    list_any_none (is_user user) users (λ k d lt.
    let len : length all ≡ length users + suc (length more) = ap length e ∙ length-append users (user ∷ more) in
    let here : get_or all k d ≡ get_or users k d = ap (λ (l : List Creds). get_or l k d) e ∙ get_or_append_left users (user ∷ more) d k lt in
    let there : get_or all (length users) d ≡ user = ap (λ (l : List Creds). get_or l (length users) d) e ∙ get_or_at users user more d (length users) refl in
    is_user_sym (get_or users k d) user (ap (λ a. is_user a user) (sym here) ∙ ap (is_user (get_or all k d)) (sym there) ∙ apart k (length users) d lt (omega arith)))

-- one kind is told, or none
none_held : {k : Option BadKind} {kind : BadKind} → k ≡ None → k ≡ Some kind → ⊥
none_held e h = absurd cc

-- ---- the lines, one by one

module _ (head : Head) (is : IsHead head) (all : Contents) (planned : IsPlan head.version head.siblings head.task_limit all) (users_are : all.users ≡ users_in head.version all.tasks) where
  -- lines that end in the last one, behind which nothing stands
  abbrev ends : List (List Word) → List (List Word)
  ends lines = lines ++ end_words ∷ nothing

  abbrev start : List (List Word)
  start = ends (plan_lines head.version all)

  abbrev words : TaskSpec → List Word
  words = task_words_in head.version all.users

  one_more : (plan more : Contents) (line : ScenarioLine) (lines : List (List Word)) → (so_far : ReadSoFar head start plan (line_words head.version line ∷ ends lines)) → IsLine head.version head.siblings plan.users (place_after plan) line → line_check head.version head.task_limit line plan ≡ Ok tt →
      (IsPlan head.version head.siblings head.task_limit plan → Grows head.version head.siblings head.task_limit plan (line_words head.version line) more) → ReadSoFar head start more (ends lines)
  one_more plan more line lines so_far fits checked grows =
      let some = has_first lines end_words nothing in
      let spelled = line_words head.version line in
      let whole = ap (λ (ls : List (List Word)). spelled ∷ ls) some.2 in
      let here : ReadSoFar head start plan (spelled ∷ some.0 ∷ some.1) = subst (ReadSoFar head start plan) whole so_far in
      let next = next_good head is plan here.is (spelled ∷ some.0 ∷ some.1) line (some.0 ∷ some.1) (next_again head is plan here.is line some.0 some.1 fits checked) in
      subst (ReadSoFar head start more) (sym some.2) (grown head is start plan (spelled ∷ some.0 ∷ some.1) here line (some.0 ∷ some.1) more next (grows here.is))

  -- each user is named by the tasks
  all_named : (teaches : List Teach) (steps : List Step) → are_named head.version (record { users = all.users; tasks = all.tasks; teaches = teaches; steps = steps }) ≡ true
  unfolding are_named
  all_named teaches steps = le-leb (length all.users) (count_named head.version all) (omega (arith, ap length users_are))

  steps_read : (more steps : List Step) → all.steps ≡ steps ++ more →
      ReadSoFar head start (record { users = all.users; tasks = all.tasks; teaches = all.teaches; steps = steps }) (ends (map step_words more)) → ReadSoFar head start all (end_words ∷ nothing)
  unfolding line_check
  steps_read [] steps e so_far =
      subst (λ (ss : List Step). ReadSoFar head start (record { users = all.users; tasks = all.tasks; teaches = all.teaches; steps = ss }) (end_words ∷ nothing)) (sym (e ∙ append-nil steps)) so_far
  steps_read (step ∷ more) steps e so_far =
      let plan : Contents = record { users = all.users; tasks = all.tasks; teaches = all.teaches; steps = steps } in
      let fits = element_after (IsStep head.siblings) all.steps steps more step e planned.steps in
      let len : length all.steps ≡ length steps + suc (length more) = ap length e ∙ length-append steps (step ∷ more) in
      let room : length steps < 100000 = let few = planned.few_steps in omega arith in
      let checked : line_check head.version head.task_limit (forms.Step step) plan ≡ Ok tt = rw (lt-ltb (length steps) 100000 room, all_named all.teaches steps) refl in
      steps_read more (steps ++ step ∷ []) (regrouped all.steps steps more step e)
      (one_more plan (with_step step plan) (forms.Step step) (map step_words more) so_far fits checked (λ plan_is. step_grows head.version head.siblings head.task_limit plan step plan_is fits checked))

  teaches_read : (more teaches : List Teach) → all.teaches ≡ teaches ++ more →
      ReadSoFar head start (record { users = all.users; tasks = all.tasks; teaches = teaches; steps = [] }) (ends (map teach_words more ++ map step_words all.steps)) → ReadSoFar head start all (end_words ∷ nothing)
  unfolding line_check
  teaches_read [] teaches e so_far =
      steps_read all.steps [] refl
      (subst (λ (ts : List Teach). ReadSoFar head start (record { users = all.users; tasks = all.tasks; teaches = ts; steps = [] }) (ends (map step_words all.steps))) (sym (e ∙ append-nil teaches)) so_far)
  teaches_read (teach ∷ more) teaches e so_far =
      let plan : Contents = record { users = all.users; tasks = all.tasks; teaches = teaches; steps = [] } in
      let fits = element_after IsTeach all.teaches teaches more teach e planned.teaches in
      let len : length all.teaches ≡ length teaches + suc (length more) = ap length e ∙ length-append teaches (teach ∷ more) in
      let room : length teaches < 64 = let few = planned.few_teaches in omega arith in
      let line = numbered_at (length all.users + length all.tasks) all.teaches teaches more teach e planned.numbered in
      let there : teach.line ≡ (place_after plan).number = line ∙ sym (teach_line_is plan refl) in
      let checked : line_check head.version head.task_limit (forms.Teach teach) plan ≡ Ok tt = rw (lt-ltb (length teaches) 64 room, all_named teaches []) refl in
      teaches_read more (teaches ++ teach ∷ []) (regrouped all.teaches teaches more teach e)
      (one_more plan (with_teach teach plan) (forms.Teach teach) (map teach_words more ++ map step_words all.steps) so_far (fits, there, refl) checked (λ plan_is. teach_grows head.version head.siblings head.task_limit plan teach plan_is fits there refl checked))

  -- the number that a task's line names
  abbrev owner_of : TaskSpec → ℕ
  owner_of task = cond (eqb head.version 2) (number_of all.users task.creds) 0

  -- the owner of a task is told, and may be named
  pub record MayOwn (tasks : List TaskSpec) (task : TaskSpec) : Type 0 where
    pub owns : HasOwner head.version all.users (record { spec = task; user = owner_of task })
    pub may : may_name head.version (owner_of task) (record { users = all.users; tasks = tasks; teaches = []; steps = [] }) ≡ true
    pub spelled : task_line_words head.version (record { spec = task; user = owner_of task }) ≡ words task

  may_own : (tasks more : List TaskSpec) (task : TaskSpec) → all.tasks ≡ tasks ++ task ∷ more → MayOwn tasks task
  unfolding may_name
  may_own tasks more task e = by_version (eqb head.version 2) refl where
    by_version : (second : Bool) → eqb head.version 2 ≡ second → MayOwn tasks task
    by_version false one =
        let none : owner_of task ≡ 0 = cond-false (eqb head.version 2) _ _ one in
        record {
          owns = record { first = λ _. none; few = omega arith; second = λ two. absurd (both_ways (eqb head.version 2) one two) };
          may = rw one refl;
          spelled = rw one refl;
        }
    by_version true two =
        let number : owner_of task ≡ number_of all.users task.creds = cond-true (eqb head.version 2) _ _ two in
        let users_two : all.users ≡ users_of all.tasks = users_are ∙ cond-true (eqb head.version 2) _ _ two in
        let next = names_next all.tasks tasks more task e in
        let inside : number_of all.users task.creds < length all.users = subst (λ us. number_of us task.creds < length us) (sym users_two) next.inside in
        let low : number_of all.users task.creds ≤ length (users_of tasks) = subst (λ us. number_of us task.creds ≤ length (users_of tasks)) (sym users_two) next.next in
        let there : task.creds ≡ user_at all.users (number_of all.users task.creds) = subst (λ us. task.creds ≡ user_at us (number_of us task.creds)) (sym users_two) next.there in
        record {
          owns = record {
            first = λ one. absurd (both_ways (eqb head.version 2) one two);
            few = let few = planned.few_users in omega arith;
            second = λ _. there ∙ ap (user_at all.users) (sym number);
          };
          may = rw (number, two, lt-ltb (number_of all.users task.creds) (length all.users) inside, le-leb (number_of all.users task.creds) (length (users_of tasks)) low) refl;
          spelled = rw two refl;
        }

  tasks_read : (more tasks : List TaskSpec) → all.tasks ≡ tasks ++ more →
      ReadSoFar head start (record { users = all.users; tasks = tasks; teaches = []; steps = [] }) (ends (map words more ++ map teach_words all.teaches ++ map step_words all.steps)) → ReadSoFar head start all (end_words ∷ nothing)
  unfolding line_check
  tasks_read [] tasks e so_far =
      teaches_read all.teaches [] refl
      (subst (λ (ts : List TaskSpec). ReadSoFar head start (record { users = all.users; tasks = ts; teaches = []; steps = [] }) (ends (map teach_words all.teaches ++ map step_words all.steps))) (sym (e ∙ append-nil tasks)) so_far)
  tasks_read (task ∷ more) tasks e so_far =
      let plan : Contents = record { users = all.users; tasks = tasks; teaches = []; steps = [] } in
      let fits = element_after (IsTask head.siblings) all.tasks tasks more task e planned.tasks in
      let len : length all.tasks ≡ length tasks + suc (length more) = ap length e ∙ length-append tasks (task ∷ more) in
      let room : length tasks < head.task_limit = let few = planned.few_tasks in omega arith in
      let fresh = distinct_fresh all.tasks tasks more task e planned.distinct in
      let led = led_test all.tasks tasks more task e planned.led in
      let own = may_own tasks more task e in
      let line : TaskLine = record { spec = task; user = owner_of task } in
      let checked : line_check head.version head.task_limit (forms.Task line) plan ≡ Ok tt = rw (fresh, led, lt-ltb (length tasks) head.task_limit room, own.may) refl in
      let rest : List (List Word) = map words more ++ map teach_words all.teaches ++ map step_words all.steps in
      let here : ReadSoFar head start plan (task_line_words head.version line ∷ ends rest) = subst (λ ws. ReadSoFar head start plan (ws ∷ ends rest)) (sym own.spelled) so_far in
      tasks_read more (tasks ++ task ∷ []) (regrouped all.tasks tasks more task e)
      (one_more plan (with_task task plan) (forms.Task line) rest here (fits, own.owns, refl, refl) checked (λ plan_is. task_grows head.version head.siblings head.task_limit plan line plan_is fits own.owns refl refl checked))

  -- the lines of the users, in version 2
  abbrev user_lines_from : ℕ → List Creds → List (List Word)
  user_lines_from start users = map (λ (numbered : ℕ × Creds). user_words numbered.0 numbered.1) (enumerate_from start users)

  users_read : (more users : List Creds) → all.users ≡ users ++ more →
      ReadSoFar head start (record { users = users; tasks = []; teaches = []; steps = [] }) (ends (user_lines_from (length users) more ++ map words all.tasks ++ map teach_words all.teaches ++ map step_words all.steps)) → ReadSoFar head start all (end_words ∷ nothing)
  unfolding line_check is_next_user
  users_read [] users e so_far =
      tasks_read all.tasks [] refl
      (subst (λ (us : List Creds). ReadSoFar head start (record { users = us; tasks = []; teaches = []; steps = [] }) (ends (map words all.tasks ++ map teach_words all.teaches ++ map step_words all.steps))) (sym (e ∙ append-nil users)) so_far)
  users_read (user ∷ more) users e so_far =
      let plan : Contents = record { users = users; tasks = []; teaches = []; steps = [] } in
      let fits = element_after AreCreds all.users users more user e planned.users in
      let len : length all.users ≡ length users + suc (length more) = ap length e ∙ length-append users (user ∷ more) in
      let two : eqb head.version 2 ≡ true = second_version (eqb head.version 2) refl (omega arith) in
      let line : UserLine = record { number = length users; creds = user } in
      let new : list_any (is_user user) users ≡ false = apart_from all.users users more user e planned.apart in
      let checked : line_check head.version head.task_limit (forms.User line) plan ≡ Ok tt = rw (eq-eqb (length users) (length users) refl, new) refl in
      let rest : List (List Word) = user_lines_from (length users + 1) more ++ map words all.tasks ++ map teach_words all.teaches ++ map step_words all.steps in
      let small : length users ≤ 255 = let few = planned.few_users in omega arith in
      let first : IsFirst head.version (place_after plan) = record { second = two; no_task = refl; no_teach = refl; no_step = refl } in
      let after = one_more plan (with_user user plan) (forms.User line) rest so_far (small, fits, first) checked (λ plan_is. user_grows head.version head.siblings head.task_limit plan line plan_is small fits first checked) in
      users_read more (users ++ user ∷ []) (regrouped all.users users more user e)
      (subst (λ n. ReadSoFar head start (with_user user plan) (ends (user_lines_from n more ++ map words all.tasks ++ map teach_words all.teaches ++ map step_words all.steps))) (omega (arith, length_push users user)) after) where
        second_version : (second : Bool) → eqb head.version 2 ≡ second → 0 < length all.users → eqb head.version 2 ≡ true
        second_version true two some = two
        second_version false one some = let none : length all.users ≡ 0 = ap length (planned.no_users one) in absurd (omega arith)

  abbrev whole : List (List Word)
  whole = head_lines head ++ start

  head_read : ReadSoFar head start nothing_planned start
  unfolding line_as
  head_read =
      let some = has_first (plan_lines head.version all) end_words nothing in
      let second = count_words head.siblings in
      let third = head_words head in
      let most = siblings_within head is in
      let said : line_as version_reading whole ≡ Ok (head.version, second ∷ third ∷ start) = rw (usable_version head.version is.version, version_again head.version is.version) refl in
      let first = version_good whole head.version (second ∷ third ∷ start) said in
      let count : line_as (siblings_reading head.version) (second ∷ third ∷ start) ≡ Ok (head.siblings, third ∷ start) =
      rw (usable_count head.siblings (omega arith), count_again head.version head.siblings is.siblings) refl in
      let counted = count_good whole head.version is.version (second ∷ third ∷ start) first.0 head.siblings (third ∷ start) count in
      let limits : line_as (limits_reading head.version head.siblings) (third ∷ some.0 ∷ some.1) ≡ Ok (head, some.0 ∷ some.1) =
      rw (usable_limits head is, limits_again head is) refl in
      let limits' : line_as (limits_reading head.version head.siblings) (third ∷ start) ≡ Ok (head, start) =
      ap (λ (ls : List (List Word)). line_as (limits_reading head.version head.siblings) (third ∷ ls)) some.2 ∙ limits ∙ ap (λ (ls : List (List Word)). Ok (head, ls)) (sym some.2) in
      let good = limits_good whole head.version head.siblings is.version is.siblings (third ∷ start) counted.0 head start limits' in
      record { whole = refl; is = empty_plan head.version head.siblings head.task_limit; good = good.2; some = good.3 }

  -- no line is bad
  pub all_good : AreGood whole (length (draft_lines head all) + 2)
  unfolding line_check
  all_good =
      let here = draft_lines head all in
      let so_far = users_read all.users [] refl head_read in
      let next = next_good head is all so_far.is (end_words ∷ nothing) forms.End nothing (next_again head is all so_far.is forms.End ([] ∷ []) [] tt (rw (all_named all.teaches all.steps) refl)) in
      let ended = here ++ end_words ∷ [] in
      let count : length ended ≡ suc (length here) = omega (arith, length_push here end_words) in
      let good : AreGood whole (length ended) = good_more whole here (end_words ∷ nothing) so_far.whole (length here) refl so_far.good next.good (length ended) count in
      let cut : whole ≡ ended ++ nothing = so_far.whole ∙ sym (append_assoc here (end_words ∷ []) nothing) in
      good_more whole ended nothing cut (length ended) refl good (done_kind ended ([] ∷ []) [] (end_there head is start all (end_words ∷ nothing) so_far here) refl) (length here + 2) (omega (arith, count))

  pub none_bad : (number : ℕ) (kind : BadKind) → ¬ (IsFirstBad whole number kind)
  none_bad number kind bad =
      let count : length whole ≡ length (draft_lines head all) + 2 = length-append (draft_lines head all) (end_words ∷ nothing) in
      elim (cases_lt (number - 1) (length (draft_lines head all) + 2)) [
        | inl within ↦ none_held (all_good (number - 1) within) bad.here
        | inr past ↦
            none_held (ap (kind_of (take (number - 1) whole)) (drop_all (number - 1) whole (omega arith))) bad.here
      ]
