-- Building: the lines behind the head make up a plan, one by one, and the scenario's lines are read so.
use Rattle.std.proofs.Common.{◌≡◌, ℕ, suc, ◌+◌, ◌<◌, ◌≤◌, Bool, true, false, cond, eqb, ltb, leb, List, [], ◌∷◌, ◌++◌, length, map, take, drop, length-take, length-take-le, Some, Ok, Err, refl, sym, ap, ◌∙◌, arith, rules, append_assoc}
use Rattle.std.specs.Prelude.{not, ◌&&◌, ◌||◌}
use Rattle.std.specs.List.{list_any, enumerate_from}
use Rattle.std.proofs.lemmas.Bool.{both_ways, not-false, not-true, eqb-true, ltb-true, leb-true, cond_both, cond-true, and_parts}
use Rattle.std.proofs.Math.Bool.{or-true}
use Rattle.std.proofs.lemmas.List.{append-nil, map-append, length_push, length-append, length-map, nil_from_length}
use Rattle.std.proofs.lemmas.List.Folds.{list_any-append}
use Rattle.std.proofs.lemmas.List.Elements.{All-nil, All-push}
use Rattle.cs_types.specs.declared.task.Creds.{Creds}
use Rattle.cs_types.specs.declared.task.TaskSpec.{TaskSpec}
use Rattle.cs_types.specs.declared.event.Step.{Step}
use Rattle.cs_types.specs.declared.scenario.Teach.{Teach}
use Rattle.cs_types.specs.Scenario.{AreCreds, is_user, different, users_of, IsTask, IsTeach, IsStep}
use Rattle.scenario_text.specs.declared.fault.BadKind.{BadKind}
use Rattle.scenario_text.specs.declared.fault.BadKind.TheVariants.{After, Twice, Leader, Full, User}
use Rattle.scenario_text.specs.declared.head.Head.{Head}
use Rattle.scenario_text.specs.declared.task.UserLine.{UserLine}
use Rattle.scenario_text.specs.declared.task.TaskLine.{TaskLine}
use Rattle.scenario_text.specs.declared.line.ScenarioLine.{ScenarioLine}
use Rattle.scenario_text.specs.declared.line.ScenarioLine.TheVariants as forms
use Rattle.scenario_text.specs.Words.{Word, user_words, user_task_words, teach_words}
use Rattle.scenario_text.specs.Text.{users_words, number_of, task_words_in, users_in, step_words, end_words}
use Rattle.scenario_text.specs.Grammar.{has_shape, end_form}
use Rattle.scenario_text.specs.Faults.{has_end, is_nothing, kind_of, IsFirstBad}
use Rattle.scenario_text.specs.Reading.{◌>>=◌, Contents, with_task, nothing_planned, place_after, has_fresh_pid, has_leader, count_named, named_after, is_next_user, may_name, are_named, check, line_check, next_of, AreGood, IsHead, head_lines, IsPlan, plan_lines, nothing}
use Rattle.scenario_text.proofs.Users.{apart_push, number_of_user, named_more}
use Rattle.scenario_text.proofs.Named.{length-users_words}
use Rattle.scenario_text.proofs.Tasks.{task_line_words, HasOwner}
use Rattle.scenario_text.proofs.Forms.{line_words, IsFirst}
use Rattle.scenario_text.proofs.Followers.{distinct_push, led_push, numbered_push}
use Rattle.scenario_text.proofs.Kinded.{after_kind}
use Rattle.scenario_text.proofs.Drafts.{draft_lines, NextLine, next_bad}
use Rattle.scenario_text.proofs.Firsts.{good_more, first_bad}

abbrev pub with_user : Creds → Contents → Contents
with_user creds plan = record plan { users = plan.users ++ creds ∷ [] }

abbrev pub with_teach : Teach → Contents → Contents
with_teach teach plan = record plan { teaches = plan.teaches ++ teach ∷ [] }

abbrev pub with_step : Step → Contents → Contents
with_step step plan = record plan { steps = plan.steps ++ step ∷ [] }

-- ---- one more line

-- a list that has nothing in it
has_none : {X : Type 0} (xs : List X) → not (eqb (length xs) 0) ≡ false → xs ≡ []
has_none xs none = nil_from_length xs (eqb-true _ _ (not-false _ none))

-- what a task keeps that may follow
record Follows (version limit : ℕ) (task : TaskLine) (plan : Contents) : Type 0 where
  fresh : has_fresh_pid plan.tasks task.spec ≡ true
  led : has_leader plan.tasks task.spec ≡ true
  few : length plan.tasks < limit
  named : may_name version task.user plan ≡ true

four_held : (fresh led few named : Bool) → (check Twice fresh >>= λ unit. check Leader led >>= λ unit. check Full few >>= λ unit. check User named) ≡ Ok tt → (fresh ≡ true) × (led ≡ true) × (few ≡ true) × (named ≡ true)
four_held true true true true e = (refl, refl, refl, refl)
four_held true true true false e = absurd cc
four_held true true false named e = absurd cc
four_held true false few named e = absurd cc
four_held false led few named e = absurd cc

two_held : (few named : Bool) → (check Full few >>= λ unit. check User named) ≡ Ok tt → (few ≡ true) × (named ≡ true)
two_held true true e = (refl, refl)
two_held true false e = absurd cc
two_held false named e = absurd cc

one_held : (named : Bool) → check User named ≡ Ok tt → named ≡ true
one_held true e = refl
one_held false e = absurd cc

user_follows : (version limit : ℕ) (user : UserLine) (plan : Contents) → line_check version limit (forms.User user) plan ≡ Ok tt → (user.number ≡ length plan.users) × (list_any (is_user user.creds) plan.users ≡ false)
unfolding line_check is_next_user
user_follows version limit user plan e =
    let held = and_parts (eqb user.number (length plan.users)) (not (list_any (is_user user.creds) plan.users)) (one_held _ e) in
    (eqb-true _ _ held.0, not-true _ held.1)

task_follows : (version limit : ℕ) (task : TaskLine) (plan : Contents) → line_check version limit (forms.Task task) plan ≡ Ok tt → Follows version limit task plan
unfolding line_check
task_follows version limit task plan e =
    let held = four_held (has_fresh_pid plan.tasks task.spec) (has_leader plan.tasks task.spec) (ltb (length plan.tasks) limit) (may_name version task.user plan) e in
    record { fresh = held.0; led = held.1; few = ltb-true _ _ held.2; named = held.3 }

teach_follows : (version limit : ℕ) (teach : Teach) (plan : Contents) → line_check version limit (forms.Teach teach) plan ≡ Ok tt → length plan.teaches < 64
unfolding line_check
teach_follows version limit teach plan e = ltb-true _ _ (two_held (ltb (length plan.teaches) 64) (are_named version plan) e).0

step_follows : (version limit : ℕ) (step : Step) (plan : Contents) → line_check version limit (forms.Step step) plan ≡ Ok tt → length plan.steps < 100000
unfolding line_check
step_follows version limit step plan e = ltb-true _ _ (two_held (ltb (length plan.steps) 100000) (are_named version plan) e).0

pub end_follows : (version limit : ℕ) (plan : Contents) → line_check version limit forms.End plan ≡ Ok tt → are_named version plan ≡ true
unfolding line_check
end_follows version limit plan e = one_held (are_named version plan) e

-- a plan grows by a line
pub record Grows (version siblings limit : ℕ) (plan : Contents) (words : List Word) (more : Contents) : Type 0 where
  pub is : IsPlan version siblings limit more
  pub lines : plan_lines version more ≡ plan_lines version plan ++ words ∷ []

-- one user more, after which its line has the next number
users_more : (users : List Creds) (creds : Creds) (start : ℕ) →
    map (λ (numbered : ℕ × Creds). user_words numbered.0 numbered.1) (enumerate_from start (users ++ creds ∷ []))
    ≡ map (λ (numbered : ℕ × Creds). user_words numbered.0 numbered.1) (enumerate_from start users) ++ user_words (start + length users) creds ∷ []
users_more [] creds start = ap (λ n. user_words n creds ∷ []) (omega arith)
users_more (user ∷ users) creds start =
    ap (λ (ls : List (List Word)). user_words start user ∷ ls)
    (users_more users creds (start + 1) ∙ ap (λ n. map (λ (numbered : ℕ × Creds). user_words numbered.0 numbered.1) (enumerate_from (start + 1) users) ++ user_words n creds ∷ []) (omega arith))

pub user_grows : (version siblings limit : ℕ) (plan : Contents) (user : UserLine) → IsPlan version siblings limit plan → user.number ≤ 255 → AreCreds user.creds → IsFirst version (place_after plan) → line_check version limit (forms.User user) plan ≡ Ok tt →
    Grows version siblings limit plan (user_words user.number user.creds) (with_user user.creds plan)
unfolding different
user_grows version siblings limit plan user is small kept first checked =
    let follows = user_follows version limit user plan checked in
    let tasks = has_none plan.tasks first.no_task in
    let teaches = has_none plan.teaches first.no_teach in
    let steps = has_none plan.steps first.no_step in
    let none : users_in version plan.tasks ≡ [] = rw tasks (cond_both (eqb version 2) [] [] (λ (us : List Creds). us ≡ []) (λ _. refl) (λ _. refl)) in
    let words = users_words plan.users in
    let more = users_words (plan.users ++ user.creds ∷ []) in
    record {
      is = record {
        users = All-push AreCreds plan.users user.creds is.users kept;
        apart = apart_push plan.users user.creds is.apart follows.1;
        few_users = omega (arith, length_push plan.users user.creds, follows.0);
        no_users = λ one. absurd (both_ways (eqb version 2) one first.second);
        named = none ∙ ap (λ (us : List Creds). take (length us) (plan.users ++ user.creds ∷ [])) (sym none);
        tasks = is.tasks;
        distinct = is.distinct;
        led = is.led;
        few_tasks = is.few_tasks;
        teaches = is.teaches;
        numbered = rw teaches refl;
        few_teaches = is.few_teaches;
        steps = is.steps;
        few_steps = is.few_steps;
      };
      lines =
          rw (tasks, teaches, steps, append-nil (more ++ [] ++ []), append-nil (more ++ []), append-nil more, append-nil (words ++ [] ++ []), append-nil (words ++ []), append-nil words)
          (users_more plan.users user.creds 0 ∙ ap (λ n. words ++ user_words n user.creds ∷ []) (omega (arith, follows.0)));
    }

-- a task of version 2 is told by the user that it names
task_line_is : (version siblings limit : ℕ) (plan : Contents) (task : TaskLine) → IsPlan version siblings limit plan → HasOwner version plan.users task → may_name version task.user plan ≡ true → task_line_words version task ≡ task_words_in version plan.users task.spec
unfolding may_name
task_line_is version siblings limit plan task is owns named = by_version (eqb version 2) refl where
  by_version : (second : Bool) → eqb version 2 ≡ second → task_line_words version task ≡ task_words_in version plan.users task.spec
  by_version false one = rw one refl
  by_version true two =
      let held : ltb task.user (length plan.users) && leb task.user (count_named version plan) ≡ true = sym (ap (λ b. not b || (ltb task.user (length plan.users) && leb task.user (count_named version plan))) two) ∙ named in
      let below = ltb-true _ _ (and_parts (ltb task.user (length plan.users)) _ held).0 in
      let number : number_of plan.users task.spec.creds ≡ task.user = ap (number_of plan.users) (owns.second two) ∙ number_of_user plan.users is.apart task.user below in
      rw two (ap (λ n. user_task_words n task.spec) (sym number))

-- the users that one task more names
named_grows : (version siblings limit : ℕ) (plan : Contents) (task : TaskLine) → IsPlan version siblings limit plan → HasOwner version plan.users task → may_name version task.user plan ≡ true →
    (users_in version (plan.tasks ++ task.spec ∷ []) ≡ take (named_after version task.user (count_named version plan)) plan.users)
    × (length (users_in version (plan.tasks ++ task.spec ∷ [])) ≡ named_after version task.user (count_named version plan))
unfolding may_name
named_grows version siblings limit plan task is owns named = by_version (eqb version 2) refl where
  by_version : (second : Bool) → eqb version 2 ≡ second →
      (users_in version (plan.tasks ++ task.spec ∷ []) ≡ take (named_after version task.user (count_named version plan)) plan.users)
      × (length (users_in version (plan.tasks ++ task.spec ∷ [])) ≡ named_after version task.user (count_named version plan))
  by_version false one = rw one (refl, refl)
  by_version true two =
      let count : ℕ = count_named version plan in
      let all : List TaskSpec = plan.tasks ++ task.spec ∷ [] in
      let held : ltb task.user (length plan.users) && leb task.user count ≡ true = sym (ap (λ b. not b || (ltb task.user (length plan.users) && leb task.user count)) two) ∙ named in
      let tests = and_parts (ltb task.user (length plan.users)) (leb task.user count) held in
      let below = ltb-true _ _ tests.0 in
      let next = leb-true _ _ tests.1 in
      let inside : count ≤ length plan.users = omega (arith, ap length is.named, length-take count plan.users) in
      let before : users_of plan.tasks ≡ take count plan.users = sym (cond-true (eqb version 2) (users_of plan.tasks) [] two) ∙ is.named in
      let more = named_more plan.users is.apart count task.user plan.tasks task.spec inside before below next (owns.second two) in
      let users : users_in version all ≡ take (cond (eqb task.user count) (count + 1) count) plan.users = cond-true (eqb version 2) (users_of all) [] two ∙ more in
      let after : cond (eqb task.user count) (count + 1) count ≡ named_after version task.user count = sym (ap (λ b. cond (b && eqb task.user count) (count + 1) count) two) in
      let fits : cond (eqb task.user count) (count + 1) count ≤ length plan.users =
      cond_both (eqb task.user count) (count + 1) count (λ n. n ≤ length plan.users) (λ same. omega (arith, eqb-true task.user count same)) (λ _. inside) in (
        users ∙ ap (λ n. take n plan.users) after,
        ap length users ∙ length-take-le _ plan.users fits ∙ after,
      )

-- and how many these are
pub task_counted : (version siblings limit : ℕ) (plan : Contents) (task : TaskLine) → IsPlan version siblings limit plan → HasOwner version plan.users task → line_check version limit (forms.Task task) plan ≡ Ok tt →
    count_named version (with_task task.spec plan) ≡ named_after version task.user (count_named version plan)
task_counted version siblings limit plan task is owns checked =
    let follows = task_follows version limit task plan checked in (named_grows version siblings limit plan task is owns follows.named).1

pub task_grows : (version siblings limit : ℕ) (plan : Contents) (task : TaskLine) → IsPlan version siblings limit plan → IsTask siblings task.spec → HasOwner version plan.users task → (place_after plan).is_after_teach ≡ false → (place_after plan).is_after_step ≡ false → line_check version limit (forms.Task task) plan ≡ Ok tt →
    Grows version siblings limit plan (task_line_words version task) (with_task task.spec plan)
task_grows version siblings limit plan task is fits owns no_teach no_step checked =
    let follows = task_follows version limit task plan checked in
    let teaches = has_none plan.teaches no_teach in
    let steps = has_none plan.steps no_step in
    let named = named_grows version siblings limit plan task is owns follows.named in
    let words = task_words_in version plan.users in
    let users = users_words plan.users in
    let more = users ++ map words (plan.tasks ++ task.spec ∷ []) in
    let before = users ++ map words plan.tasks in
    record {
      is = record {
        users = is.users;
        apart = is.apart;
        few_users = is.few_users;
        no_users = is.no_users;
        named = named.0 ∙ ap (λ n. take n plan.users) (sym named.1);
        tasks = All-push (IsTask siblings) plan.tasks task.spec is.tasks fits;
        distinct = distinct_push plan.tasks task.spec is.distinct follows.fresh;
        led = led_push plan.tasks task.spec is.led follows.led;
        few_tasks = let few = follows.few in omega (arith, length_push plan.tasks task.spec);
        teaches = is.teaches;
        numbered = rw teaches refl;
        few_teaches = is.few_teaches;
        steps = is.steps;
        few_steps = is.few_steps;
      };
      lines =
          rw (teaches, steps, append-nil (more ++ []), append-nil more, append-nil (before ++ []), append-nil before)
          (ap (λ (ls : List (List Word)). users ++ ls) (map-append words plan.tasks (task.spec ∷ []))
          ∙ sym (append_assoc users (map words plan.tasks) (words task.spec ∷ []))
          ∙ ap (λ (w : List Word). before ++ w ∷ []) (sym (task_line_is version siblings limit plan task is owns follows.named)));
    }

-- where no step was read, the line of the next teach is that after the users, the tasks and the teach lines
pub teach_line_is : (plan : Contents) → plan.steps ≡ [] → (place_after plan).number ≡ length plan.users + length plan.tasks + 4 + length plan.teaches
teach_line_is plan none = let no_steps : length plan.steps ≡ 0 = ap length none in omega arith

pub teach_grows : (version siblings limit : ℕ) (plan : Contents) (teach : Teach) → IsPlan version siblings limit plan → IsTeach teach → teach.line ≡ (place_after plan).number → (place_after plan).is_after_step ≡ false → line_check version limit (forms.Teach teach) plan ≡ Ok tt →
    Grows version siblings limit plan (teach_words teach) (with_teach teach plan)
teach_grows version siblings limit plan teach is fits there no_step checked =
    let few = teach_follows version limit teach plan checked in
    let steps = has_none plan.steps no_step in
    let before = users_words plan.users ++ map (task_words_in version plan.users) plan.tasks in
    let more = map teach_words (plan.teaches ++ teach ∷ []) in
    record {
      is = record {
        users = is.users;
        apart = is.apart;
        few_users = is.few_users;
        no_users = is.no_users;
        named = is.named;
        tasks = is.tasks;
        distinct = is.distinct;
        led = is.led;
        few_tasks = is.few_tasks;
        teaches = All-push IsTeach plan.teaches teach is.teaches fits;
        numbered = numbered_push (length plan.users + length plan.tasks) plan.teaches teach is.numbered (there ∙ teach_line_is plan steps);
        few_teaches = omega (arith, length_push plan.teaches teach);
        steps = is.steps;
        few_steps = is.few_steps;
      };
      lines =
          rw (steps, append-nil (before ++ more), append-nil (before ++ map teach_words plan.teaches))
          (ap (λ (ls : List (List Word)). before ++ ls) (map-append teach_words plan.teaches (teach ∷ []))
          ∙ sym (append_assoc before (map teach_words plan.teaches) (teach_words teach ∷ [])));
    }

pub step_grows : (version siblings limit : ℕ) (plan : Contents) (step : Step) → IsPlan version siblings limit plan → IsStep siblings step → line_check version limit (forms.Step step) plan ≡ Ok tt → Grows version siblings limit plan (step_words step) (with_step step plan)
step_grows version siblings limit plan step is fits checked =
    let few = step_follows version limit step plan checked in
    record {
      is = record {
        users = is.users;
        apart = is.apart;
        few_users = is.few_users;
        no_users = is.no_users;
        named = is.named;
        tasks = is.tasks;
        distinct = is.distinct;
        led = is.led;
        few_tasks = is.few_tasks;
        teaches = is.teaches;
        numbered = is.numbered;
        few_teaches = is.few_teaches;
        steps = All-push (IsStep siblings) plan.steps step is.steps fits;
        few_steps = omega (arith, length_push plan.steps step);
      };
      lines =
          let before = users_words plan.users ++ map (task_words_in version plan.users) plan.tasks ++ map teach_words plan.teaches in
          ap (λ (ls : List (List Word)). before ++ ls) (map-append step_words plan.steps (step ∷ []))
          ∙ sym (append_assoc before (map step_words plan.steps) (step_words step ∷ []));
    }

-- ---- what is read so far

-- the lines that were read make up the plan, and none of them is bad
pub record ReadSoFar (head : Head) (start : List (List Word)) (plan : Contents) (lines : List (List Word)) : Type 0 where
  pub whole : head_lines head ++ start ≡ draft_lines head plan ++ lines
  pub is : IsPlan head.version head.siblings head.task_limit plan
  pub good : AreGood (head_lines head ++ start) (length (draft_lines head plan))
  pub some : 1 ≤ length lines

-- behind the head alone, nothing is planned
pub none_counted : (version : ℕ) → count_named version nothing_planned ≡ 0
unfolding different
none_counted version = cond_both (eqb version 2) (users_of []) [] (λ (us : List Creds). length us ≡ 0) (λ _. refl) (λ _. refl)

none_planned : (version siblings limit : ℕ) → IsPlan version siblings limit nothing_planned
none_planned version siblings limit =
    let none : users_in version [] ≡ [] = nil_from_length (users_in version []) (none_counted version) in
    record {
      users = All-nil AreCreds;
      apart = λ i j d lt below. absurd (omega arith);
      few_users = omega arith;
      no_users = λ one. refl;
      named = none ∙ ap (λ (us : List Creds). take (length us) []) (sym none);
      tasks = All-nil (IsTask siblings);
      distinct = search rules;
      led = search rules;
      few_tasks = omega arith;
      teaches = All-nil IsTeach;
      numbered = refl;
      few_teaches = omega arith;
      steps = All-nil (IsStep siblings);
      few_steps = omega arith;
    }

pub none_read : (head : Head) (start : List (List Word)) → 1 ≤ length start → AreGood (head_lines head ++ start) 3 → ReadSoFar head start nothing_planned start
none_read head start some good = record { whole = refl; is = none_planned head.version head.siblings head.task_limit; good = good; some = some }

-- how many lines a draft has
draft_length : (head : Head) (plan : Contents) → length (draft_lines head plan) ≡ length plan.users + length plan.tasks + length plan.teaches + length plan.steps + 3
draft_length head plan =
    let users = users_words plan.users in
    let tasks = map (task_words_in head.version plan.users) plan.tasks in
    let settings = users ++ tasks ++ map teach_words plan.teaches in
    let l0 = length-append settings (map step_words plan.steps) in
    let l1 = length-append (users ++ tasks) (map teach_words plan.teaches) in
    let l2 = length-append users tasks in
    let l3 = length-users_words plan.users in
    let l4 = length-map plan.tasks (task_words_in head.version plan.users) in
    let l5 = length-map plan.teaches teach_words in
    let l6 = length-map plan.steps step_words in
    omega arith

module _ (head : Head) (is : IsHead head) (start : List (List Word)) (plan : Contents) (lines : List (List Word)) (so_far : ReadSoFar head start plan lines) where
  -- a line that is no end makes the plan longer
  pub grown : (line : ScenarioLine) (rest : List (List Word)) (more : Contents) → NextLine head is plan so_far.is line lines rest → Grows head.version head.siblings head.task_limit plan (line_words head.version line) more → ReadSoFar head start more rest
  grown line rest more next grows =
      let here = draft_lines head plan in
      let longer : draft_lines head more ≡ here ++ line_words head.version line ∷ [] = ap (λ (ls : List (List Word)). head_lines head ++ ls) grows.lines in
      let left : lines ≡ line_words head.version line ∷ rest = next.lines_are ∙ ap (λ (ls : List (List Word)). line_words head.version line ∷ ls) (sym next.rest_is) in
      record {
        whole =
            so_far.whole
            ∙ ap (λ (ls : List (List Word)). here ++ ls) left
            ∙ sym (append_assoc here (line_words head.version line ∷ []) rest)
            ∙ ap (λ (ls : List (List Word)). ls ++ rest) (sym longer);
        is = grows.is;
        good = good_more (head_lines head ++ start) here lines so_far.whole (length here) refl so_far.good next.good (length (draft_lines head more)) (ap length longer ∙ (omega (arith, length_push here (line_words head.version line))));
        some = omega (arith, ap length next.rest_is);
      }

  -- a line that is refused is the first bad one
  pub refused : (kind : BadKind) → next_of head plan lines ≡ Err kind → IsFirstBad (head_lines head ++ start) (place_after plan).number kind
  refused kind e =
      first_bad (head_lines head ++ start) (draft_lines head plan) lines so_far.whole (length (draft_lines head plan)) refl so_far.good kind (next_bad head is plan so_far.is lines kind so_far.some e) (place_after plan).number (omega (arith, draft_length head plan))

  -- the last line is an end
  pub end_there : (here : List (List Word)) → has_end (here ++ end_words ∷ []) ≡ true
  unfolding has_shape
  end_there here = list_any-append (has_shape end_form) here (end_words ∷ []) ∙ or-true _

  -- behind the last line nothing is left
  nothing_left : (rest : List (List Word)) → is_nothing rest ≡ true → rest ≡ nothing
  nothing_left [] h = absurd cc
  nothing_left ([] ∷ []) h = absurd cc
  nothing_left (([] ∷ []) ∷ []) h = refl
  nothing_left (([] ∷ []) ∷ line ∷ rest) h = absurd cc
  nothing_left (([] ∷ word ∷ words) ∷ rest) h = absurd cc
  nothing_left (((byte ∷ word) ∷ words) ∷ rest) h = absurd cc
  nothing_left ([] ∷ line ∷ rest) h = absurd cc

  module _ (rest : List (List Word)) (next : NextLine head is plan so_far.is forms.End lines rest) where
    ended_lines : lines ≡ end_words ∷ rest
    ended_lines = next.lines_are ∙ ap (λ (ls : List (List Word)). end_words ∷ ls) (sym next.rest_is)

    pub complete : is_nothing rest ≡ true → IsPlan head.version head.siblings head.task_limit plan × (are_named head.version plan ≡ true) × (start ≡ plan_lines head.version plan ++ end_words ∷ nothing)
    complete h =
        let whole : head_lines head ++ start ≡ head_lines head ++ (plan_lines head.version plan ++ end_words ∷ nothing) =
        so_far.whole
        ∙ ap (λ (ls : List (List Word)). draft_lines head plan ++ ls) (ended_lines ∙ ap (λ (ls : List (List Word)). end_words ∷ ls) (nothing_left rest h)) in
        (so_far.is, end_follows head.version head.task_limit plan next.checked, ap (drop 3) whole)

    -- what stands behind it is the first bad line
    pub late : is_nothing rest ≡ false → IsFirstBad (head_lines head ++ start) ((place_after plan).number + 1) After
    late h =
        let here = draft_lines head plan in
        let all = head_lines head ++ start in
        let ended = here ++ end_words ∷ [] in
        let cut : all ≡ ended ++ rest = so_far.whole ∙ ap (λ (ls : List (List Word)). here ++ ls) ended_lines ∙ sym (append_assoc here (end_words ∷ []) rest) in
        let count : length ended ≡ suc (length here) = omega (arith, length_push here end_words) in
        let good : AreGood all (length ended) = good_more all here lines so_far.whole (length here) refl so_far.good next.good (length ended) count in
        let is_end : has_end ended ≡ true = end_there here in
        let kind : kind_of ended rest ≡ Some After =
        ap (kind_of ended) next.rest_is
        ∙ after_kind ended next.next next.more is_end (ap is_nothing (sym next.rest_is) ∙ h) in
        first_bad all ended rest cut (length ended) refl good After kind ((place_after plan).number + 1) (omega (arith, draft_length head plan))
