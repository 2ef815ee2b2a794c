-- Tasks by rising pid: what a change of the one with a pid leaves, and which are a group's.
use Rattle.std.proofs.Common.{◌≡◌, ℕ, ◌+◌, ◌<◌, ◌≤◌, Bool, true, false, cond, List, [], ◌∷◌, ◌++◌, map, refl, sym, ap, ◌∙◌, arith, ltb, eqb, Some, None, inl, inr}
use Rattle.std.specs.Prelude.{◌==◌, ◌&&◌, ◌||◌, filter, find, All as Every, AllPairs}
use Rattle.std.specs.List.{AllByRecursion}
use Rattle.std.proofs.lemmas.Bool.{cases_Bool, cond-true, cond-false, eqb-true, eq-eqb}
use Rattle.std.proofs.lemmas.Bool.Decides.{nat_tests}
use Rattle.std.proofs.lemmas.List.{map-append}
use Rattle.std.proofs.lemmas.List.Elements.{All-head, All-tail, All-from_recursion}
use Rattle.std.proofs.lemmas.List.Kept.{AllPairs-cons}
use Rattle.cs_types.specs.declared.task.Task.{Task}
use Rattle.cs_types.specs.declared.task.TaskSpec.{TaskSpec}
use Rattle.cs_types.specs.Room.{has_pid, asleep, inserted}
use Rattle.cs_types.specs.Prctl.{is_set}
use Rattle.task_table.specs.Table.{RisesFrom, Rises}
use Rattle.task_table.specs.declared.group.Group.{Group}
use Rattle.task_table.specs.declared.group.Group.TheVariants.{All, Threads, Process}
use Rattle.task_table.specs.Group.{is_in_group, group_above}
use Rattle.cs_types.proofs.Filtered.{each-filter}
use Rattle.cs_types.proofs.Inserted.{is_below, is_above}
use Rattle.task_table.proofs.Rising.{weaker, above_all, NoneHas, changed_none}

-- ---- lists

map_alike : {X Y : Type 0} (f g : X → Y) (xs : List X) → AllByRecursion (λ x. f x ≡ g x) xs → map f xs ≡ map g xs
map_alike f g [] same = refl
map_alike {X} {Y} f g (x ∷ xs) same = λ i. same.0 i ∷ map_alike f g xs same.1 i

-- a filter that does not tell an element from what it becomes, and keeps none that changes
filter-map_kept : {X : Type 0} (p : X → Bool) (f : X → X) → ((x : X) → p (f x) ≡ p x) → ((x : X) → p x ≡ true → f x ≡ x) →
    (xs : List X) → filter p (map f xs) ≡ filter p xs
filter-map_kept p f same kept [] = refl
filter-map_kept {X} p f same kept (x ∷ xs) =
    ap (λ b. cond b (f x ∷ filter p (map f xs)) (filter p (map f xs))) (same x)
    ∙ ap (λ (ys : List X). cond (p x) (f x ∷ ys) ys) (filter-map_kept p f same kept xs)
    ∙ elim (cases_Bool (p x)) [
      | inl holds ↦ ap (λ (y : X). cond (p x) (y ∷ filter p xs) (filter p xs)) (kept x holds)
      | inr fails ↦ cond-false (p x) _ _ fails ∙ sym (cond-false (p x) _ _ fails)
    ]

-- two tests that agree on each element keep the same
pub filter_alike : {X : Type 0} (p q : X → Bool) (xs : List X) → Every (λ x. p x ≡ q x) xs → filter p xs ≡ filter q xs
filter_alike p q [] same = refl
filter_alike {X} p q (x ∷ xs) same =
    ap (λ b. cond b (x ∷ filter p xs) (filter p xs)) (All-head (λ x. p x ≡ q x) x xs same)
    ∙ ap (λ (ys : List X). cond (q x) (x ∷ ys) ys) (filter_alike p q xs (All-tail (λ x. p x ≡ q x) x xs same))

-- ---- the one task with a pid

other_pid : (low pid : ℕ) (task : Task) → pid < low → low ≤ task.spec.pid → has_pid pid task ≡ false
other_pid low pid task below above = grind (arith, nat_tests)

-- where one was found, no other has its pid
only_one : (low pid : ℕ) (tasks : List Task) (task : Task) → RisesFrom low tasks → find (has_pid pid) tasks ≡ Some task →
    AllByRecursion (λ other. has_pid pid other ≡ true → other ≡ task) tasks
only_one low pid [] task rises found = tt
only_one low pid (first ∷ rest) task rises found =
    elim (cases_Bool (has_pid pid first)) [
      | inl here ↦
          let same : Some first ≡ Some task = sym (cond-true _ (Some first) (find (has_pid pid) rest) here) ∙ found in
          let at : first.spec.pid ≡ pid = eqb-true first.spec.pid pid here in (
            λ _. cc,
            weaker (λ other. first.spec.pid + 1 ≤ other.spec.pid) (λ other. has_pid pid other ≡ true → other ≡ task)
                (λ other above holds. let fails = other_pid (first.spec.pid + 1) pid other (omega (arith, at)) above in absurd cc) rest
                (above_all (first.spec.pid + 1) rest rises.1),
          )
      | inr past ↦
          (λ holds. absurd cc, only_one (first.spec.pid + 1) pid rest task rises.1 (sym (cond-false _ (Some first) (find (has_pid pid) rest) past) ∙ found))
    ]

-- The pids rise from each task to each behind it.
pub rising_pairs : (low : ℕ) (tasks : List Task) → RisesFrom low tasks → AllPairs (λ one other. one.spec.pid < other.spec.pid) tasks
rising_pairs low [] rises = λ i j d lt within. absurd (omega arith)
rising_pairs low (task ∷ tasks) rises =
    AllPairs-cons (λ one other. one.spec.pid < other.spec.pid) task tasks
    (All-from_recursion (λ other. task.spec.pid < other.spec.pid) tasks
    (weaker (λ other. task.spec.pid + 1 ≤ other.spec.pid) (λ other. task.spec.pid < other.spec.pid) (λ other above. omega (arith, above)) tasks (above_all (task.spec.pid + 1) tasks rises.1)))
    (rising_pairs (task.spec.pid + 1) tasks rises.1)

-- A change of the task that was found is one of each task with its pid.
pub changed_each : (f : Task → Task) (tasks : List Task) (task : Task) → Rises tasks → find (has_pid task.spec.pid) tasks ≡ Some task →
    map (λ other. cond (has_pid task.spec.pid other) (f task) other) tasks
    ≡ map (λ other. cond (has_pid task.spec.pid other) (f other) other) tasks
changed_each f tasks task rises found =
    map_alike (λ other. cond (has_pid task.spec.pid other) (f task) other) (λ other. cond (has_pid task.spec.pid other) (f other) other) tasks
    (weaker (λ other. has_pid task.spec.pid other ≡ true → other ≡ task)
    (λ other. cond (has_pid task.spec.pid other) (f task) other ≡ cond (has_pid task.spec.pid other) (f other) other)
    (λ other same. elim (cases_Bool (has_pid task.spec.pid other)) [
      | inl holds ↦ ap (λ (t : Task). cond (has_pid task.spec.pid other) (f t) other) (sym (same holds))
      | inr fails ↦ cond-false _ (f task) other fails ∙ sym (cond-false _ (f other) other fails)
    ]) tasks (only_one 0 task.spec.pid tasks task rises found))

-- The tasks with the pid of one that was found are that one.
pub found_alone : (low pid : ℕ) (tasks : List Task) (task : Task) → RisesFrom low tasks → find (has_pid pid) tasks ≡ Some task →
    filter (has_pid pid) tasks ≡ task ∷ []
found_alone low pid [] task rises found = absurd cc
found_alone low pid (first ∷ rest) task rises found =
    elim (cases_Bool (has_pid pid first)) [
      | inl here ↦
          let same : Some first ≡ Some task = sym (cond-true _ (Some first) (find (has_pid pid) rest) here) ∙ found in
          let is : first ≡ task = cc in
          let at : first.spec.pid ≡ pid = eqb-true first.spec.pid pid here in
          cond-true _ (first ∷ filter (has_pid pid) rest) (filter (has_pid pid) rest) here
          ∙ (λ i. is i ∷ none_left pid rest (weaker (λ other. first.spec.pid + 1 ≤ other.spec.pid) (λ other. has_pid pid other ≡ false)
          (λ other above. other_pid (first.spec.pid + 1) pid other (omega (arith, at)) above) rest (above_all (first.spec.pid + 1) rest rises.1)) i)
      | inr past ↦
          cond-false _ (first ∷ filter (has_pid pid) rest) (filter (has_pid pid) rest) past
          ∙ found_alone (first.spec.pid + 1) pid rest task rises.1 (sym (cond-false _ (Some first) (find (has_pid pid) rest) past) ∙ found)
    ] where
      none_left : (pid : ℕ) (tasks : List Task) → AllByRecursion (λ other. has_pid pid other ≡ false) tasks → filter (has_pid pid) tasks ≡ []
      none_left pid [] none = refl
      none_left pid (x ∷ xs) none = cond-false _ (x ∷ filter (has_pid pid) xs) (filter (has_pid pid) xs) none.0 ∙ none_left pid xs none.1

-- where none was found, there is none
pub found_none : (pid : ℕ) (tasks : List Task) → find (has_pid pid) tasks ≡ None → filter (has_pid pid) tasks ≡ []
found_none pid [] none = refl
found_none pid (first ∷ rest) none =
    elim (cases_Bool (has_pid pid first)) [
      | inl here ↦ let some = sym (cond-true _ (Some first) (find (has_pid pid) rest) here) ∙ none in absurd cc
      | inr past ↦
          cond-false _ (first ∷ filter (has_pid pid) rest) (filter (has_pid pid) rest) past
          ∙ found_none pid rest (sym (cond-false _ (Some first) (find (has_pid pid) rest) past) ∙ none)
    ]

-- ---- a task that is put in its position

-- none has a pid that a search did not find
pub none_found : (pid : ℕ) (tasks : List Task) → find (has_pid pid) tasks ≡ None → NoneHas pid tasks
none_found pid [] none = tt
none_found pid (first ∷ rest) none =
    elim (cases_Bool (has_pid pid first)) [
      | inl here ↦ let some = sym (cond-true _ (Some first) (find (has_pid pid) rest) here) ∙ none in absurd cc
      | inr past ↦ (past, none_found pid rest (sym (cond-false _ (Some first) (find (has_pid pid) rest) past) ∙ none))
    ]

-- To put a task asleep in its position and then give it a cookie puts it there with the cookie.
pub inserted_given : (spec : TaskSpec) (cookie : ℕ) (tasks : List Task) → find (has_pid spec.pid) tasks ≡ None →
    map (λ (other : Task). cond (has_pid spec.pid other) (record other { cookie = cookie }) other) (inserted (asleep spec) tasks)
    ≡ inserted (record (asleep spec) { cookie = cookie }) tasks
inserted_given spec cookie tasks none =
    map-append (λ (other : Task). cond (has_pid spec.pid other) (record other { cookie = cookie }) other) (filter (is_below spec.pid) tasks) (asleep spec ∷ filter (is_above spec.pid) tasks)
    ∙ (λ i. kept (is_below spec.pid) i ++ cond (its_own i) (record (asleep spec) { cookie = cookie }) (asleep spec) ∷ kept (is_above spec.pid) i) where
      its_own : has_pid spec.pid (asleep spec) ≡ true
      its_own = eq-eqb spec.pid spec.pid refl

      kept : (p : Task → Bool) → map (λ (other : Task). cond (has_pid spec.pid other) (record other { cookie = cookie }) other) (filter p tasks) ≡ filter p tasks
      kept p =
          changed_none (λ other. record other { cookie = cookie }) spec.pid (filter p tasks)
          (each-filter (λ other. has_pid spec.pid other ≡ false) p tasks (none_found spec.pid tasks none))

-- ---- a task whose cookie is set

pid_tests : (a b : ℕ) → eqb a b ≡ (eqb b a || false)
pid_tests a b = grind (arith, nat_tests)

-- the task that was found gets a cookie, and nothing else changes
pub set_each : (cookie : ℕ) (tasks : List Task) (task : Task) → Rises tasks → find (has_pid task.spec.pid) tasks ≡ Some task →
    map (λ other. cond (has_pid task.spec.pid other) (record task { cookie = cookie }) other) tasks
    ≡ map (λ (other : Task). cond (is_set (record { tasks = task ∷ []; cookie = cookie }) other.spec.pid) (record other { cookie = cookie }) other) tasks
set_each cookie tasks task rises found =
    changed_each (λ t. record t { cookie = cookie }) tasks task rises found ∙ conditions tasks where
      conditions : (ts : List Task) → map (λ (other : Task). cond (has_pid task.spec.pid other) (record other { cookie = cookie }) other) ts
          ≡ map (λ (other : Task). cond (is_set (record { tasks = task ∷ []; cookie = cookie }) other.spec.pid) (record other { cookie = cookie }) other) ts
      conditions [] = refl
      conditions (other ∷ ts) =
          λ i. cond (pid_tests other.spec.pid task.spec.pid i) (record other { cookie = cookie }) other ∷ conditions ts i

-- ---- the tasks of a group above a pid

set_spec : (b : Bool) (cookie : ℕ) (task : Task) → (cond b (record task { cookie = cookie }) task).spec ≡ task.spec
set_spec true cookie task = refl
set_spec false cookie task = refl

in_group_by_spec : (group : Group) (a b : Task) → a.spec ≡ b.spec → is_in_group group a ≡ is_in_group group b
in_group_by_spec All a b same = refl
in_group_by_spec (Threads leader) a b same = ap (λ (spec : TaskSpec). spec.tgid == leader) same
in_group_by_spec (Process number) a b same = ap (λ (spec : TaskSpec). spec.pgid == number) same

-- a task that gets a cookie is not among those above it
pub above_kept : (group : Group) (cookie : ℕ) (task : Task) (tasks : List Task) →
    group_above group task.spec.pid (map (λ (other : Task). cond (is_set (record { tasks = task ∷ []; cookie = cookie }) other.spec.pid) (record other { cookie = cookie }) other) tasks)
    ≡ group_above group task.spec.pid tasks
above_kept group cookie task tasks =
    filter-map_kept (λ other. is_in_group group other && ltb task.spec.pid other.spec.pid)
    (λ other. cond ((task.spec.pid == other.spec.pid) || false) (record other { cookie = cookie }) other)
    (λ other.
    let test = (task.spec.pid == other.spec.pid) || false in
    let same = set_spec test cookie other in
    λ i. in_group_by_spec group (cond test (record other { cookie = cookie }) other) other same i && ltb task.spec.pid (same i).pid)
    (λ other holds. cond-false _ (record other { cookie = cookie }) other (not_it (is_in_group group other) task.spec.pid other.spec.pid holds)) tasks where
      not_it : (b : Bool) (m n : ℕ) → (b && ltb m n) ≡ true → (eqb m n || false) ≡ false
      not_it b m n holds = grind (arith, nat_tests)
