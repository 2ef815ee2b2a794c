-- Starts: the tasks before the first wake.
use Rattle.std.proofs.Common.{◌≡◌, ℕ, zero, suc, ◌+◌, ◌<◌, ◌≤◌, true, false, cond, List, [], ◌∷◌, refl, subst, sym, ap, ◌∙◌, length, take, length-take, get_or, arith, eqb, inl, inr, Some, None}
use Rattle.std.specs.Prelude.{All, Result, Ok, find, fold, map, replicate, ◌&&◌, ◌==◌}
use Rattle.std.specs.List.{AllByRecursion, range_with_len}
use Rattle.cs_types.specs.Touches.{own_number}
use Rattle.std.specs.Result.{IsOk}
use Rattle.std.proofs.lemmas.Bool.{cond-false, ne_eqb, cases_Bool}
use Rattle.std.proofs.lemmas.List.{get_or-take, get_or_default}
use Rattle.std.proofs.lemmas.List.Elements.{All-head, All-tail, All-from_recursion}
use Rattle.cs_types.specs.declared.task.Task.{Task}
use Rattle.cs_types.specs.declared.task.TaskSpec.{TaskSpec}
use Rattle.cs_types.specs.Queue.{queued_of}
use Rattle.cs_types.specs.Scenario.{IsTask, AreDistinct}
use Rattle.cs_types.specs.Room.{first_pid, asleep, inserted, asleep_tasks, has_pid}
use Rattle.cs_types.proofs.Inserted.{each-inserted}
use Rattle.cs_laws.proofs.Tasks.{length-asleep_tasks, below_first_pid}
use Rattle.task_table.specs.Table.{Table, add_answer}
use Rattle.task_table.specs.declared.fault.AddFault.{AddFault}
use Rattle.core_lanes.specs.Lanes.{IsFit}
use Rattle.core_lanes.specs.Queued.{queued_among, queued_at, AreStamped}
use Rattle.core_tasks.specs.State.{IsGiven}

-- what holds of each of some tasks, and of those that are added
added_all : (P : Task → Type 0) (tasks : List Task) (specs : List TaskSpec) → AllByRecursion P tasks → All (λ spec. P (asleep spec)) specs →
    AllByRecursion P (fold (λ ts spec. inserted (asleep spec) ts) tasks specs)
added_all P tasks [] all each = all
added_all P tasks (spec ∷ specs) all each =
    added_all P (inserted (asleep spec) tasks) specs (each-inserted P (asleep spec) tasks (All-head (λ spec. P (asleep spec)) spec specs each) all)
    (All-tail (λ spec. P (asleep spec)) spec specs each)

-- the tasks of a scenario fit the siblings that there are, their pids are below the first that is given, they are asleep and
-- have no cookie
pub fit-asleep : (count : ℕ) (specs : List TaskSpec) → All (IsTask count) specs → All (IsFit count) (asleep_tasks specs)
fit-asleep count specs tasks =
    All-from_recursion (IsFit count) (asleep_tasks specs)
    (added_all (IsFit count) [] specs tt (λ k d lt. record { home = (tasks k d lt).cpu; policy = (tasks k d lt).policy }))

pub given-asleep : (count : ℕ) (specs : List TaskSpec) → All (IsTask count) specs → All (λ task. IsGiven (first_pid specs) task.spec.pid) (asleep_tasks specs)
given-asleep count specs tasks =
    All-from_recursion (λ (task : Task). IsGiven (first_pid specs) task.spec.pid) (asleep_tasks specs)
    (added_all (λ (task : Task). IsGiven (first_pid specs) task.spec.pid) [] specs tt (λ k d lt.
    ((tasks k d lt).pid.0, All-from_recursion (λ spec. spec.pid < first_pid specs) specs (below_first_pid specs) k d lt)))

pub all_asleep : (specs : List TaskSpec) → All (λ (task : Task). task.queued ≡ false) (asleep_tasks specs)
all_asleep specs =
    All-from_recursion (λ (task : Task). task.queued ≡ false) (asleep_tasks specs)
    (added_all (λ (task : Task). task.queued ≡ false) [] specs tt (λ k d lt. refl))

pub cookieless-asleep : (specs : List TaskSpec) → All (λ (task : Task). task.cookie ≡ 0) (asleep_tasks specs)
cookieless-asleep specs =
    All-from_recursion (λ (task : Task). task.cookie ≡ 0) (asleep_tasks specs)
    (added_all (λ (task : Task). task.cookie ≡ 0) [] specs tt (λ k d lt. refl))

find_none : (pid : ℕ) (tasks : List Task) → AllByRecursion (λ task. has_pid pid task ≡ false) tasks → find (has_pid pid) tasks ≡ None
find_none pid [] none = refl
find_none pid (task ∷ tasks) none = cond-false (has_pid pid task) (Some task) (find (has_pid pid) tasks) none.0 ∙ find_none pid tasks none.1

-- each task of a scenario can be added to those before it
asleep_added : (specs : List TaskSpec) (totals : List (ℕ × ℕ)) (limit i : ℕ) (d : TaskSpec) → AreDistinct specs → i < length specs → length specs ≤ limit →
    add_answer (record { tasks = asleep_tasks (take i specs); totals = totals; limit = limit }) (get_or specs i d) ≡ Ok tt
asleep_added specs totals limit i d distinct below few =
    let pid = (get_or specs i d).pid in
    let earlier : find (has_pid pid) (asleep_tasks (take i specs)) ≡ None =
    find_none pid (asleep_tasks (take i specs)) (added_all (λ task. has_pid pid task ≡ false) [] (take i specs) tt (λ k e lt.
    let before : k < i = omega (arith, length-take i specs, lt) in
    ap (λ (spec : TaskSpec). eqb spec.pid pid) (get_or-take i specs k e before)
    ∙ ne_eqb _ _ (λ same. distinct k i d before below (ap (λ (spec : TaskSpec). spec.pid) (get_or_default specs k d e (omega (arith, before, below))) ∙ same)))) in
    let room_left : eqb (length (asleep_tasks (take i specs))) limit ≡ false =
    ne_eqb _ _ (λ full. omega (arith, full, length-asleep_tasks (take i specs), length-take i specs, below, few)) in
    rw (earlier, room_left) refl

pub added_ok : (table : Table) (specs : List TaskSpec) (limit i : ℕ) (d : TaskSpec) (answer : Result (Unit {0}) AddFault) →
    table.tasks ≡ asleep_tasks (take i specs) → table.limit ≡ limit → answer ≡ add_answer table (get_or specs i d) →
    AreDistinct specs → i < length specs → length specs ≤ limit → IsOk answer
added_ok table specs limit i d answer tasks same is distinct below few =
    let now : table ≡ record { tasks = asleep_tasks (take i specs); totals = table.totals; limit = limit } = λ j. record { tasks = tasks j; totals = table.totals; limit = same j } in
    subst IsOk (sym (is ∙ ap (λ (t : Table). add_answer t (get_or specs i d)) now ∙ asleep_added specs table.totals limit i d distinct below few)) refl

-- ---- the queues

-- where all are asleep none is queued
pub none_queued : (tasks : List Task) (cpu : ℕ) → All (λ (task : Task). task.queued ≡ false) tasks → queued_at tasks cpu ≡ []
none_queued [] cpu asleep = refl
none_queued (task ∷ tasks) cpu asleep =
    ap (λ b. map queued_of (cond (b && (task.home == cpu)) (task ∷ queued_among tasks cpu) (queued_among tasks cpu))) (All-head (λ (t : Task). t.queued ≡ false) task tasks asleep)
    ∙ none_queued tasks cpu (All-tail (λ (t : Task). t.queued ≡ false) task tasks asleep)

found_asleep : (pid : ℕ) (tasks : List Task) (task : Task) → All (λ (t : Task). t.queued ≡ false) tasks → find (has_pid pid) tasks ≡ Some task → task.queued ≡ false
found_asleep pid [] task asleep found = absurd cc
found_asleep pid (first ∷ tasks) task asleep found =
    elim (cases_Bool (has_pid pid first)) [
      | inl here ↦
          let same : Some first ≡ Some task = sym (ap (λ b. cond b (Some first) (find (has_pid pid) tasks)) here) ∙ found in
          let is : first ≡ task = cc in
          ap (λ (t : Task). t.queued) (sym is) ∙ All-head (λ (t : Task). t.queued ≡ false) first tasks asleep
      | inr past ↦
          found_asleep pid tasks task (All-tail (λ (t : Task). t.queued ≡ false) first tasks asleep) (sym (ap (λ b. cond b (Some first) (find (has_pid pid) tasks)) past) ∙ found)
    ]

-- so there is nothing to say of their stamps
pub stamped-asleep : (next : ℕ) (tasks : List Task) → All (λ (task : Task). task.queued ≡ false) tasks → AreStamped next tasks
stamped-asleep next tasks asleep = record {
  below = λ k d lt queued. let bad : false ≡ true = sym (asleep k d lt) ∙ queued in absurd cc;
  distinct = λ task there queued. let bad : false ≡ true = sym (found_asleep task.spec.pid tasks task asleep there) ∙ queued in absurd cc;
}

-- ---- the numbers

-- before the first entry each sibling's own number is 0
pub own_number-start : (a n : ℕ) → replicate n 0 ≡ map (λ cpu. own_number cpu []) (range_with_len a n)
own_number-start a zero = refl
own_number-start a (suc n) = ap (λ (numbers : List ℕ). 0 ∷ numbers) (own_number-start (a + 1) n)
