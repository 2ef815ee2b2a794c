-- Askings: how often the guards are asked.
use Rattle.std.proofs.Common.{◌≡◌, ℕ, ◌+◌, ◌*◌, ◌≤◌, ◌<◌, ◌-◌, ap, Bool, cond, not, List, [], ◌∷◌, ◌++◌, map, length, length-append, refl, arith, Option, Some, None}
use Rattle.std.specs.Prelude.{All, ◌==◌}
use Rattle.std.specs.List.{AllByRecursion}
use Rattle.std.proofs.lemmas.Bool.{cond_both}
use Rattle.std.proofs.lemmas.Nat.{mul-le}
use Rattle.std.proofs.lemmas.List.Elements.{All-from_recursion, recursion_from_All}
use Rattle.std.proofs.lemmas.List.Filters.{length-filter_both}
use Rattle.cs_types.specs.declared.task.Task.{Task}
use Rattle.cs_types.specs.declared.task.TaskSpec.{TaskSpec}
use Rattle.cs_types.specs.declared.event.Ask.{Ask}
use Rattle.cs_types.specs.declared.scenario.Teach.{Teach}
use Rattle.cs_types.specs.Guards.{on_bench, GuardState, GuardList, no_guard, guard_of, is_bench, is_active, load, unload, asked_once, asked_each, asked_until}
use Rattle.cs_types.specs.Access.{Rule, guard_rule, access_rules, asked_about}
use Rattle.cs_types.specs.Room.{RoomState, task_of}
use Rattle.cs_types.specs.Prctl.{Row, is_in_scope, is_thread, members, target_of, may_access_each, asked_about_each, asked_about_members, rows_before_making, rows_after_making, asked_by_call}
use Rattle.cs_types.proofs.Foremost.{each_weaker}
use Rattle.cs_types.proofs.Lists.{all_set, all_get}

-- ---- how many guards are asked

-- how many guards these conditions ask in all
abbrev in_all : List (Bool × List ℕ) → ℕ
in_all [] = 0
in_all (tried ∷ rest) = length tried.1 + in_all rest

asked_until-le : (tried : List (Bool × List ℕ)) → length (asked_until tried) ≤ in_all tried
asked_until-le [] = omega arith
asked_until-le (one ∷ rest) =
    omega (
      arith,
      length-append one.1 (cond one.0 [] (asked_until rest)),
      cond_both one.0 [] (asked_until rest) (λ (asked : List ℕ). length asked ≤ in_all rest) (λ _. omega arith) (λ _. asked_until-le rest),
    )

-- each guard's rule asks one
guard_rules-sum : (guards : GuardList) (caller target : TaskSpec) (active : List ℕ) →
    in_all (map (λ (rule : Rule). (rule.decides, rule.asks)) (map (guard_rule guards caller target) active)) ≤ length active
guard_rules-sum guards caller target [] = omega arith
guard_rules-sum guards caller target (index ∷ active) =
    omega (arith, guard_rules-sum guards caller target active)

-- an access asks at most the active guards
asked_about-le : (guards : GuardList) (caller target : TaskSpec) → length (asked_about guards caller target) ≤ length guards.active
unfolding asked_about
asked_about-le guards caller target =
    omega (arith, asked_until-le (map (λ (rule : Rule). (rule.decides, rule.asks)) (access_rules guards caller target)), guard_rules-sum guards caller target guards.active)

asked_about_each-le : (room : RoomState) (caller target : Option Task) → length (asked_about_each room caller target) ≤ length room.guards.active
asked_about_each-le room None target = omega arith
asked_about_each-le room (Some caller) None = omega arith
asked_about_each-le room (Some caller) (Some target) = asked_about-le room.guards caller.spec target.spec

-- so those of several tasks ask at most as many for each
tasks-sum : (room : RoomState) (caller : Option Task) (tasks : List Task) →
    in_all (map (λ (member : Task). (not (may_access_each room caller (Some member)), asked_about_each room caller (Some member))) tasks)
    ≤ length tasks * length room.guards.active
tasks-sum room caller [] = omega arith
tasks-sum room caller (task ∷ tasks) =
    let active = length room.guards.active in
    omega (arith, tasks-sum room caller tasks, asked_about_each-le room caller (Some task))

asked_about_members-le : (room : RoomState) (scope : ℕ) (caller target : Option Task) →
    length (asked_about_members room scope caller target) ≤ length room.tasks * length room.guards.active
asked_about_members-le room scope caller None = omega arith
asked_about_members-le room scope caller (Some target) =
    let active = length room.guards.active in
    let asks : List (Bool × List ℕ) = map (λ (member : Task). (not (may_access_each room caller (Some member)), asked_about_each room caller (Some member))) (members room scope target) in
    let few : length (members room scope target) ≤ length room.tasks =
    omega (arith, length-filter_both (λ (task : Task). is_in_scope scope target.spec task.spec) (λ task. not (is_in_scope scope target.spec task.spec)) (λ task. refl) room.tasks) in
    omega (arith, asked_until-le asks, tasks-sum room caller (members room scope target), mul-le (length (members room scope target)) active (length room.tasks) active few (omega arith))

-- a call asks at most the active guards for its target, and as many for each task
asked_by_call-le : (room : RoomState) (pid : ℕ) (ask : Ask) →
    length (asked_by_call room pid ask) ≤ (length room.tasks + 1) * length room.guards.active
unfolding rows_before_making rows_after_making
asked_by_call-le room pid ask =
    let caller = task_of room pid in
    let target = target_of room pid ask in
    let active = length room.guards.active in
    omega (
      arith,
      asked_until-le (map (λ (row : Row). (row.holds, row.asks)) (rows_before_making room pid ask ++ rows_after_making room pid ask)),
      asked_about_each-le room caller target,
      cond_both (is_thread ask) [] (asked_about_members room ask.scope caller target) (λ (asked : List ℕ). length asked ≤ length room.tasks * active)
          (λ _. omega arith) (λ _. asked_about_members-le room ask.scope caller target),
    )

-- ---- how the counts go on

-- a guard was asked at most this often
abbrev pub AskedAtMost : ℕ → GuardState → Type 0
AskedAtMost most guard = guard.asked ≤ most

-- Where at most this number of tasks live, an event asks at most all active guards for each task, and once more, and makes
-- at most one more active.
pub record AsksFew (tasks : ℕ) (old new : GuardList) : Type 0 where
  pub active : length new.active ≤ length old.active + 1
  pub asked : (most : ℕ) → AllByRecursion (AskedAtMost most) old.all → AllByRecursion (AskedAtMost (most + (tasks + 1) * length old.active)) new.all

weaker_by : (most more : ℕ) (guards : List GuardState) → AllByRecursion (AskedAtMost most) guards → AllByRecursion (AskedAtMost (most + more)) guards
weaker_by most more guards low = each_weaker (AskedAtMost most) (AskedAtMost (most + more)) guards (λ guard is. omega (arith, is)) low

pub asks_none : (tasks : ℕ) (guards : GuardList) → AsksFew tasks guards guards
asks_none tasks guards = record { active = omega arith; asked = λ most low. weaker_by most ((tasks + 1) * length guards.active) guards.all low }

asked_at : (most : ℕ) (guards : GuardList) (index : ℕ) → AllByRecursion (AskedAtMost most) guards.all → (guard_of guards index).asked ≤ most
asked_at most guards index low = all_get (AskedAtMost most) guards.all index no_guard (omega arith) low

asked_once-le : (most : ℕ) (guards : GuardList) (index : ℕ) → AllByRecursion (AskedAtMost most) guards.all → AllByRecursion (AskedAtMost (most + 1)) (asked_once guards index).all
asked_once-le most guards index low =
    all_set (AskedAtMost (most + 1)) guards.all index _ (omega (arith, asked_at most guards index low)) (weaker_by most 1 guards.all low)

active-asked_each : (guards : GuardList) (indices : List ℕ) → (asked_each guards indices).active ≡ guards.active
active-asked_each guards [] = refl
active-asked_each guards (index ∷ indices) = active-asked_each (asked_once guards index) indices

asked_each-le : (most : ℕ) (guards : GuardList) (indices : List ℕ) → AllByRecursion (AskedAtMost most) guards.all →
    AllByRecursion (AskedAtMost (most + length indices)) (asked_each guards indices).all
asked_each-le most guards [] low = weaker_by most 0 guards.all low
asked_each-le most guards (index ∷ indices) low =
    each_weaker (AskedAtMost (most + 1 + length indices)) (AskedAtMost (most + length (index ∷ indices))) (asked_each guards (index ∷ indices)).all
    (λ guard is. omega (arith, is)) (asked_each-le (most + 1) (asked_once guards index) indices (asked_once-le most guards index low))

pub asks-call : (room : RoomState) (pid : ℕ) (ask : Ask) → AsksFew (length room.tasks) room.guards (asked_each room.guards (asked_by_call room pid ask))
asks-call room pid ask = record {
  active = omega (arith, ap (λ (active : List ℕ). length active) (active-asked_each room.guards (asked_by_call room pid ask)));
  asked = λ most low.
      each_weaker (AskedAtMost (most + length (asked_by_call room pid ask))) (AskedAtMost (most + (length room.tasks + 1) * length room.guards.active)) _
      (λ guard is. omega (arith, is, asked_by_call-le room pid ask)) (asked_each-le most room.guards (asked_by_call room pid ask) low);
}

pub asks-load : (tasks : ℕ) (guards : GuardList) (index : ℕ) → AsksFew tasks guards (load guards index)
asks-load tasks guards index =
    cond_both (is_bench (guard_of guards index).place) _ _ (AsksFew tasks guards)
    (λ _. record {
      active = omega (arith, length-append guards.active (index ∷ []));
      asked = λ most low. all_set (AskedAtMost (most + (tasks + 1) * length guards.active)) guards.all index _
          (omega (arith, asked_at most guards index low)) (weaker_by most ((tasks + 1) * length guards.active) guards.all low);
    })
    (λ _. asks_none tasks guards)

pub asks-unload : (tasks : ℕ) (guards : GuardList) (index : ℕ) → AsksFew tasks guards (unload guards index)
asks-unload tasks guards index =
    cond_both (is_active (guard_of guards index).place) _ _ (AsksFew tasks guards)
    (λ _. record {
      active = omega (arith, length-filter_both (λ (other : ℕ). not (other == index)) (λ other. not (not (other == index))) (λ other. refl) guards.active);
      asked = λ most low. all_set (AskedAtMost (most + (tasks + 1) * length guards.active)) guards.all index _
          (omega (arith, asked_at most guards index low)) (weaker_by most ((tasks + 1) * length guards.active) guards.all low);
    })
    (λ _. asks_none tasks guards)

-- all guards on the bench were asked never
pub never_asked : (teaches : List Teach) (indices : List ℕ) → AllByRecursion (AskedAtMost 0) (map (on_bench teaches) indices)
never_asked teaches [] = tt
never_asked teaches (index ∷ indices) = (omega arith, never_asked teaches indices)

-- An access asks each of at most 16 active guards at most 16 times more. So where the counts leave that for so many accesses, they leave it
-- for one fewer after one.
pub asked-access : (bound left : ℕ) (guards : GuardList) (caller target : TaskSpec) → 16 * (left + 1) < bound → length guards.active ≤ 16 →
    All (λ (guard : GuardState). guard.asked + 16 * (left + 1) < bound) guards.all →
    All (λ (guard : GuardState). guard.asked + 16 * left < bound) (asked_each guards (asked_about guards caller target)).all
asked-access bound left guards caller target above few low =
    let most = bound - 16 * (left + 1) - 1 in
    All-from_recursion (λ (guard : GuardState). guard.asked + 16 * left < bound) (asked_each guards (asked_about guards caller target)).all
    (each_weaker (AskedAtMost (most + length (asked_about guards caller target))) (λ (guard : GuardState). guard.asked + 16 * left < bound) _
    (λ guard is. omega (arith, is, above, few, asked_about-le guards caller target))
    (asked_each-le most guards (asked_about guards caller target)
    (each_weaker (λ (guard : GuardState). guard.asked + 16 * (left + 1) < bound) (AskedAtMost most) guards.all (λ guard is. omega (arith, is))
    (recursion_from_All (λ (guard : GuardState). guard.asked + 16 * (left + 1) < bound) guards.all low))))
