-- Moving: the tasks of a sibling that leaves, as its queue has them once all of them moved to one that had none.
use Rattle.std.proofs.Common.{◌≡◌, ◌≢◌, ℕ, ◌+◌, ◌-◌, ◌≤◌, true, false, cond, ltb, List, [], ◌∷◌, map, None, Some, inl, inr, refl, sym, ap, ◌∙◌, subst, length, arith, ne_eqb}
use Rattle.std.specs.Prelude.{filter, count_by, ◌&&◌, ◌==◌, All, IsTrue}
use Rattle.std.specs.List.{AllByRecursion}
use Rattle.std.proofs.Math.Bool.{and-false}
use Rattle.std.proofs.lemmas.Bool.{cases_Bool, cond-true, cond-false, eqb-true, eq-eqb, and_parts}
use Rattle.std.proofs.lemmas.Bool.Decides.{nat_tests}
use Rattle.std.proofs.lemmas.List.Sums.{sum_by-cons}
use Rattle.std.proofs.lemmas.List.Elements.{All-map, All-weaker, All-from_recursion}
use Rattle.cs_types.specs.declared.task.Task.{Task}
use Rattle.cs_types.specs.declared.task.Policy.{Policy}
use Rattle.cs_types.specs.declared.task.Policy.TheVariants.{Stop, Fair}
use Rattle.cs_types.specs.declared.queue.Queued.{Queued}
use Rattle.cs_types.specs.Order.{fair_class, class_of, is_fair}
use Rattle.cs_types.specs.Queue.{queued_of, rank_by}
use Rattle.cs_types.specs.Room.{RoomState, sibling_of, queued_on}
use Rattle.cs_types.specs.Hotplug.{lowest_other, moved_off}
use Rattle.cs_types.proofs.Foremost.{foremost_none}
use Rattle.cs_types.proofs.Filtered.{foremost_least}
use Rattle.core_lanes.specs.Queued.{queued_among, queued_at, smallest_vtime}
use Rattle.core_lanes.specs.Moved.{again}
use Rattle.core_lanes.proofs.Lists.{less_is_order}
use Rattle.core_lanes.proofs.Queues.{is_on}
use Rattle.cpu_hotplug.specs.Leaves.{NoneBehind}

-- ---- a task that moved, as a queue has it

-- a count over the queued tasks is one over the tasks
count_queued : (stamp : ℕ) (tasks : List Task) → count_by (λ (other : Queued). ltb other.stamp stamp) (map queued_of tasks) ≡ count_by (λ (other : Task). ltb other.stamp stamp) tasks
count_queued stamp [] = refl
count_queued stamp (task ∷ tasks) =
    sum_by-cons (λ (other : Queued). cond (ltb other.stamp stamp) 1 0) (queued_of task) (map queued_of tasks)
    ∙ ap (λ n. cond (ltb task.stamp stamp) 1 0 + n) (count_queued stamp tasks)
    ∙ sym (sum_by-cons (λ (other : Task). cond (ltb other.stamp stamp) 1 0) task tasks)

-- only a fair task's rank changes
rank_moved : (policy : Policy) (deadline from to vtime : ℕ) →
    rank_by policy deadline (to + (vtime - from)) ≡ cond (class_of policy == fair_class) (to + (rank_by policy deadline vtime - from)) (rank_by policy deadline vtime)
rank_moved Stop deadline from to vtime = refl
rank_moved policy deadline from to vtime = refl

-- a fair task that is not behind has no lower rank
ahead_by : (policy : Policy) (deadline vtime least : ℕ) → ((class_of policy == fair_class) ≡ true → least ≤ vtime) → class_of policy ≡ fair_class → least ≤ rank_by policy deadline vtime
ahead_by (Fair nice) deadline vtime least ahead is = ahead refl
ahead_by policy deadline vtime least ahead is = absurd (omega (arith, is))

pub none_behind : (least : ℕ) (tasks : List Task) → NoneBehind least tasks → All (λ (task : Queued). task.class ≡ fair_class → least ≤ task.rank) (map queued_of tasks)
none_behind least tasks ahead =
    All-map (λ (task : Queued). task.class ≡ fair_class → least ≤ task.rank) queued_of tasks
    (All-weaker (λ (task : Task). IsTrue (is_fair task) → least ≤ task.vtime) (λ (task : Task). class_of task.spec.policy ≡ fair_class → least ≤ (queued_of task).rank)
    (λ task fair. ahead_by task.spec.policy task.deadline task.vtime least fair) tasks ahead)

module _ (room : RoomState) (cpu to : ℕ) (lowest : to ≡ lowest_other room cpu) where
  -- the least virtual times of the two
  abbrev pub least_from : ℕ
  least_from = (sibling_of room cpu).least

  abbrev pub least_to : ℕ
  least_to = (sibling_of room to).least

  abbrev pub anew : Queued → Queued
  anew task = again least_from least_to room.next_stamp (map queued_of (queued_on room cpu)) task

  queued_moved : (task : Task) → is_on cpu task ≡ true → queued_of (moved_off room cpu task) ≡ anew (queued_of task)
  queued_moved task on =
      let home : task.home ≡ cpu = eqb-true task.home cpu (and_parts task.queued (task.home == cpu) on).1 in
      let stamp = room.next_stamp + count_by (λ (other : Task). ltb other.stamp task.stamp) (queued_on room cpu) in
      ap queued_of (cond-true (is_on cpu task) _ task on)
      ∙ (λ i. queued_with task ((sibling_of room (sym lowest i)).least + (task.vtime - (sibling_of room (home i)).least)) stamp)
      ∙ (λ i. record {
        pid = task.spec.pid;
        class = class_of task.spec.policy;
        rank = rank_moved task.spec.policy task.deadline least_from least_to task.vtime i;
        stamp = room.next_stamp + sym (count_queued task.stamp (queued_on room cpu)) i;
        cookie = task.cookie;
      }) where
        queued_with : Task → ℕ → ℕ → Queued
        queued_with t vtime stamp =
            record { pid = t.spec.pid; class = class_of t.spec.policy; rank = rank_by t.spec.policy t.deadline vtime; stamp = stamp; cookie = t.cookie }

  -- ---- those that are there then

  module _ (two : cpu ≢ to) where
    -- where none was queued there, those that moved are
    pub moved_there : (tasks : List Task) → queued_among tasks to ≡ [] → queued_at (map (moved_off room cpu) tasks) to ≡ map anew (queued_at tasks cpu)
    moved_there [] none = refl
    moved_there (task ∷ tasks) none =
        let moved = moved_off room cpu task in
        let rest = queued_among (map (moved_off room cpu) tasks) to in
        let off : is_on to task ≡ false = elim (cases_Bool (is_on to task)) [
          | inl on ↦
              let some = ap length (sym (cond-true (is_on to task) (task ∷ queued_among tasks to) (queued_among tasks to) on) ∙ none) in
              absurd (omega (arith, some))
          | inr is ↦ is
        ] in
        let others = moved_there tasks (sym (cond-false (is_on to task) (task ∷ queued_among tasks to) (queued_among tasks to) off) ∙ none) in
        elim (cases_Bool (is_on cpu task)) [
          | inl on ↦
              let here : is_on to moved ≡ true =
              ap (is_on to) (cond-true (is_on cpu task) _ task on)
              ∙ (λ i. (and_parts task.queued (task.home == cpu) on).0 i && eq-eqb (lowest_other room cpu) to (sym lowest) i) in
              ap (map queued_of) (cond-true (is_on to moved) (moved ∷ rest) rest here)
              ∙ (λ i. queued_moved task on i ∷ others i)
              ∙ sym (ap (λ (ts : List Task). map anew (map queued_of ts)) (cond-true (is_on cpu task) (task ∷ queued_among tasks cpu) (queued_among tasks cpu) on))
          | inr away ↦
              let stays : moved ≡ task = cond-false (is_on cpu task) _ task away in
              ap (map queued_of) (cond-false (is_on to moved) (moved ∷ rest) rest (ap (is_on to) stays ∙ off))
              ∙ others
              ∙ sym (ap (λ (ts : List Task). map anew (map queued_of ts)) (cond-false (is_on cpu task) (task ∷ queued_among tasks cpu) (queued_among tasks cpu) away))
        ]

    -- and elsewhere are those that were
    pub elsewhere : (other : ℕ) → other ≢ cpu → other ≢ to → (tasks : List Task) → queued_among (map (moved_off room cpu) tasks) other ≡ queued_among tasks other
    elsewhere other one two [] = refl
    elsewhere other one two (task ∷ tasks) =
        let moved = moved_off room cpu task in
        let now = queued_among (map (moved_off room cpu) tasks) other in
        let before = queued_among tasks other in
        elim (cases_Bool (is_on cpu task)) [
          | inl on ↦
              let home : task.home ≡ cpu = eqb-true task.home cpu (and_parts task.queued (task.home == cpu) on).1 in
              let gone : is_on other moved ≡ false =
              ap (is_on other) (cond-true (is_on cpu task) _ task on)
              ∙ ap (λ b. task.queued && b) (ne_eqb (lowest_other room cpu) other (λ is. two (sym is ∙ sym lowest))) ∙ and-false task.queued in
              let off : is_on other task ≡ false = ap (λ b. task.queued && b) (ne_eqb task.home other (λ is. one (sym is ∙ home))) ∙ and-false task.queued in
              cond-false (is_on other moved) (moved ∷ now) now gone ∙ elsewhere other one two tasks ∙ sym (cond-false (is_on other task) (task ∷ before) before off)
          | inr away ↦
              let stays : moved ≡ task = cond-false (is_on cpu task) _ task away in
              (λ i. cond (is_on other (stays i)) (stays i ∷ elsewhere other one two tasks i) (elsewhere other one two tasks i))
        ]

-- ---- whether one is behind

not_less : (least smallest v : ℕ) → least ≤ smallest → ltb v smallest ≡ false → least ≤ v
not_less least smallest v below less = grind (arith, nat_tests)

from_least : (least smallest : ℕ) → least ≤ smallest → (tasks : List Task) → AllByRecursion (λ v. ltb v smallest ≡ false) (map (λ (task : Task). task.vtime) (filter is_fair tasks)) →
    AllByRecursion (λ (task : Task). IsTrue (is_fair task) → least ≤ task.vtime) tasks
from_least least smallest below [] all = tt
from_least least smallest below (task ∷ tasks) all =
    elim (is_fair task) as (λ b. AllByRecursion (λ v. ltb v smallest ≡ false) (map (λ (t : Task). t.vtime) (cond b (task ∷ filter is_fair tasks) (filter is_fair tasks))) →
    (b ≡ true → least ≤ task.vtime) × AllByRecursion (λ (t : Task). IsTrue (is_fair t) → least ≤ t.vtime) tasks) [
      | true ↦ λ each. (λ fair. not_less least smallest task.vtime below each.0, from_least least smallest below tasks each.1)
      | false ↦ λ each. (λ fair. absurd cc, from_least least smallest below tasks each)
    ] all

pub ahead_some : (least smallest : ℕ) (tasks : List Task) → smallest_vtime tasks ≡ Some smallest → least ≤ smallest → NoneBehind least tasks
ahead_some least smallest tasks is below =
    All-from_recursion (λ (task : Task). IsTrue (is_fair task) → least ≤ task.vtime) tasks
    (from_least least smallest below tasks (foremost_least ltb (map (λ (task : Task). task.vtime) (filter is_fair tasks)) smallest is))

pub ahead_none : (least : ℕ) (tasks : List Task) → smallest_vtime tasks ≡ None → NoneBehind least tasks
ahead_none least tasks is =
    All-from_recursion (λ (task : Task). IsTrue (is_fair task) → least ≤ task.vtime) tasks
    (from_least least least (omega arith) tasks
    (subst (AllByRecursion (λ v. ltb v least ≡ false)) (sym (foremost_none ltb less_is_order (map (λ (task : Task). task.vtime) (filter is_fair tasks)) is)) tt))
