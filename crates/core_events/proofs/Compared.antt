-- Compared: how the comparisons of the parts of an event add up to those of the event.
use Rattle.std.proofs.Common.{◌≡◌, ℕ, ◌+◌, ◌*◌, ◌≤◌, subst, ap, length, arith}
use Rattle.std.proofs.Math.Nat.{mul_assoc, mul-le-mul_left, mul-le-mul_right}
use Rattle.cs_types.specs.declared.event.Event.{Event}
use Rattle.task_table.specs.Table.{Table}
use Rattle.core_lanes.specs.declared.queue.SiblingQueue.{Ghosts}
use Rattle.core_lanes.specs.declared.lanes.Core.{Core}
use Rattle.core_lanes.specs.Changes.{Kept, Stays}
use Rattle.core_lanes.specs.Comparisons.{ComparesFor}
use Rattle.core_lanes.proofs.Counted.{few_queued, later}
use Rattle.core_pick.specs.Comparisons.{ComparesForSchedule}
use Rattle.core_tasks.specs.declared.state.State.{State}
use Rattle.core_tasks.specs.State.{both}
use Rattle.core_events.specs.Comparisons.{most_calls, ComparesForEvent}

module _ {Q : Type 0} {g : Ghosts Q} (rises : (few many : ℕ) → few ≤ many → g.most_compared few ≤ g.most_compared many) where
  -- a schedule asks each sibling twice
  pub schedule_calls : (both : Core Q g × Table) (old new : ℕ) → ComparesForSchedule both old new → ComparesFor (2 * length both.0.lanes.items) both old new
  schedule_calls both old new made =
      omega (
        arith,
        made (length both.1.tasks) (λ cpu below. few_queued both.1.tasks cpu),
        mul_assoc 2 (length both.0.lanes.items) (g.most_compared (length both.1.tasks)),
      )

  -- the schedule that a sibling makes once a task was put to sleep or ended
  pub schedule_after : (then both : Core Q g × Table) (old new : ℕ) → length then.0.lanes.items ≡ length both.0.lanes.items →
      length then.1.tasks ≤ length both.1.tasks → ComparesForSchedule then old new → ComparesFor (2 * length both.0.lanes.items) both old new
  schedule_after then both old new many few made =
      subst (λ n. ComparesFor (2 * n) both old new) many (later rises (2 * length then.0.lanes.items) then both old new few (schedule_calls then old new made))

  -- the calls of an event
  pub for_event : {G : Type 0} (calls : ℕ) (state : State Q G g) (event : Event) (old new : ℕ) → calls ≤ most_calls (length state.core.lanes.items) (length state.tasks.tasks) event →
      ComparesFor calls (both state) old new → ComparesForEvent state event old new
  for_event calls state event old new no_more made =
      let tasks = length state.tasks.tasks in
      let one = g.most_compared tasks in
      let more = g.most_compared (tasks + 1) in
      omega (arith, made, mul-le-mul_left calls (rises tasks (tasks + 1) (omega arith)), mul-le-mul_right more no_more)

-- as many siblings are there after a change
pub as_many_siblings : {Q : Type 0} {g : Ghosts Q} {old new : Core Q g × Table} → Stays old new → length new.0.lanes.items ≡ length old.0.lanes.items
as_many_siblings stays = ap (λ (kept : Kept). kept.siblings) stays.kept
