-- Exchanges: two siblings of a core exchange their queues, when all tasks of the one moved to the other, which had
-- none.
use Rattle.std.specs.Prelude.{◌≡◌, ◌≢◌, ℕ, ◌+◌, ◌*◌, ◌^◌, ◌<◌, List, length, map, Some, slice_get, slice_index_or}
use Rattle.cs_types.specs.Room.{absent}
use Rattle.task_table.specs.Table.{Table}
use Rattle.task_table.specs.Moves.{with_first_moved}
use Rattle.core_lanes.specs.Queued.{queued_at}
use Rattle.core_lanes.specs.Moved.{MayRenew}
use Rattle.core_lanes.specs.Lanes.{BareCore, bare, lane_state, queues_of, AgreeBy}
use Rattle.core_lanes.specs.declared.queue.SiblingQueue.{Ghosts}
use Rattle.core_lanes.specs.declared.lane.Lane.{Lane}
use Rattle.core_lanes.specs.declared.lanes.Core.{Core}

-- a core and a table agree but for what the queues hold
abbrev pub AgreeApart : {Q : Type 0} {g : Ghosts Q} → Core Q g × Table → Type 0
AgreeApart both = AgreeBy (Unit {0}) both

-- this number of tasks may move from the one sibling to the other, one after another: the stamps and the touches do not
-- overflow
pub record MayPlace {Q : Type 0} {g : Ghosts Q} (count from to : ℕ) (core : Core Q g) : Type 0 where
  pub cpu : from < length core.lanes.items
  pub other : to < length core.lanes.items
  pub stamps : core.next_stamp + count < 2 ^ 64
  pub touches : core.task_number + 2 * count < 2 ^ 64

-- the least virtual time of a sibling
abbrev pub least_of : {Q : Type 0} {g : Ghosts Q} → Core Q g → ℕ → ℕ
least_of core cpu = (slice_index_or (map lane_state core.lanes.items) cpu absent).least

-- a core once this number of tasks moved, each with the next stamp and two touches
abbrev pub counted : ℕ → BareCore → BareCore
counted count core = record core { next_stamp = core.next_stamp + count; task_number = core.task_number + 2 * count }

-- this number of these tasks moved from the one sibling to the other, one after another, whatever the queues hold
pub record PlacesFirst {Q : Type 0} {g : Ghosts Q} (count : ℕ) (pids : List ℕ) (from to : ℕ) (old new : Core Q g × Table) : Type 0 where
  pub core : bare new.0 ≡ counted count (bare old.0)
  pub lanes : new.0.lanes ≡ old.0.lanes
  pub table : new.1 ≡ record old.1 {
    tasks = with_first_moved count pids to (least_of old.0 from) (least_of old.0 to) old.0.next_stamp old.1.tasks;
  }

-- two siblings exchanged their queues, and nothing else changed
pub record Exchange {Q : Type 0} (one other : ℕ) (old new : List (Lane Q)) : Type 0 where
  pub states : map lane_state new ≡ map lane_state old
  pub numbers : map (λ lane. lane.number) new ≡ map (λ lane. lane.number) old
  pub first : slice_get (map (λ lane. lane.queue) new) one ≡ slice_get (map (λ lane. lane.queue) old) other
  pub second : slice_get (map (λ lane. lane.queue) new) other ≡ slice_get (map (λ lane. lane.queue) old) one
  pub rest : (cpu : ℕ) → cpu ≢ one → cpu ≢ other → slice_get (map (λ lane. lane.queue) new) cpu ≡ slice_get (map (λ lane. lane.queue) old) cpu

-- All tasks of the one sibling moved to the other, whose queue has none of its own. Each other queue holds what it is
-- to hold.
pub record MayExchange {Q : Type 0} {g : Ghosts Q} (from to : ℕ) (both : Core Q g × Table) : Type 0 where
  pub cpu : from < length both.0.lanes.items
  pub other : to < length both.0.lanes.items
  pub two : from ≢ to
  pub full : (queue : Q) → slice_get (queues_of both.0) from ≡ Some queue → MayRenew (g.holds queue both.1.limit) to both.1
  pub empty : (queue : Q) → slice_get (queues_of both.0) to ≡ Some queue → g.holds queue both.1.limit (queued_at both.1.tasks from)
  pub rest : (cpu : ℕ) (queue : Q) → cpu ≢ from → cpu ≢ to → slice_get (queues_of both.0) cpu ≡ Some queue →
      g.holds queue both.1.limit (queued_at both.1.tasks cpu)
