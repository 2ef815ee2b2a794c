-- Leaves: when the tasks of a sibling that leaves may move, and how one sibling changes.
use Rattle.std.specs.Prelude.{◌≡◌, ◌≢◌, ℕ, ◌+◌, ◌*◌, ◌^◌, ◌<◌, ◌≤◌, List, [], length, All, IsTrue}
use Rattle.cs_types.specs.declared.task.Task.{Task}
use Rattle.cs_types.specs.Order.{is_fair}
use Rattle.cs_types.specs.Room.{SiblingState, sibling_of}
use Rattle.cs_types.specs.Hotplug.{lowest_other}
use Rattle.task_table.specs.Table.{Table}
use Rattle.core_lanes.specs.declared.queue.SiblingQueue.{Ghosts}
use Rattle.core_lanes.specs.declared.lane.Lane.{Lane}
use Rattle.core_lanes.specs.declared.lanes.Core.{Core}
use Rattle.core_lanes.specs.Queued.{queued_among, IsOf}
use Rattle.core_lanes.specs.Lanes.{Beside, lane_state, room_of, Agree, HasLowTimes, MayTell}

-- a sibling is another after this change, with its own number and its queue
pub record ChangesLane {Q : Type 0} (old new : Lane Q) (change : SiblingState → SiblingState) : Type 0 where
  pub state : lane_state new ≡ change (lane_state old)
  pub number : new.number ≡ old.number
  pub queue : new.queue ≡ old.queue

-- no fair task of the list is below this virtual time
abbrev pub NoneBehind : ℕ → List Task → Type 0
NoneBehind least tasks = All (λ task. IsTrue (is_fair task) → least ≤ task.vtime) tasks

-- all tasks queued on the sibling may move, and no stamp and no touch overflows
pub record MayMoveAll {Q : Type 0} {g : Ghosts Q} (sibling : ℕ) (both : Core Q g × Table) : Type 0 where
  pub cpu : sibling < length both.0.lanes.items
  pub agree : Agree both
  pub low : HasLowTimes both
  pub stamp : both.0.next_stamp + length both.1.tasks < 2 ^ 64
  pub touches : both.0.task_number + 2 * length both.1.tasks < 2 ^ 64

-- they may move off it, since another is online
pub record MayMoveOff {Q : Type 0} {g : Ghosts Q} (sibling : ℕ) (both : Core Q g × Table) : Type 0 where
  pub may : MayMoveAll sibling both
  pub another : (beside : Beside) → lowest_other (room_of beside both) sibling ≢ sibling

-- they may move to this sibling, which is the lowest other online one, and be listed in this list
pub record MayMoveAllTo {Q : Type 0} {g : Ghosts Q} (sibling to : ℕ) (movers : List ℕ) (both : Core Q g × Table) : Type 0 where
  pub may : MayMoveAll sibling both
  pub another : (beside : Beside) → lowest_other (room_of beside both) sibling ≢ sibling
  pub lowest : (beside : Beside) (tasks : Table) → to ≡ lowest_other (room_of beside (both.0, tasks)) sibling
  pub within : to < length both.0.lanes.items
  pub tell : MayTell sibling both movers

-- no fair task queued on the sibling is below the least virtual time of its own
abbrev pub AreAhead : {Q : Type 0} {g : Ghosts Q} → ℕ → Core Q g × Table → Type 0
AreAhead sibling both = (beside : Beside) → NoneBehind (sibling_of (room_of beside both) sibling).least (queued_among both.1.tasks sibling)

-- so their queue may move as it is if none is queued on the other sibling
pub record MovesWhole {Q : Type 0} {g : Ghosts Q} (sibling to : ℕ) (both : Core Q g × Table) : Type 0 where
  pub empty : queued_among both.1.tasks to ≡ []
  pub ahead : AreAhead sibling both

-- the task is one of the list, and queued on the sibling
pub record IsQueuedAt (sibling : ℕ) (tasks : List Task) (task : Task) : Type 0 where
  pub there : IsOf tasks task
  pub queued : IsTrue task.queued
  pub home : task.home ≡ sibling

-- they may move past those that are queued on the other sibling, this number of them
pub record MayMovePast {Q : Type 0} {g : Ghosts Q} (sibling other stay : ℕ) (movers : List ℕ) (both : Core Q g × Table) : Type 0 where
  pub all : MayMoveAllTo sibling other movers both
  pub ahead : AreAhead sibling both
  pub staying : stay ≡ length (queued_among both.1.tasks other)
