-- Changes: how one core and its table become others.
use Rattle.std.specs.Prelude.{◌≡◌, ℕ, List, length, map, find, Some}
use Rattle.cs_types.specs.declared.task.Task.{Task}
use Rattle.cs_types.specs.Room.{RoomState, SiblingState, has_pid}
use Rattle.cs_types.specs.Queueing.{moved}
use Rattle.task_table.specs.Table.{Table}
use Rattle.core_lanes.specs.declared.queue.SiblingQueue.{Ghosts}
use Rattle.core_lanes.specs.declared.lanes.Core.{Core}
use Rattle.core_lanes.specs.declared.lane.Lane.{Lane}
use Rattle.core_lanes.specs.Lanes.{lane_state, Beside, at, beside_after, room_of, AgreeBy, Agree, AreHeldAway}
use Rattle.core_lanes.specs.Numbers.{numbers_of, numbers_in, booked, touched}

-- ---- what stays

-- what every change of this crate and of those above it keeps: how many siblings there are, how many tasks may live,
-- and each task's pid and cookie
pub record Kept : Type 0 where
  pub siblings : ℕ
  pub limit : ℕ
  pub identities : List (ℕ × ℕ)

-- a task's pid and cookie
abbrev pub identity_of : Task → ℕ × ℕ
identity_of task = (task.spec.pid, task.cookie)

abbrev pub kept_of : {Q : Type 0} {g : Ghosts Q} → Core Q g × Table → Kept
kept_of both =
    record {
      siblings = length both.0.lanes.items;
      limit = both.1.limit;
      identities = map identity_of both.1.tasks;
    }

-- that stays, and if they agreed, they still agree
pub record Stays {Q : Type 0} {g : Ghosts Q} (old new : Core Q g × Table) : Type 0 where
  pub agree : Agree old → Agree new
  pub kept : kept_of new ≡ kept_of old

-- ---- changes

-- siblings are others after this change, each with its own number and its queue
pub record ChangesLanes {Q : Type 0} (old new : List (Lane Q)) (change : List SiblingState → List SiblingState) : Type 0 where
  pub states : map lane_state new ≡ change (map lane_state old)
  pub numbers : map (λ lane. lane.number) new ≡ map (λ lane. lane.number) old
  pub queues : map (λ lane. lane.queue) new ≡ map (λ lane. lane.queue) old

-- the new room is the old one after this change, whatever is beside it
abbrev pub Becomes : {Q : Type 0} {g : Ghosts Q} → Core Q g × Table → Core Q g × Table → (RoomState → RoomState) → Type 0
Becomes old new change = (beside : Beside) → room_of beside new ≡ change (room_of beside old)

-- the same with the same numbers
pub record Changes {Q : Type 0} {g : Ghosts Q} (old new : Core Q g × Table) (change : RoomState → RoomState) : Type 0 where
  pub room : Becomes old new change
  pub numbers : numbers_of new ≡ numbers_of old
  pub stays : Stays old new

-- the same, and the queues were touched this number of times
pub record Touches {Q : Type 0} {g : Ghosts Q} (count : ℕ) (old new : Core Q g × Table) (change : RoomState → RoomState) : Type 0 where
  pub room : Becomes old new change
  pub numbers : numbers_of new ≡ touched count (numbers_of old)
  pub stays : Stays old new

-- the same for a change that charges the open interval, at this moment
abbrev pub BecomesCharged : {Q : Type 0} {g : Ghosts Q} → ℕ → Core Q g × Table → Core Q g × Table → (RoomState → RoomState) → Type 0
BecomesCharged now old new change =
    (beside : Beside) → let room = change (room_of (at now beside) old) in room_of (beside_after (at now beside) room) new ≡ room

-- the books are those of the room's recorded intervals
abbrev pub IsBooked : {Q : Type 0} {g : Ghosts Q} → Beside → Core Q g × Table → Type 0
IsBooked beside both = numbers_in beside both ≡ booked (room_of beside both) (numbers_in beside both)

-- ---- moves

-- the task with the pid moved to the sibling, with the next stamp and two touches
pub record MovesBy {Q : Type 0} {g : Ghosts Q} (Held : Type 0) (pid to : ℕ) (old new : Core Q g × Table) : Type 0 where
  pub room : (task : Task) → find (has_pid pid) old.1.tasks ≡ Some task → Becomes old new (λ room. moved room to task)
  pub numbers : numbers_of new ≡ touched 2 (numbers_of old)
  pub kept : kept_of new ≡ kept_of old
  pub agree : AgreeBy Held new

-- into the queue there, if that of the sibling that it leaves is empty
abbrev pub Enters : {Q : Type 0} {g : Ghosts Q} → ℕ → ℕ → ℕ → Core Q g × Table → Core Q g × Table → Type 0
Enters pid from to old new = MovesBy (AreHeldAway from new) pid to old new
