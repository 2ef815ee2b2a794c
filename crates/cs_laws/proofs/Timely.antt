-- Timely: how far the times of a room come in a history.
use Rattle.std.specs.Prelude.{ℕ, ◌≤◌, All, ◌+◌, ◌*◌}
use Rattle.cs_types.specs.declared.task.Task.{Task}
use Rattle.cs_types.specs.Room.{RoomState, SiblingState, sibling_of}

-- No task has used more than the clock, and none is further ahead of the least virtual time of its queue than 69 times the
-- clock, since the least weight is 15.
pub record IsTimelyTask (room : RoomState) (task : Task) : Type 0 where
  pub vtime : task.vtime ≤ (sibling_of room task.home).least + 69 * room.clock
  pub used : task.used ≤ room.clock

-- What is kept of a sibling is at most this.
pub record IsTimelySibling (most clock : ℕ) (sibling : SiblingState) : Type 0 where
  pub least : sibling.least ≤ most
  pub snapshot : sibling.snapshot ≤ most
  pub ran : sibling.ran ≤ clock

-- An entry raises a least by at most 69 times the clock.
pub record IsTimely (entries : ℕ) (room : RoomState) : Type 0 where
  pub tasks : All (IsTimelyTask room) room.tasks
  pub siblings : All (IsTimelySibling (entries * (69 * room.clock)) room.clock) room.siblings
