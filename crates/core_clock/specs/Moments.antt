-- Moments: what is asked of a core and its table, and made of them, when the clock is read or goes on.
use Rattle.std.specs.Prelude.{◌≡◌, ℕ, Bool, false, ◌+◌, ◌^◌, ◌<◌, find, IsSome}
use Rattle.cs_types.specs.declared.reply.Reply.TheVariants.{Ticked}
use Rattle.cs_types.specs.declared.task.Task.{Task}
use Rattle.cs_types.specs.Room.{RoomState, has_pid, running_on}
use Rattle.cs_types.specs.Time.{advanced, has_used_slice, rotates}
use Rattle.cs_types.specs.Step.{tick}
use Rattle.task_table.specs.Table.{Table}
use Rattle.core_lanes.specs.declared.queue.SiblingQueue.{Ghosts}
use Rattle.core_lanes.specs.declared.lanes.Core.{Core}
use Rattle.core_lanes.specs.Queued.{IsOf}
use Rattle.core_lanes.specs.Lanes.{Beside, at, room_of, Agree, AgreesAt, KnowsApart}
use Rattle.core_lanes.specs.Numbers.{numbers_of, touched}
use Rattle.core_lanes.specs.Changes.{Stays}
use Rattle.core_lanes.specs.Charges.{IsPaid, Charges}

-- the task is known to the core, with which its table agrees, and may be queued at its home at this moment, with this
-- number of touches of the queues
pub record MayQueue {Q : Type 0} {g : Ghosts Q} (now count : ℕ) (both : Core Q g × Table) (task : Task) : Type 0 where
  pub knows : KnowsApart both task
  pub clock : now + 1000000000 < 2 ^ 56
  pub stamp : both.0.next_stamp + 1 < 2 ^ 64
  pub touches : both.0.task_number + count < 2 ^ 64

-- the same for a task that sleeps in the table, and differs from what it is there only in its home, its virtual time
-- and whether it is queued
pub record MayWakeAtHome {Q : Type 0} {g : Ghosts Q} (now : ℕ) (both : Core Q g × Table) (task : Task) : Type 0 where
  pub may : MayQueue now 1 both task
  pub asleep : may.knows.apart.old.queued ≡ false
  pub is : task ≡ record may.knows.apart.old { home = task.home; queued = task.queued; vtime = task.vtime }

-- the sibling is one of the core, and the task one of the table, that agree
pub record MayAsk {Q : Type 0} {g : Ghosts Q} (cpu : ℕ) (both : Core Q g × Table) (task : Task) : Type 0 where
  pub at : AgreesAt cpu both
  pub there : IsOf both.1.tasks task

-- the task with the pid may begin a new slice, and go after the others of its priority
pub record MayBeginSlice {Q : Type 0} {g : Ghosts Q} (pid : ℕ) (both : Core Q g × Table) : Type 0 where
  pub there : IsSome (find (has_pid pid) both.1.tasks)
  pub agree : Agree both
  pub stamp : both.0.next_stamp + 1 < 2 ^ 64

-- the tests of a tick: whether the task that runs has used its slice, and whether it goes after the others of its
-- priority
pub record AreTests {Q : Type 0} {g : Ghosts Q} (cpu : ℕ) (both : Core Q g × Table) (task : Task) (used behind : Bool) : Type 0 where
  pub slice : used ≡ has_used_slice task
  pub peers : (beside : Beside) → behind ≡ rotates (room_of beside both) cpu task

-- the timer of the sibling may tick at this moment: the open interval may be charged, and the next stamp does not
-- overflow
pub record MayTick {Q : Type 0} {g : Ghosts Q} (now cpu : ℕ) (both : Core Q g × Table) : Type 0 where
  pub at : AgreesAt cpu both
  pub paid : IsPaid now both
  pub stamp : both.0.next_stamp + 1 < 2 ^ 64

-- the new room is the old one after this change at this moment, and the queues were touched this number of times
pub record TouchesAt {Q : Type 0} {g : Ghosts Q} (now count : ℕ) (old new : Core Q g × Table) (change : RoomState → RoomState) : Type 0 where
  pub room : (beside : Beside) → room_of (at now beside) new ≡ change (room_of (at now beside) old)
  pub numbers : numbers_of new ≡ touched count (numbers_of old)
  pub stays : Stays old new

-- the new room and the answer are those of a tick of the sibling at this moment, which charges the open interval
pub record Ticks {Q : Type 0} {g : Ghosts Q} (now : ℕ) (old new : Core Q g × Table) (cpu : ℕ) (answer : Bool) : Type 0 where
  pub asks : (beside : Beside) → let room = room_of (at now beside) old in Ticked answer ≡ (tick room cpu (running_on room cpu)).reply
  pub charges : Charges now old new (λ room. (tick room cpu (running_on room cpu)).room)

-- the new room is the old one once the clock went on from this moment by delta ns, with the same numbers; and this is
-- the new clock
pub record Advances {Q : Type 0} {g : Ghosts Q} (now delta : ℕ) (old new : Core Q g × Table) (later : ℕ) : Type 0 where
  pub clock : later ≡ now + delta
  pub room : (beside : Beside) → room_of (at (now + delta) beside) new ≡ advanced (room_of (at now beside) old) delta
  pub numbers : numbers_of new ≡ numbers_of old
  pub stays : Stays old new
