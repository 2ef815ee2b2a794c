-- Tries: what a try to steal makes of a core and its table.
use Rattle.std.specs.Prelude.{◌≡◌, ℕ, ◌+◌, ◌^◌, ◌<◌, ◌==◌, length, All, if◌then◌else◌}
use Rattle.cs_types.specs.declared.reply.Reply.{Reply}
use Rattle.cs_types.specs.declared.reply.Reply.TheVariants as answer
use Rattle.cs_types.specs.declared.task.Task.{Task}
use Rattle.cs_types.specs.Room.{RoomState, sibling_of}
use Rattle.cs_types.specs.Steal.{source_of, stolen}
use Rattle.cs_types.specs.Step.{Stepped, try_steal}
use Rattle.task_table.specs.Table.{Table}
use Rattle.core_lanes.specs.declared.queue.SiblingQueue.{Ghosts}
use Rattle.core_lanes.specs.declared.lanes.Core.{Core}
use Rattle.core_lanes.specs.Queued.{IsOf}
use Rattle.core_lanes.specs.Lanes.{Beside, room_of, AgreesAt, HasLowTimes}
use Rattle.core_lanes.specs.Numbers.{numbers_of, touched}
use Rattle.core_lanes.specs.Changes.{Stays}
use Rattle.cookie_steal.specs.declared.steal.Try.{Try}
use Rattle.cookie_steal.specs.declared.steal.Try.TheVariants.{Stole, Missed, NoBalance}

-- ---- what is asked

-- the sibling may try to steal
pub record MayTry {Q : Type 0} {g : Ghosts Q} (sibling : ℕ) (both : Core Q g × Table) : Type 0 where
  pub at : AgreesAt sibling both
  pub low : HasLowTimes both
  pub places : All (λ lane. lane.place + 1 < 2 ^ 32) both.0.lanes.items
  pub stamp : both.0.next_stamp + 1 < 2 ^ 64
  pub touches : both.0.task_number + 2 < 2 ^ 64

-- the source is the sibling from which the thief tries to steal next
pub record IsSourceOf {Q : Type 0} {g : Ghosts Q} (thief source : ℕ) (both : Core Q g × Table) : Type 0 where
  pub at : AgreesAt thief both
  pub within : source < length both.0.lanes.items
  pub is : (beside : Beside) → source ≡ source_of (room_of beside both) thief

-- it may steal the task from there, which is one of the table
pub record MaySteal {Q : Type 0} {g : Ghosts Q} (thief from : ℕ) (both : Core Q g × Table) (task : Task) : Type 0 where
  pub may : MayTry thief both
  pub source : IsSourceOf thief from both
  pub there : IsOf both.1.tasks task

-- ---- what comes of it

-- what a machine answers
abbrev pub reply_of : Try → Reply
reply_of (Stole pid from) = answer.Stole pid from
reply_of (Missed from) = answer.Missed from
reply_of NoBalance = answer.Nothing

-- how often the queues are touched: twice if a task moves
abbrev pub steal_touches : Try → ℕ
steal_touches (Stole pid from) = 2
steal_touches (Missed from) = 0
steal_touches NoBalance = 0

-- A sibling whose balance place is 0 does not try to steal. Any other does.
abbrev pub tried : RoomState → ℕ → Stepped
tried room cpu =
    if (sibling_of room cpu).place == 0
    then record { reply = answer.Nothing; room = room }
    else try_steal room cpu (stolen room cpu)

-- the new room and the answer are those of a try of the sibling, and if it does not try, nothing changes
pub record TriesToSteal {Q : Type 0} {g : Ghosts Q} (old new : Core Q g × Table) (cpu : ℕ) (made : Try) : Type 0 where
  pub reply : (beside : Beside) → reply_of made ≡ (tried (room_of beside old) cpu).reply
  pub room : (beside : Beside) → room_of beside new ≡ (tried (room_of beside old) cpu).room
  pub numbers : numbers_of new ≡ touched (steal_touches made) (numbers_of old)
  pub unchanged : made ≡ NoBalance → new ≡ old
  pub stays : Stays old new
