-- Schedules: what a schedule asks of a core and its table, and what it makes of them.
use Rattle.std.specs.Prelude.{◌≡◌, ℕ, ◌+◌, ◌^◌, ◌<◌, ◌==◌, ◌&&◌, not, if◌then◌else◌, Bool, List, length, Option, None, IfSome, slice_index_or}
use Rattle.cs_types.specs.declared.reply.Pick.{Pick}
use Rattle.cs_types.specs.declared.queue.Queued.{Queued}
use Rattle.cs_types.specs.Room.{RoomState, sibling_of}
use Rattle.cs_types.specs.Selection.{Scheduled, pid_of, choice, forced_count, select_for}
use Rattle.cs_types.specs.Order.{fair_class}
use Rattle.task_table.specs.Table.{Table}
use Rattle.core_lanes.specs.declared.queue.SiblingQueue.{Ghosts}
use Rattle.core_lanes.specs.declared.lanes.Core.{Core}
use Rattle.core_lanes.specs.Lanes.{Beside, at, room_of, Agree, AgreesAt, HasLowTimes}
use Rattle.core_lanes.specs.Numbers.{Numbers, numbers_of, numbers_in, booked, took}
use Rattle.core_lanes.specs.Changes.{Stays, BecomesCharged, IsBooked}
use Rattle.core_lanes.specs.Charges.{IsPaid}
use Rattle.core_pick.specs.declared.choice.Choice.{Choice}
use Rattle.core_pick.specs.Comparisons.{ComparesForSchedule}
use Rattle.core_pick.specs.Questions.{AsksAll}

-- ---- what decides an adoption

-- a sibling's own number
abbrev pub own_of : ℕ → Numbers → ℕ
own_of cpu numbers = slice_index_or numbers.own cpu 0

-- whether the three numbers let a sibling adopt what waits for it: nothing was touched since the last selection for the
-- core, and the sibling took no pick of that (`core_pick_seq`, `core_task_seq` and `core_sched_seq` in
-- `pick_next_task`, kernel/sched/core.c)
abbrev pub may_adopt_by : ℕ → Numbers → Bool
may_adopt_by cpu numbers = (numbers.pick == numbers.task) && not (own_of cpu numbers == numbers.pick)

-- what a sibling may adopt: what waits for it, if the numbers let it
abbrev pub adoptable_by : ℕ → Numbers → RoomState → Option (Option ℕ)
adoptable_by cpu numbers room = if may_adopt_by cpu numbers then (sibling_of room cpu).waiting else None

-- ---- what is asked

-- what is kept of this first task may be compared, under the snapshot of its sibling
pub record MayKeep (snapshot : ℕ) (first : Option Queued) : Type 0 where
  pub vtime : IfSome first (λ queued. queued.class ≡ fair_class → queued.rank < 2 ^ 100)
  pub snapshot_low : snapshot < 2 ^ 100

-- the sibling may pick anew
pub record MayPick {Q : Type 0} {g : Ghosts Q} (now sibling : ℕ) (both : Core Q g × Table) : Type 0 where
  pub cpu : sibling < length both.0.lanes.items
  pub agree : Agree both
  pub low : HasLowTimes both
  pub clock : now < 2 ^ 56
  pub touches : both.0.task_number + 1 < 2 ^ 64

-- and schedule, which may charge the open interval
pub record MaySchedule {Q : Type 0} {g : Ghosts Q} (now sibling : ℕ) (both : Core Q g × Table) : Type 0 where
  pub picks : MayPick now sibling both
  pub paid : IsPaid now both

-- these are the first tasks of the siblings and the cookie of the lead of a selection that the sibling makes now
pub record MaySelect {Q : Type 0} {g : Ghosts Q} (now sibling cookie : ℕ) (firsts : List Choice) (both : Core Q g × Table) : Type 0 where
  pub at : AgreesAt sibling both
  pub asked : AsksAll sibling both firsts cookie
  pub clock : now < 2 ^ 56

-- ---- what becomes of them

-- the new room is the old one after the selection for this cookie, which gives the sibling this
pub record Selects {Q : Type 0} {g : Ghosts Q} (now : ℕ) (old new : Core Q g × Table) (sibling cookie : ℕ) (run : Option ℕ) : Type 0 where
  pub room : (beside : Beside) → room_of (at now beside) new ≡ select_for (room_of (at now beside) old) sibling cookie
  pub numbers : numbers_of new ≡ numbers_of old
  pub stays : Stays old new
  pub gets : (beside : Beside) → run ≡ pid_of (choice (room_of beside old) cookie sibling)
  pub forced : (beside : Beside) → new.0.account.count ≡ forced_count (room_of beside old) cookie

-- the new room and the pick are those of a schedule of the sibling at this moment, which is given as a change of the
-- room
pub record Schedules {Q : Type 0} {g : Ghosts Q} (now : ℕ) (old new : Core Q g × Table) (cpu : ℕ) (chosen : Pick) (change : RoomState → Scheduled) : Type 0 where
  pub pick : (beside : Beside) → chosen ≡ (change (room_of (at now beside) old)).pick
  pub room : (beside : Beside) → room_of (at now beside) new ≡ (change (room_of (at now beside) old)).room
  pub numbers : numbers_of new ≡ took cpu chosen (numbers_of old)
  pub stays : Stays old new

-- and its queues compare no more often than a schedule may
pub record SchedulesWithin {Q : Type 0} {g : Ghosts Q} (now : ℕ) (old new : Core Q g × Table) (cpu : ℕ) (chosen : Pick) (before after : ℕ) (change : RoomState → Scheduled) : Type 0 where
  pub schedules : Schedules now old new cpu chosen change
  pub counted : ComparesForSchedule old before after

-- the same for a schedule that charges the open interval, unless it adopts
pub record ChargesAndSchedules {Q : Type 0} {g : Ghosts Q} (now : ℕ) (old new : Core Q g × Table) (cpu : ℕ) (chosen : Pick) (change : RoomState → Scheduled) : Type 0 where
  pub pick : (beside : Beside) → chosen ≡ (change (room_of (at now beside) old)).pick
  pub room : BecomesCharged now old new (λ room. (change room).room)
  pub numbers : (beside : Beside) → IsBooked (at now beside) old →
      numbers_in beside new ≡ took cpu chosen (booked (change (room_of (at now beside) old)).room (numbers_in beside old))
  pub stays : Stays old new
