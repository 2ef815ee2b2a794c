-- Charges: what a charge asks of a core and its table, and what it makes of them.
use Rattle.std.specs.Prelude.{◌≡◌, ℕ, ◌*◌, ◌^◌, ◌≤◌, ◌<◌, unwrap_or}
use Rattle.cs_types.specs.Room.{RoomState}
use Rattle.cs_types.specs.Accounting.{charge}
use Rattle.task_table.specs.Table.{Table, total_in}
use Rattle.core_lanes.specs.declared.queue.SiblingQueue.{Ghosts}
use Rattle.core_lanes.specs.declared.lanes.Core.{Core}
use Rattle.core_lanes.specs.Lanes.{Beside, at, room_of, bare, queues_of, Agree}
use Rattle.core_lanes.specs.Numbers.{numbers_in, booked, touched}
use Rattle.core_lanes.specs.Changes.{Stays, BecomesCharged, IsBooked}

-- the open interval did not begin later than now, and no number of the books overflows if it is charged
pub record IsPaid {Q : Type 0} {g : Ghosts Q} (now : ℕ) (both : Core Q g × Table) : Type 0 where
  pub clock : now < 2 ^ 56
  pub started : unwrap_or both.0.account.started now ≤ now
  pub intervals : both.0.account.intervals < 2 ^ 63
  pub totals : (pid : ℕ) → total_in both.1 pid ≤ 255 * unwrap_or both.0.account.started now

-- it may be charged: the core and its table agree too
pub record MayCharge {Q : Type 0} {g : Ghosts Q} (now : ℕ) (both : Core Q g × Table) : Type 0 where
  pub agree : Agree both
  pub paid : IsPaid now both

-- the new room is the old one after this change, which charges the open interval at this moment
pub record Charges {Q : Type 0} {g : Ghosts Q} (now : ℕ) (old new : Core Q g × Table) (change : RoomState → RoomState) : Type 0 where
  pub room : BecomesCharged now old new change
  pub numbers : (beside : Beside) → IsBooked (at now beside) old →
      numbers_in beside new ≡ booked (change (room_of (at now beside) old)) (numbers_in beside old)
  pub stays : Stays old new

-- the same, and it then touches the queues this number of times
pub record ChargesAndTouches {Q : Type 0} {g : Ghosts Q} (now count : ℕ) (old new : Core Q g × Table) (change : RoomState → RoomState) : Type 0 where
  pub room : BecomesCharged now old new change
  pub numbers : (beside : Beside) → IsBooked (at now beside) old →
      numbers_in beside new ≡ touched count (booked (change (room_of (at now beside) old)) (numbers_in beside old))
  pub stays : Stays old new

-- the open interval is charged, and no more changes than the account and the totals
pub record ChargesAlone {Q : Type 0} {g : Ghosts Q} (now : ℕ) (old new : Core Q g × Table) : Type 0 where
  pub charges : Charges now old new charge
  pub core : bare new.0 ≡ record (bare old.0) { account = new.0.account }
  pub queues : queues_of new.0 ≡ queues_of old.0
  pub table : new.1 ≡ record old.1 { totals = new.1.totals }
