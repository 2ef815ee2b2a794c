-- Hotplugs: what becomes of a core and its table when a sibling is to leave the core, or to come back.
use Rattle.std.specs.Prelude.{◌≡◌, ◌≢◌, ℕ, ◌*◌, length}
use Rattle.cs_types.specs.declared.reply.Reply.{Reply}
use Rattle.cs_types.specs.declared.reply.Reply.TheVariants as answer
use Rattle.cs_types.specs.declared.reply.Errno.TheVariants.{Ebusy}
use Rattle.cs_types.specs.Hotplug.{lowest_other}
use Rattle.cs_types.specs.Step.{take_offline, bring_online}
use Rattle.task_table.specs.Table.{Table}
use Rattle.core_lanes.specs.declared.queue.SiblingQueue.{Ghosts}
use Rattle.core_lanes.specs.declared.lanes.Core.{Core}
use Rattle.core_lanes.specs.Queued.{queued_among}
use Rattle.core_lanes.specs.Lanes.{Beside, at, room_of}
use Rattle.core_lanes.specs.Numbers.{numbers_of, numbers_in, booked, touched}
use Rattle.core_lanes.specs.Changes.{Stays, Becomes, BecomesCharged, IsBooked}
use Rattle.core_lanes.specs.Charges.{IsPaid}
use Rattle.cpu_hotplug.specs.Leaves.{MayMoveAll}
use Rattle.cpu_hotplug.specs.declared.hotplug.Hotplug.{Hotplug}
use Rattle.cpu_hotplug.specs.declared.hotplug.Hotplug.TheVariants.{Done, Busy, Already}

-- the sibling may leave at this moment: its tasks may move, and the open interval may be charged
pub record MayLeave {Q : Type 0} {g : Ghosts Q} (now sibling : ℕ) (both : Core Q g × Table) : Type 0 where
  pub moves : MayMoveAll sibling both
  pub paid : IsPaid now both

-- and another is online
pub record MayLeaveAnother {Q : Type 0} {g : Ghosts Q} (now sibling : ℕ) (both : Core Q g × Table) : Type 0 where
  pub may : MayLeave now sibling both
  pub another : (beside : Beside) → lowest_other (room_of beside both) sibling ≢ sibling

-- what a machine answers
abbrev pub reply_of : Hotplug → Reply
reply_of Done = answer.Done
reply_of Busy = answer.Refused Ebusy
reply_of Already = answer.Already

-- how often the queues are touched if this number of tasks is queued on the sibling: twice for each that moves
abbrev pub leave_touches : Hotplug → ℕ → ℕ
leave_touches Done queued = 2 * queued
leave_touches Busy queued = 0
leave_touches Already queued = 0

-- The new room and the answer are those of a sibling that is to leave at this moment. The open interval is charged if
-- it leaves, and else nothing changes.
pub record TakesOffline {Q : Type 0} {g : Ghosts Q} (now : ℕ) (old new : Core Q g × Table) (cpu : ℕ) (made : Hotplug) : Type 0 where
  pub reply : (beside : Beside) → reply_of made ≡ (take_offline (room_of (at now beside) old) cpu).reply
  pub room : BecomesCharged now old new (λ room. (take_offline room cpu).room)
  pub numbers : (beside : Beside) → IsBooked (at now beside) old →
      numbers_in beside new
      ≡ touched (leave_touches made (length (queued_among old.1.tasks cpu))) (booked (take_offline (room_of (at now beside) old) cpu).room (numbers_in beside old))
  pub unchanged : made ≢ Done → new ≡ old
  pub stays : Stays old new

-- the new room and the answer are those of a sibling that is to come back, and if it does not, nothing changes
pub record BringsOnline {Q : Type 0} {g : Ghosts Q} (old new : Core Q g × Table) (cpu : ℕ) (made : Hotplug) : Type 0 where
  pub reply : (beside : Beside) → reply_of made ≡ (bring_online (room_of beside old) cpu).reply
  pub room : Becomes old new (λ room. (bring_online room cpu).room)
  pub numbers : numbers_of new ≡ numbers_of old
  pub unchanged : made ≢ Done → new ≡ old
  pub stays : Stays old new
