-- Changes: changes of a core and its table in turn, and a task that a core knows in place of one of its table.
use Rattle.std.proofs.Common.{◌≡◌, ℕ, ◌<◌, sym, ap, subst, ◌∙◌, length, map, get_or}
use Rattle.std.proofs.lemmas.List.{length-map, get_or-map}
use Rattle.std.proofs.lemmas.Option.{slice_get_read}
use Rattle.cs_types.specs.Room.{RoomState}
use Rattle.task_table.specs.Table.{Table}
use Rattle.core_lanes.specs.declared.queue.SiblingQueue.{Ghosts}
use Rattle.core_lanes.specs.declared.lane.Lane.{Lane}
use Rattle.core_lanes.specs.declared.lanes.Core.{Core}
use Rattle.core_lanes.specs.Queued.{queued_at}
use Rattle.core_lanes.specs.Lanes.{Beside, room_of, Agree}
use Rattle.core_lanes.specs.Changes.{Kept, Stays, Changes}
use Rattle.core_lanes.proofs.Stays.{both_stay, queue_of}

-- two changes in turn
pub both_change : {Q : Type 0} {g : Ghosts Q} {old mid new : Core Q g × Table} {first second : RoomState → RoomState} →
    Changes old mid first → Changes mid new second → Changes old new (λ room. second (first room))
both_change {second = second} one two = record {
  room = λ beside. two.room beside ∙ ap second (one.room beside);
  numbers = two.numbers ∙ one.numbers;
  stays = both_stay one.stays two.stays;
}

-- one change is another that makes the same of the old room
pub changes_as : {Q : Type 0} {g : Ghosts Q} {old new : Core Q g × Table} {change other : RoomState → RoomState} →
    ((beside : Beside) → change (room_of beside old) ≡ other (room_of beside old)) → Changes old new change → Changes old new other
changes_as same changes = record { room = λ beside. changes.room beside ∙ same beside; numbers = changes.numbers; stays = changes.stays }

-- a sibling is one of the core still
pub still_below : {Q : Type 0} {g : Ghosts Q} {old new : Core Q g × Table} {cpu : ℕ} → Stays old new → cpu < length old.0.lanes.items → cpu < length new.0.lanes.items
still_below {cpu = cpu} stays below = subst (λ n. cpu < n) (sym (ap (λ (kept : Kept). kept.siblings) stays.kept)) below

-- the queue of a sibling holds the tasks that are queued there
pub held_at : {Q : Type 0} {g : Ghosts Q} (both : Core Q g × Table) (cpu : ℕ) (lane : Lane Q) → Agree both → cpu < length both.0.lanes.items →
    lane ≡ get_or both.0.lanes.items cpu lane → g.holds lane.queue both.1.limit (queued_at both.1.tasks cpu)
held_at both cpu lane agree below is =
    let lanes = both.0.lanes.items in
    agree.held cpu lane.queue
    (slice_get_read (map queue_of lanes) (length lanes) cpu lane.queue (sym (length-map lanes queue_of)) below
    (ap queue_of is ∙ sym (get_or-map queue_of lanes cpu lane lane.queue below)))
