-- Steps: what an event makes of a state.
use Rattle.std.specs.Prelude.{◌≡◌, ℕ, ◌+◌, ◌||◌, if◌then◌else◌, is_some, List, length, map, slice_set}
use Rattle.std.specs.List.{range_with_len}
use Rattle.std.specs.Option.{option_map_or}
use Rattle.cs_types.specs.declared.event.Event.{Event}
use Rattle.cs_types.specs.declared.reply.Pick.{Pick}
use Rattle.cs_types.specs.declared.reply.Reply.{Reply}
use Rattle.cs_types.specs.Room.{Opening, RoomState, Interval}
use Rattle.cs_types.specs.Touches.{task_number, pick_number, own_number, is_selected, is_adopted, pick_of, selection_of, scheduler_of, touches_by}
use Rattle.cs_types.specs.Step.{Stepped, step}
use Rattle.cs_types.specs.Accounting.{total_of}
use Rattle.cs_types.specs.History.{Moment}
use Rattle.core_lanes.specs.declared.queue.SiblingQueue.{Ghosts}
use Rattle.core_lanes.specs.Numbers.{Numbers, booked, is_fresh_by, touched}
use Rattle.core_lanes.specs.Changes.{IsBooked}
use Rattle.core_tasks.specs.declared.state.State.{State}
use Rattle.core_tasks.specs.State.{both, beside_of, room_with, state_numbers, Stays}

-- ---- the numbers

-- each sibling's own number: that of the one whose pick of a core-wide selection this is becomes the pick number
abbrev pub own_after : Event → Reply → ℕ → List ℕ → List ℕ
own_after event answer pick own =
    option_map_or (λ cpu. option_map_or (λ (chosen : Pick).
    if is_selected chosen.kind || is_adopted chosen.kind then slice_set own cpu pick else own)
    (pick_of answer) own) (scheduler_of event) own

-- the numbers once an event was answered so, in this room
abbrev pub numbers_after : RoomState → Event → Reply → Numbers → Numbers
numbers_after room event answer numbers =
    let task = numbers.task + touches_by room event answer in
    let pick = if is_some (selection_of answer) then task else numbers.pick in
    record numbers { task = task; pick = pick; own = own_after event answer pick numbers.own }

-- the numbers of a moment
abbrev pub numbers_at : Opening → Moment → Numbers
numbers_at opening moment =
    record {
      task = task_number moment.ledger;
      pick = pick_number moment.ledger;
      own = map (λ cpu. own_number cpu moment.ledger) (range_with_len 0 opening.scenario.siblings);
      intervals = length moment.room.intervals;
      totals = λ pid. total_of pid moment.room.intervals;
    }

-- ---- changes

-- the new state is the old one after this change of the room, whatever was recorded
abbrev pub Becomes : {Q G : Type 0} {g : Ghosts Q} → State Q G g → State Q G g → (RoomState → RoomState) → Type 0
Becomes old new change = (intervals : List Interval) → room_with intervals new ≡ change (room_with intervals old)

-- the same, and it touched the queues this number of times
pub record Touches {Q G : Type 0} {g : Ghosts Q} (count : ℕ) (old new : State Q G g) (change : RoomState → RoomState) : Type 0 where
  pub room : Becomes old new change
  pub numbers : state_numbers new ≡ touched count (state_numbers old)
  pub stays : Stays old new

-- ---- steps

-- the new state and the reply are those of this outcome of an event in the old one
pub record MakesStep {Q G : Type 0} {g : Ghosts Q} (intervals : List Interval) (old new : State Q G g) (event : Event) (answer : Reply) (made : Stepped) : Type 0 where
  pub reply : answer ≡ made.reply
  pub room : room_with made.room.intervals new ≡ made.room
  pub numbers : IsBooked (beside_of intervals old) (both old) →
      state_numbers new ≡ numbers_after (room_with intervals old) event answer (booked made.room (state_numbers old))

-- those of the event's step from the old one
abbrev pub MakesWith : {Q G : Type 0} {g : Ghosts Q} → List Interval → State Q G g → State Q G g → Event → Reply → Type 0
MakesWith intervals old new event answer =
    MakesStep intervals old new event answer (step (room_with intervals old) (is_fresh_by (state_numbers old)) event)

-- whatever was recorded before
pub record Makes {Q G : Type 0} {g : Ghosts Q} (old new : State Q G g) (event : Event) (answer : Reply) : Type 0 where
  pub step : (intervals : List Interval) → MakesWith intervals old new event answer
  pub stays : Stays old new
