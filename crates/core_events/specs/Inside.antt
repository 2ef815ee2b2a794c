-- Inside: what the machine keeps, and that it is the fold of its history.
use Rattle.std.specs.Prelude.{◌≡◌, ℕ, ◌+◌, ◌-◌, ◌*◌, ◌≤◌, List, length, map}
use Rattle.cs_types.specs.declared.event.Step.{Step}
use Rattle.cs_types.specs.declared.reply.Entry.{Entry}
use Rattle.cs_types.specs.declared.scenario.Scenario.{Scenario}
use Rattle.cs_types.specs.Scenario.{IsPlayable}
use Rattle.cs_types.specs.Room.{Opening}
use Rattle.cs_types.specs.History.{AreEvents, moment_of, fold_of, history_of}
use Rattle.core_lanes.specs.declared.queue.SiblingQueue.{Ghosts}
use Rattle.core_tasks.specs.State.{room_with, state_numbers, IsSound}
use Rattle.core_tasks.specs.Steps.{numbers_at}
use Rattle.core_events.specs.Machine.{Machine}
use Rattle.core_events.specs.declared.room.CoreRoom.TheInside.{Inside}

-- the steps of entries
abbrev pub steps_of : List Entry → List Step
steps_of entries = map (λ entry. record { actor = entry.actor; event = entry.event }) entries

-- what it began with
abbrev pub opening_of : {Q G : Type 0} {g : Ghosts Q} → Inside Q G g → Opening
opening_of room = record { scenario = room.scenario.value; guards = room.guards }

abbrev pub machine_of : {Q G : Type 0} {g : Ghosts Q} → Inside Q G g → Machine
machine_of room =
    record {
      opening = opening_of room;
      steps = steps_of room.entries.items;
      spare = room.entries.room - length room.entries.items;
    }

-- how many entries a machine may make: the steps of the scenario, and those of the final drain
abbrev pub most_entries : Scenario → ℕ
most_entries scenario = length scenario.steps + scenario.siblings * scenario.siblings

-- the entries are the history of their steps, and the state is its fold
pub record IsFold {Q G : Type 0} {g : Ghosts Q} (room : Inside Q G g) : Type 0 where
  pub playable : IsPlayable room.scenario.value
  pub events : AreEvents (opening_of room) room.entries.items
  pub history : room.entries.items ≡ history_of (opening_of room) (steps_of room.entries.items)
  pub fold : room_with (fold_of (opening_of room) room.entries.items).intervals room.state ≡ fold_of (opening_of room) room.entries.items
  pub numbers : state_numbers room.state ≡ numbers_at (opening_of room) (moment_of (opening_of room) room.entries.items)
  pub sound : IsSound room.state
  -- the number of siblings is the scenario's, and that of the core's siblings
  pub count : room.siblings ≡ room.scenario.value.siblings
  pub siblings : length room.state.core.lanes.items ≡ room.scenario.value.siblings
  -- no advance is above one second
  pub slow : room.state.clock ≤ 1000000000 * length room.entries.items
  -- there is room for each entry, and for each task that ends; no stamp, cookie, number or time overflows
  pub fits : length room.entries.items ≤ room.entries.room
  pub few_entries : room.entries.room ≤ most_entries room.scenario.value
  pub ends : room.state.ended.room ≡ most_entries room.scenario.value
