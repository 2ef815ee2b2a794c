-- Turns: what a turn of an actor does to the history.
use Rattle.std.specs.Prelude.{◌≡◌, ℕ, [], ◌∷◌, ◌++◌, length, slice_get, Some}
use Rattle.cs_types.specs.declared.event.Actor.{Actor}
use Rattle.cs_types.specs.declared.event.Event.{Event}
use Rattle.cs_types.specs.Scenario.{script}
use Rattle.cs_types.specs.Room.{Opening}
use Rattle.cs_types.specs.History.{History, reply_to, events_by}
use Rattle.scripted_room.specs.declared.turn.Turn.{Turn}
use Rattle.scripted_room.specs.declared.turn.Turn.TheVariants.{Made, Finished}

-- the event that an actor makes next: that of its script at the place that its entries have come to
abbrev pub IsNextEvent : Opening → Actor → History → Event → Type 0
IsNextEvent opening actor past event =
    slice_get (script opening.scenario actor) (length (events_by actor past)) ≡ Some event

-- A turn appends the actor's next event with the reply that the rules give to it; or the actor has made its whole
-- script, and nothing changes.
abbrev pub IsTurn : Opening → Actor → History → History → Turn → Type 0
IsTurn opening actor past now (Made reply) =
    (event : Event) × IsNextEvent opening actor past event × (reply ≡ reply_to opening past event)
    × (now ≡ past ++ record { actor = actor; event = event; reply = reply } ∷ [])
IsTurn opening actor past now Finished = (now ≡ past) × (events_by actor past ≡ script opening.scenario actor)

-- how many entries a turn made
abbrev pub count_made : Turn → ℕ
count_made (Made reply) = 1
count_made Finished = 0
