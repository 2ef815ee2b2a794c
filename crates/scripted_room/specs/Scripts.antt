-- Scripts: the steps that actors still have to make.
use Rattle.std.specs.Prelude.{List, [], ◌∷◌, ◌++◌, map, drop}
use Rattle.cs_types.specs.declared.event.Actor.{Actor}
use Rattle.cs_types.specs.declared.event.Event.{Event}
use Rattle.cs_types.specs.declared.event.Step.{Step}
use Rattle.scripted_room.specs.declared.script.Script.{Script}

-- the step of an actor, of this event
abbrev pub step_of : Actor → Event → Step
step_of actor event = record { actor = actor; event = event }

-- the steps of a script from its place on
abbrev pub steps_from : Script → List Step
steps_from script = map (step_of script.actor) (drop script.place script.events.items)

-- the steps that are left of these scripts, script by script
abbrev pub steps_left : List Script → List Step
steps_left [] = []
steps_left (script ∷ scripts) = steps_from script ++ steps_left scripts
