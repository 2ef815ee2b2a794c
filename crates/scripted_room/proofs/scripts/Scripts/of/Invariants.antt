use Rattle.std.proofs.Common.{◌≡◌, length, take}
use Rattle.cs_types.specs.declared.event.Actor.{Actor}
use Rattle.sibling_workers.specs.Race.{events_in}
use Rattle.scripted_room.specs.Scripts.{steps_left}
use Rattle.scripted_room.proofs.scripts.Scripts.of.Given as goal

-- the scripts have the steps so far
abbrev pub invariant-loop-step : goal.invariant-loop-step
invariant-loop-step l =
    record {
      steps : (actor : Actor) → events_in actor (steps_left l.scripts.items) ≡ events_in actor (take l.step-index l.steps);
      count : length (steps_left l.scripts.items) ≡ l.step-index;
    }
