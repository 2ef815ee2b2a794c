use Rattle.std.proofs.Common.{◌≡◌, [], ◌≤◌, length, drop}
use Rattle.sibling_workers.specs.Race.{events_in}
use Rattle.scripted_room.specs.Scripts.{steps_left}
use Rattle.scripted_room.proofs.scripts.last_of.Given as goal

-- no script from the end on is the actor's
abbrev pub invariant-loop-end : goal.invariant-loop-end
invariant-loop-end l =
    record {
      within : l.end ≤ length l.scripts;
      later : events_in l.actor (steps_left (drop l.end l.scripts)) ≡ [];
    }

abbrev pub decreases-loop-end : goal.decreases-loop-end
decreases-loop-end l = l.end
