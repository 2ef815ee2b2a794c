use Rattle.std.proofs.Common.{◌≡◌, [], take}
use Rattle.sibling_workers.specs.Race.{events_in}
use Rattle.scripted_room.specs.Scripts.{steps_left}
use Rattle.scripted_room.proofs.scripts.next_of.Given as goal

-- no script before the place has a next step of the actor
abbrev pub invariant-loop-place : goal.invariant-loop-place
invariant-loop-place l = events_in l.actor (steps_left (take l.place l.scripts)) ≡ []
