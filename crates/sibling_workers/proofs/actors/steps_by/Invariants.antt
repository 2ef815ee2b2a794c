use Rattle.std.proofs.Common.{◌≡◌, take}
use Rattle.sibling_workers.specs.Race.{steps_by}
use Rattle.sibling_workers.proofs.actors.steps_by.Given as goal

-- the actor's steps so far
abbrev pub invariant-loop-step : goal.invariant-loop-step
invariant-loop-step l = l.own.items ≡ steps_by (take l.step-index l.steps) l.actor
