use Rattle.std.proofs.Common.{◌-◌, length}
use Rattle.scenario_text.specs.Reading.{TakesSteps}
use Rattle.scenario_text.proofs.lines.Lines.take_usual_steps.Given as goal

abbrev pub invariant-loop-steps : goal.invariant-loop-steps
invariant-loop-steps l = TakesSteps l.siblings l.named l.fn.steps.items l.fn.self l.steps.items l.self

abbrev pub decreases-loop-steps : goal.decreases-loop-steps
decreases-loop-steps l = 100000 - length l.steps.items
