use Rattle.std.proofs.Common.{length}
use Rattle.scenario_text.specs.Reading.{contents, Counts}
use Rattle.scenario_text.proofs.Building.{ReadSoFar}
use Rattle.scenario_text.proofs.reading.read_plan.Given as goal

abbrev pub invariant-loop-plan : goal.invariant-loop-plan
invariant-loop-plan l = record {
  read : ReadSoFar l.head l.fn.lines (contents l.plan) l.lines;
  counted : Counts l.head.version l.plan;
}

abbrev pub decreases-loop-plan : goal.decreases-loop-plan
decreases-loop-plan l = length l.lines
