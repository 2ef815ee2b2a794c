use Rattle.std.proofs.Common.{length}
use Rattle.trace_check.proofs.Splits.{IsPassed}
use Rattle.trace_check.proofs.parts.split_input.Given as goal

abbrev pub invariant-loop-line : goal.invariant-loop-line
invariant-loop-line l = IsPassed l.input l.count l.rest

abbrev pub decreases-loop-line : goal.decreases-loop-line
decreases-loop-line l = length l.rest
