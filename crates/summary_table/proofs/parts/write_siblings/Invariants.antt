use Rattle.std.proofs.Common.{◌≡◌}
use Rattle.summary_table.proofs.parts.write_siblings.Given as goal

abbrev pub invariant-loop-cpu : goal.invariant-loop-cpu
invariant-loop-cpu g l = g.K.Sink.faults l.sink ≡ g.K.Sink.faults l.fn.sink
