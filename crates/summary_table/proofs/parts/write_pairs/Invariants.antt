use Rattle.std.proofs.Common.{◌≡◌}
use Rattle.summary_table.proofs.parts.write_pairs.Given as goal

abbrev pub invariant-loop-pair : goal.invariant-loop-pair
invariant-loop-pair g l = g.K.Sink.faults l.sink ≡ g.K.Sink.faults l.fn.sink
