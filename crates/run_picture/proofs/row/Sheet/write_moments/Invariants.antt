use Rattle.std.proofs.Common.{◌≡◌}
use Rattle.run_picture.proofs.row.Sheet.write_moments.Given as goal

abbrev pub invariant-loop-moment : goal.invariant-loop-moment
invariant-loop-moment g l = g.K.Sink.faults l.sink ≡ g.K.Sink.faults l.fn.sink
