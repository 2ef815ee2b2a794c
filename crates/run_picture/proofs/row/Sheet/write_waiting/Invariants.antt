use Rattle.std.proofs.Common.{◌≡◌}
use Rattle.run_picture.proofs.row.Sheet.write_waiting.Given as goal

abbrev pub invariant-loop-item : goal.invariant-loop-item
invariant-loop-item g l = g.K.Sink.faults l.sink ≡ g.K.Sink.faults l.fn.sink
