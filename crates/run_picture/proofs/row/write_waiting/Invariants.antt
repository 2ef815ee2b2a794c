use Rattle.std.proofs.Common.{◌≡◌}
use Rattle.run_picture.proofs.row.write_waiting.Given as goal

abbrev pub invariant-loop-cpu : goal.invariant-loop-cpu
invariant-loop-cpu g l = g.K.Sink.faults l.sink ≡ g.K.Sink.faults l.fn.sink
