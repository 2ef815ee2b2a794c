use Rattle.std.proofs.Common.{◌≡◌}
use Rattle.run_picture.proofs.legend.write_listed.Given as goal

abbrev pub invariant-loop-number : goal.invariant-loop-number
invariant-loop-number g l = g.K.Sink.faults l.sink ≡ g.K.Sink.faults l.fn.sink
