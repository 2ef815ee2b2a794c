use Rattle.std.proofs.Common.{◌≡◌}
use Rattle.run_picture.proofs.legend.write_entries.Given as goal

abbrev pub invariant-loop-line : goal.invariant-loop-line
invariant-loop-line g l = g.K.Sink.faults l.sink ≡ g.K.Sink.faults l.fn.sink
