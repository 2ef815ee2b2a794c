use Rattle.std.proofs.Common.{◌≡◌}
use Rattle.run_picture.proofs.piece.write_decimals.Given as goal

abbrev pub invariant-loop-place : goal.invariant-loop-place
invariant-loop-place g l = g.K.Sink.faults l.sink ≡ g.K.Sink.faults l.fn.sink
