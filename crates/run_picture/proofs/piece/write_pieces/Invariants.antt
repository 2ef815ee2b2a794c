use Rattle.std.proofs.Common.{◌≡◌}
use Rattle.run_picture.proofs.piece.write_pieces.Given as goal

abbrev pub invariant-loop-piece : goal.invariant-loop-piece
invariant-loop-piece g l = g.K.Sink.faults l.sink ≡ g.K.Sink.faults l.fn.sink
