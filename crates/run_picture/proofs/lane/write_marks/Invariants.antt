use Rattle.std.proofs.Common.{◌≡◌}
use Rattle.run_picture.proofs.lane.write_marks.Given as goal

abbrev pub invariant-loop-segment : goal.invariant-loop-segment
invariant-loop-segment g l = g.K.Sink.faults l.sink ≡ g.K.Sink.faults l.fn.sink
