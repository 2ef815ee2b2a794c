use Rattle.std.proofs.Common.{◌≡◌}
use Rattle.run_picture.proofs.row.Sheet.write_windows.Given as goal

abbrev pub invariant-loop-window : goal.invariant-loop-window
invariant-loop-window g l = g.K.Sink.faults l.sink ≡ g.K.Sink.faults l.fn.sink
