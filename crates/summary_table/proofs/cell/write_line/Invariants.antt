use Rattle.std.proofs.Common.{◌≡◌}
use Rattle.summary_table.proofs.cell.write_line.Given as goal

abbrev pub invariant-loop-cell : goal.invariant-loop-cell
invariant-loop-cell g l = g.K.Sink.faults l.sink ≡ g.K.Sink.faults l.fn.sink
