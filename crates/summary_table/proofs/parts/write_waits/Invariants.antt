use Rattle.std.proofs.Common.{◌≡◌}
use Rattle.summary_table.proofs.parts.write_waits.Given as goal

abbrev pub invariant-loop-pid : goal.invariant-loop-pid
invariant-loop-pid g l = g.K.Sink.faults l.sink ≡ g.K.Sink.faults l.fn.sink
