use Rattle.std.proofs.Common.{◌≡◌}
use Rattle.summary_table.proofs.parts.write_cookies.Given as goal

abbrev pub invariant-loop-cookie : goal.invariant-loop-cookie
invariant-loop-cookie g l = g.K.Sink.faults l.sink ≡ g.K.Sink.faults l.fn.sink
