use Rattle.std.proofs.Common.{◌≡◌, ◌-◌, ◌≤◌, length, take}
use Rattle.cs_outside.specs.Device.{appended}
use Rattle.cs_outside.proofs.sink.write_all.Given as goal

abbrev pub invariant-loop-given : goal.invariant-loop-given
invariant-loop-given g l = record {
  within : l.given ≤ length l.piece;
  written : g.K.Sink.written l.sink ≡ appended (g.K.Sink.written l.fn.sink) (take l.given l.piece);
  faultless : g.K.Sink.faults l.sink ≡ g.K.Sink.faults l.fn.sink;
}

abbrev pub decreases-loop-given : goal.decreases-loop-given
decreases-loop-given g l = length l.piece - l.given
