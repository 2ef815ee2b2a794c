use Rattle.std.proofs.Common.{◌≡◌, length}
use Rattle.std.specs.Io.KnownBytes.{Keeps}
use Rattle.cs_outside.proofs.retried.read_some.Given as goal

abbrev pub invariant-loop : goal.invariant-loop
invariant-loop g l = record {
  length : length l.buf ≡ length l.initial.buf;
  kept : Keeps (g.R.Read.remaining l.initial.input) (g.R.Read.remaining l.input);
}
