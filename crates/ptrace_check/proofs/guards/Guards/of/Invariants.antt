use Rattle.std.proofs.Common.{◌≡◌, ◌++◌, map}
use Rattle.std.specs.Prelude.{vec_len}
use Rattle.ptrace_check.proofs.Benches.{seated}
use Rattle.ptrace_check.proofs.guards.Guards.of.Given as goal

abbrev pub invariant-loop-guard : goal.invariant-loop-guard
invariant-loop-guard g l = record {
  seats : l.seats.items ≡ map (seated g.G.Guard.pairs g.G.Guard.asked g.G.Guard.cap) l.yielded;
  room : l.seats.room ≡ vec_len l.fn.list;
  parts : l.yielded ++ l.guard-iterator.rest.items ≡ l.fn.list.items;
}
