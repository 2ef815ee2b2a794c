use Rattle.std.proofs.Common.{◌≡◌, map, take}
use Rattle.trace_check.specs.Lines.{shown}
use Rattle.trace_check.proofs.verdict.told.Given as goal

abbrev pub invariant-loop-byte : goal.invariant-loop-byte
invariant-loop-byte l = l.bytes.items ≡ map shown (take l.byte-index l.byte-items)
