use Rattle.std.proofs.Common.{◌≡◌, drop, length}
use Rattle.sibling_workers.specs.Race.{events_in}
use Rattle.trace_check.specs.Scripts.{left_to}
use Rattle.trace_check.proofs.scripts.Places.advance.Given as goal

abbrev pub invariant-loop-place : goal.invariant-loop-place
invariant-loop-place l =
    record {
      kept : l.self-inside.next ≡ l.fn.self;
      long : length l.self-inside.next ≡ 24;
      left : events_in l.actor (drop l.place l.steps) ≡ left_to l.steps l.fn.self l.actor;
    }
