use Rattle.std.proofs.Common.{◌≡◌, ◌+◌, ◌-◌, ◌≤◌, length}
use Rattle.cs_outside.specs.Device.{prepended}
use Rattle.scenario_input.proofs.input.read_to_end.Given as goal

abbrev pub invariant-loop-count : goal.invariant-loop-count
invariant-loop-count g l =
    let left = g.S.Source.left in
    let faults = g.S.Source.faults in
    record {
      taken : left l.fn.source ≡ prepended l.bytes.items (left l.source);
      few : length l.bytes.items ≤ l.fn.limit;
      faultless : faults l.source ≡ faults l.fn.source;
    }

abbrev pub decreases-loop-count : goal.decreases-loop-count
decreases-loop-count g l = l.fn.limit + 1 - length l.bytes.items
