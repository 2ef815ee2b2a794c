use Rattle.std.proofs.Common.{◌≡◌, ◌<◌, take, length, filter}
use Rattle.cpu_hotplug.proofs.away.is_smt_off.Given as goal

abbrev pub invariant-loop-lane : goal.invariant-loop-lane
invariant-loop-lane g l = record {
  counted : l.count ≡ length (filter (λ lane. lane.online) (take l.lane-index l.core.lanes.items));
  few : l.count < 2;
}
