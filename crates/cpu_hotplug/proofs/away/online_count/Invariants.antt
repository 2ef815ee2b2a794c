use Rattle.std.proofs.Common.{◌≡◌, ◌≤◌, take, length, filter}
use Rattle.cpu_hotplug.proofs.away.online_count.Given as goal

abbrev pub invariant-loop-lane : goal.invariant-loop-lane
invariant-loop-lane g l = record {
  counted : l.count ≡ length (filter (λ lane. lane.online) (take l.lane-index l.core.lanes.items));
  few : l.count ≤ l.lane-index;
}
