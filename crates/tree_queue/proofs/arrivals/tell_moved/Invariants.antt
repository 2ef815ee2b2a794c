use Rattle.std.proofs.Common.{◌≡◌, ◌+◌, ◌-◌, ◌≤◌, map, length}
use Rattle.core_lanes.specs.Queued.{queued_among, mover_of}
use Rattle.tree_queue.specs.Arrivals.{BeginsBelow}
use Rattle.tree_queue.proofs.arrivals.tell_moved.Given as goal

abbrev pub invariant-loop-place : goal.invariant-loop-place
invariant-loop-place l = record {
  each : length l.movers ≡ length l.initial.movers;
  within : l.place ≤ length l.moved;
  below : BeginsBelow (map mover_of (queued_among l.table.tasks l.cpu)) (l.base + l.place) l.told l.movers;
}

abbrev pub decreases-loop-place : goal.decreases-loop-place
decreases-loop-place l = length l.moved - l.place
