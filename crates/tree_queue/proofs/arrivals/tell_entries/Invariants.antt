use Rattle.std.proofs.Common.{◌≡◌, ◌≤◌, map, length}
use Rattle.core_lanes.specs.Queued.{queued_among, mover_of}
use Rattle.tree_queue.specs.Arrivals.{BeginsBelow}
use Rattle.tree_queue.proofs.arrivals.tell_entries.Given as goal

abbrev pub invariant-loop-entry : goal.invariant-loop-entry
invariant-loop-entry l = record {
  each : length l.movers ≡ length l.initial.movers;
  below : BeginsBelow (map mover_of (queued_among l.table.tasks l.cpu)) l.above l.told l.movers;
  order : l.above ≤ l.until;
}
