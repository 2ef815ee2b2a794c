use Rattle.std.proofs.Common.{◌+◌, ◌*◌, ◌≤◌, length}
use Rattle.core_lanes.specs.Lanes.{AreHeldAway}
use Rattle.cpu_hotplug.proofs.Each.{MovedSoFar}
use Rattle.cpu_hotplug.proofs.moves.move_each.Given as goal

abbrev pub invariant-loop-mover : goal.invariant-loop-mover
invariant-loop-mover g l = record {
  moved : MovedSoFar (AreHeldAway l.cpu (l.core, l.table)) l.cpu l.mover-index (l.fn.core, l.fn.table) (l.core, l.table);
  compared : l.comparisons ≤ l.fn.comparisons + l.mover-index * g.Q.SiblingQueue.most_compared (length l.fn.table.tasks);
}
