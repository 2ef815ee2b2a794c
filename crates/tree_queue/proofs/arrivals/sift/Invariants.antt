use Rattle.std.proofs.Common.{◌-◌, ◌≤◌, length}
use Rattle.tree_queue.proofs.arrivals.sift.Given as goal

abbrev pub invariant-loop-place : goal.invariant-loop-place
invariant-loop-place l = record { within : l.place ≤ length l.entries }

abbrev pub decreases-loop-place : goal.decreases-loop-place
decreases-loop-place l = l.place - 1
