use Rattle.std.proofs.Common.{ℕ, ◌+◌, ◌<◌, map}
use Rattle.std.specs.Prelude.{Contains}
use Rattle.std.specs.List.{slice_index_or}
use Rattle.core_lanes.specs.Queued.{queued_among, mover_of}
use Rattle.tree_queue.proofs.arrivals.count_there.Given as goal

abbrev pub invariant-loop-place : goal.invariant-loop-place
invariant-loop-place l = record {
  there : (place : ℕ) → place < l.place → Contains (map mover_of (queued_among l.table.tasks l.cpu)) (l.base + place, slice_index_or l.moved place 0);
}
