use Rattle.std.proofs.Common.{refl}
use Rattle.tree_queue.specs.Kinds.{kind_of, lot_of}
use Rattle.tree_queue.proofs.Counts.{counted-none}
use Rattle.tree_queue.proofs.queue.TreeQueueSiblingQueue.with_capacity.Goals as goal

pub returns : goal.returns
returns c = record {
  trees = c.in_ok-run.ensures;
  first_is = refl;
  by_kind = counted-none kind_of 104;
  by_lot = counted-none lot_of 256;
}
