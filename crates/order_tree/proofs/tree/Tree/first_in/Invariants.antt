use Rattle.std.proofs.Common.{◌≡◌, ◌+◌, ◌*◌, ◌≤◌, true, length}
use Rattle.cs_types.specs.Comparisons.{digits}
use Rattle.order_tree.specs.Order.{start_of}
use Rattle.order_tree.proofs.Placed.{sought}
use Rattle.order_tree.proofs.tree.Tree.first_in.Given as goal

abbrev pub invariant-loop-tree : goal.invariant-loop-tree
invariant-loop-tree g l = record {
  found : sought (start_of l.group) true l.tree.entries ≡ sought (start_of l.group) true l.self.entries;
  shallow : l.tree.height ≤ 2 * digits (length l.tree.entries) → l.self.height ≤ 2 * digits (length l.self.entries);
  counted : l.comparisons + l.tree.height ≤ l.initial.comparisons + l.self.height;
}

abbrev pub decreases-loop-tree : goal.decreases-loop-tree
decreases-loop-tree g l = length l.tree.entries
