use Rattle.std.proofs.Common.{◌≡◌, ◌+◌, ◌≤◌, true, length, Some}
use Rattle.std.specs.Option.{option_or}
use Rattle.order_tree.specs.Order.{start_of}
use Rattle.order_tree.specs.Balance.{entry_in}
use Rattle.order_tree.proofs.Placed.{sought}
use Rattle.order_tree.proofs.tree.Node.first_in.Given as goal

abbrev pub invariant-loop-tree : goal.invariant-loop-tree
invariant-loop-tree g l = record {
  found : option_or (sought (start_of l.group) true l.tree.entries) (Some (entry_in l.found)) ≡ option_or (sought (start_of l.group) true l.self.left.entries) (Some (entry_in l.self));
  counted : l.comparisons + l.tree.height ≤ l.initial.comparisons + l.self.left.height;
}

abbrev pub decreases-loop-tree : goal.decreases-loop-tree
decreases-loop-tree g l = length l.tree.entries
