use Rattle.std.proofs.Common.{◌≡◌, ◌+◌, ◌*◌, ◌≤◌, length}
use Rattle.std.specs.Option.{option_or}
use Rattle.cs_types.specs.Comparisons.{digits}
use Rattle.order_tree.specs.Balance.{entry_at}
use Rattle.order_tree.proofs.Placed.{sought}
use Rattle.order_tree.proofs.tree.Tree.seek.Given as goal

abbrev pub invariant-loop-tree : goal.invariant-loop-tree
invariant-loop-tree g l = record {
  found : option_or (sought l.key l.at l.tree.entries) (entry_at l.found) ≡ sought l.key l.at l.self.entries;
  shallow : l.tree.height ≤ 2 * digits (length l.tree.entries) → l.self.height ≤ 2 * digits (length l.self.entries);
  counted : l.comparisons + l.tree.height ≤ l.initial.comparisons + l.self.height;
}

abbrev pub decreases-loop-tree : goal.decreases-loop-tree
decreases-loop-tree g l = length l.tree.entries
