use Rattle.std.proofs.Common.{◌≡◌, length}
use Rattle.std.specs.Prelude.{slice_get}
use Rattle.order_tree.specs.Balance.{entry_in, joined}
use Rattle.order_tree.proofs.tree.Tree.first.Given as goal

abbrev pub invariant-loop-node : goal.invariant-loop-node
invariant-loop-node l = slice_get (joined l.node.left (entry_in l.node) l.node.right) 0 ≡ slice_get l.self.entries 0

abbrev pub decreases-loop-node : goal.decreases-loop-node
decreases-loop-node l = length l.node.left.entries
