use Rattle.order_tree.proofs.Placed.{IsRoot-from, shallow_of}
use Rattle.order_tree.proofs.tree.Tree.open.Goals as goal

pub returns-clause-shallow : goal.returns-clause-shallow
returns-clause-shallow c = shallow_of (IsRoot-from c.self.view_is c.self.invariant c.in_ok-node.was)
