use Rattle.std.proofs.Common.{sym, ◌∙◌}
use Rattle.order_tree.proofs.Members.{first_of-from_sorted}
use Rattle.order_tree.proofs.order.OrderTree.first.Goals as goal

pub returns : goal.returns
returns g c = rw (← c.self.view_is) (c.self.invariant.first ∙ sym (first_of-from_sorted c.self.inside.tree.entries c.self.invariant.rising))
