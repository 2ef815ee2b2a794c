use Rattle.std.proofs.Common.{sym, ◌∙◌}
use Rattle.cs_types.proofs.Queues.{len-from_sorted}
use Rattle.order_tree.specs.Order.{key_cmp}
use Rattle.order_tree.proofs.order.OrderTree.len.Goals as goal

pub returns-clause-count : goal.returns-clause-count
returns-clause-count g c = rw (← c.self.view_is) (sym (len-from_sorted key_cmp c.self.inside.tree.entries c.self.invariant.rising ∙ c.self.invariant.counted))
