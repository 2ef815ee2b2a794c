use Rattle.std.proofs.Common.{sym, ◌∙◌}
use Rattle.order_tree.proofs.Members.{next_of-from_sorted, within}
use Rattle.order_tree.proofs.order.OrderTree.next.Goals as goal

pub returns-clause-next : goal.returns-clause-next
returns-clause-next g c =
    rw (← c.self.view_is) (c.entry_of.ensures ∙ c.seek.ensures.found ∙ sym (next_of-from_sorted c.self.inside.tree.entries c.self.invariant.rising c.args.key.now))

pub returns-clause-counted : goal.returns-clause-counted
returns-clause-counted g c =
    rw (← c.self.view_is) (within c.self.inside.tree.entries c.self.invariant.rising _ _ _ c.seek.ensures.counted c.seek.ensures.shallow)
