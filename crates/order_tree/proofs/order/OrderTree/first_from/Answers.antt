use Rattle.std.proofs.Common.{sym, ◌∙◌}
use Rattle.order_tree.proofs.Members.{first_from-from_sorted, within}
use Rattle.order_tree.proofs.order.OrderTree.first_from.Goals as goal

pub returns-clause-first : goal.returns-clause-first
returns-clause-first g c =
    rw (← c.self.view_is) (c.entry_of.ensures ∙ c.seek.ensures.found ∙ sym (first_from-from_sorted c.self.inside.tree.entries c.self.invariant.rising c.args.key.now))

pub returns-clause-counted : goal.returns-clause-counted
returns-clause-counted g c =
    rw (← c.self.view_is) (within c.self.inside.tree.entries c.self.invariant.rising _ _ _ c.seek.ensures.counted c.seek.ensures.shallow)
