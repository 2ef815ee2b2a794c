use Rattle.std.proofs.Common.{sym, ap, ◌∙◌}
use Rattle.std.specs.Option.{option_map}
use Rattle.order_tree.specs.Order.{Entry}
use Rattle.order_tree.proofs.Members.{first_of-from_sorted}
use Rattle.order_tree.proofs.order.OrderTree.least_rank.Goals as goal

pub returns-in_default : goal.returns-in_default
returns-in_default g c =
    rw (← c.self.view_is)
    (ap (option_map (λ (e : Entry). e.0.rank)) (sym c.in_default.is ∙ c.self.invariant.first ∙ sym (first_of-from_sorted c.self.inside.tree.entries c.self.invariant.rising)))

pub returns : goal.returns
returns g c =
    rw (← c.self.view_is)
    (ap (option_map (λ (e : Entry). e.0.rank)) (sym c.in-Some.is ∙ c.self.invariant.first ∙ sym (first_of-from_sorted c.self.inside.tree.entries c.self.invariant.rising)))
