use Rattle.std.proofs.Common.{sym, ap, ◌∙◌}
use Rattle.std.specs.Option.{option_map}
use Rattle.order_tree.specs.Order.{Entry}
use Rattle.order_tree.proofs.Ranks.{top_of-ranked}
use Rattle.order_tree.proofs.rank.RankTree.top.Goals as goal

pub returns-in_err-first-clause-top : goal.returns-in_err-first-clause-top
returns-in_err-first-clause-top g c =
    rw (← c.self.view_is)
    (c.from_residual.ensures ∙ ap (option_map (λ (e : Entry). e.1)) (sym c.in_err-first.was ∙ c.first.ensures.first)
    ∙ sym (top_of-ranked c.self.inside.tree.members c.self.invariant))

pub returns-clause-top : goal.returns-clause-top
returns-clause-top g c =
    rw (← c.self.view_is)
    (ap (option_map (λ (e : Entry). e.1)) (sym c.in_ok-first.was ∙ c.first.ensures.first) ∙ sym (top_of-ranked c.self.inside.tree.members c.self.invariant))
