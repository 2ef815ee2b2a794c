use Rattle.std.proofs.Common.{◌∙◌, sym, arith}
use Rattle.order_tree.specs.Order.{start_of}
use Rattle.order_tree.specs.Recent.{lesser}
use Rattle.order_tree.proofs.Recents.{first_from-recent, within-recent}
use Rattle.order_tree.proofs.recent.RecentTree.first_in.Goals as goal

pub returns-clause-first : goal.returns-clause-first
returns-clause-first g c =
    rw (← c.self.view_is)
    (c.copied.ensures ∙ c.lesser_lent.ensures.lesser
    ∙ (λ i. lesser (c.in_group.ensures.reaching i) (c.first_in-found.ensures.first i))
    ∙ sym (first_from-recent c.self.inside.recent c.self.inside.tree c.self.invariant (start_of c.args.group)))

pub returns-clause-counted : goal.returns-clause-counted
returns-clause-counted g c =
    rw (← c.self.view_is)
    (within-recent c.self.inside.recent c.self.inside.tree c.self.invariant _ _
    (omega (arith, c.first_in-found.ensures.counted, c.in_group.ensures.counted, c.lesser_lent.ensures.counted)))
