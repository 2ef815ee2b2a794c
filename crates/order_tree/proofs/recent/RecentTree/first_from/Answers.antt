use Rattle.std.proofs.Common.{◌∙◌, sym, arith}
use Rattle.order_tree.specs.Recent.{lesser}
use Rattle.order_tree.proofs.Recents.{first_from-recent, within-recent}
use Rattle.order_tree.proofs.recent.RecentTree.first_from.Goals as goal

pub returns-clause-first : goal.returns-clause-first
returns-clause-first g c =
    rw (← c.self.view_is)
    (c.lesser.ensures.lesser
    ∙ (λ i. lesser (c.reaching.ensures.reaching i) (c.first_from-found.ensures.first i))
    ∙ sym (first_from-recent c.self.inside.recent c.self.inside.tree c.self.invariant c.args.key.now))

pub returns-clause-counted : goal.returns-clause-counted
returns-clause-counted g c =
    rw (← c.self.view_is)
    (within-recent c.self.inside.recent c.self.inside.tree c.self.invariant _ _
    (omega (arith, c.first_from-found.ensures.counted, c.reaching.ensures.counted, c.lesser.ensures.counted)))
