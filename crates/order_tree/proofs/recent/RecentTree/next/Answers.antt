use Rattle.std.proofs.Common.{◌∙◌, sym, arith}
use Rattle.order_tree.specs.Recent.{lesser}
use Rattle.order_tree.proofs.Recents.{next_of-recent, within-recent}
use Rattle.order_tree.proofs.recent.RecentTree.next.Goals as goal

pub returns-clause-next : goal.returns-clause-next
returns-clause-next g c =
    rw (← c.self.view_is)
    (c.lesser.ensures.lesser
    ∙ (λ i. lesser (c.reaching.ensures.reaching i) (c.next-found.ensures.next i))
    ∙ sym (next_of-recent c.self.inside.recent c.self.inside.tree c.self.invariant c.args.key.now))

pub returns-clause-counted : goal.returns-clause-counted
returns-clause-counted g c =
    rw (← c.self.view_is)
    (within-recent c.self.inside.recent c.self.inside.tree c.self.invariant _ _
    (omega (arith, c.next-found.ensures.counted, c.reaching.ensures.counted, c.lesser.ensures.counted)))
