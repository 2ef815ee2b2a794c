use Rattle.std.proofs.Common.{arith}
use Rattle.order_tree.proofs.Recents.{within-recent}
use Rattle.order_tree.proofs.recent.RecentTree.put_beside.Goals as goal

pub returns-clause-counted : goal.returns-clause-counted
returns-clause-counted g c =
    rw (← c.self.view_is)
    (within-recent c.self.inside.recent c.self.inside.tree c.self.invariant _ _ (omega (arith, c.insert.ensures.counted)))
