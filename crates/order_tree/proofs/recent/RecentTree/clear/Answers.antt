use Rattle.std.proofs.Common.{arith}
use Rattle.order_tree.proofs.Recents.{spare-recent}
use Rattle.order_tree.proofs.recent.RecentTree.clear.Goals as goal

pub returns-clause-spare : goal.returns-clause-spare
returns-clause-spare g c = rw (← c.self.view_is) (omega (arith, c.clear.ensures.spare, spare-recent c.self.inside.recent c.self.inside.tree c.self.invariant))
