use Rattle.std.proofs.Common.{◌+◌, ◌*◌, ◌≤◌, arith}
use Rattle.std.specs.FinMap.{len}
use Rattle.cs_types.specs.Comparisons.{digits}
use Rattle.order_tree.proofs.Recents.{within-recent}
use Rattle.order_tree.proofs.recent.RecentTree.renew.Goals as goal
use Rattle.order_tree.proofs.recent.RecentTree.renew.Goals.{in-Some, in_default}

pub returns-clause-counted : goal.returns-clause-counted
returns-clause-counted g c =
    let few : c.match-take.comparisons ≤ c.args.comparisons.now + 2 * digits (len c.self.inside.tree.members) = elim c.match-take.branch [
      | in-Some w ↦ omega (arith, w.insert.ensures.counted, w.comparisons-is)
      | in_default w ↦ omega (arith, w.comparisons-is)
    ] in
    rw (← c.self.view_is)
    (within-recent c.self.inside.recent c.self.inside.tree c.self.invariant _ _ (omega (arith, few)))
