use Rattle.std.proofs.Common.{◌∙◌, ap, arith}
use Rattle.order_tree.specs.Recent.{with_recent}
use Rattle.order_tree.proofs.Recents.{free-in, insert-apart, StandsBeside-insert, within-recent}
use Rattle.order_tree.proofs.recent.RecentTree.insert.Goals as goal

pub insert-requires-clause-free : goal.insert-requires-clause-free
insert-requires-clause-free g c = free-in c.args.key c.self.inside.recent c.self.inside.tree (rw (← c.self.view_is) at c.requires.free)

pub invariant_of-self : goal.invariant_of-self
invariant_of-self g c =
    let spare = rw (← c.self.view_is) at c.requires.spare in
    StandsBeside-insert c.args.key c.args.pid c.self.inside.recent c.self.inside.tree c.insert.new.self c.self.invariant (rw (← c.self.view_is) at c.requires.free)
    c.insert.ensures.members (omega (arith, spare)) c.insert.ensures.spare

pub returns-then-is_past-clause-members : goal.returns-then-is_past-clause-members
returns-then-is_past-clause-members g c =
    rw (← c.self.view_is)
    (ap (with_recent c.self.inside.recent) c.insert.ensures.members
    ∙ insert-apart c.args.key c.args.pid c.self.inside.recent c.self.inside.tree (rw (← c.self.view_is) at c.requires.free))

pub returns-then-is_past-clause-counted : goal.returns-then-is_past-clause-counted
returns-then-is_past-clause-counted g c =
    rw (← c.self.view_is)
    (within-recent c.self.inside.recent c.self.inside.tree c.self.invariant _ _ (omega (arith, c.is_past.ensures.counted, c.insert.ensures.counted)))
