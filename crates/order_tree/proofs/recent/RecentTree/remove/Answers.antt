use Rattle.std.proofs.Common.{◌∙◌, sym, ap, arith}
use Rattle.order_tree.specs.Recent.{with_recent}
use Rattle.order_tree.proofs.Recents.{contains_key-at, contains_key-apart, remove-at, remove-apart, StandsBeside-remove, within-recent}
use Rattle.order_tree.proofs.recent.RecentTree.remove.Goals as goal

-- ---- where the key is that of the entry beside the tree

pub returns-then-is_at-clause-found : goal.returns-then-is_at-clause-found
returns-then-is_at-clause-found g c =
    rw (← c.self.view_is) (sym (contains_key-at c.args.key.now c.self.inside.recent c.self.inside.tree (sym c.is_at.ensures.at ∙ c.if-is_at.true)))

pub returns-then-is_at-clause-members : goal.returns-then-is_at-clause-members
returns-then-is_at-clause-members g c =
    rw (← c.self.view_is)
    (remove-at c.args.key.now c.self.inside.recent c.self.inside.tree c.self.invariant (sym c.is_at.ensures.at ∙ c.if-is_at.true))

-- ---- where it is not

pub invariant_of-self-2 : goal.invariant_of-self-2
invariant_of-self-2 g c =
    StandsBeside-remove c.args.key.now c.self.inside.recent c.self.inside.tree c.remove.new.self c.self.invariant c.remove.ensures.members
    (omega (arith, c.remove.ensures.spare))

pub returns-clause-found : goal.returns-clause-found
returns-clause-found g c =
    rw (← c.self.view_is)
    (c.remove.ensures.found
    ∙ contains_key-apart c.args.key.now c.self.inside.recent c.self.inside.tree (sym c.is_at.ensures.at ∙ c.if-is_at.false))

pub returns-clause-members : goal.returns-clause-members
returns-clause-members g c =
    rw (← c.self.view_is)
    (ap (with_recent c.self.inside.recent) c.remove.ensures.members
    ∙ remove-apart c.args.key.now c.self.inside.recent c.self.inside.tree (sym c.is_at.ensures.at ∙ c.if-is_at.false))

pub returns-clause-counted : goal.returns-clause-counted
returns-clause-counted g c =
    rw (← c.self.view_is)
    (within-recent c.self.inside.recent c.self.inside.tree c.self.invariant _ _ (omega (arith, c.is_at.ensures.counted, c.remove.ensures.counted)))
