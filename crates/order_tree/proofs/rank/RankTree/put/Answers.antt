use Rattle.std.proofs.Common.{ap, sym, ◌∙◌}
use Rattle.std.specs.FinMap as fin
use Rattle.order_tree.proofs.Ranks.{get-ranked, len-ranked, IsOfClass-insert, ranked-insert}
use Rattle.order_tree.proofs.rank.RankTree.put.Goals as goal

pub insert-requires-clause-free : goal.insert-requires-clause-free
insert-requires-clause-free g c =
    ap (fin.get c.self.inside.tree.members) c.key.ensures
    ∙ sym (get-ranked c.self.inside.tree.members c.self.invariant (c.args.rank, c.args.stamp)) ∙ (rw (← c.self.view_is) at c.requires.free)

pub invariant_of-self : goal.invariant_of-self
invariant_of-self g c =
    IsOfClass-insert c.self.inside.tree.members c.self.invariant c.insert.new.self.members (c.args.rank, c.args.stamp) c.args.pid
    (c.insert.ensures.members ∙ ap (λ key. fin.insert c.self.inside.tree.members key c.args.pid) c.key.ensures)

pub returns-clause-members : goal.returns-clause-members
returns-clause-members g c =
    rw (← c.self.view_is)
    (ranked-insert c.self.inside.tree.members c.self.invariant c.insert.new.self.members (c.args.rank, c.args.stamp) c.args.pid
    (c.insert.ensures.members ∙ ap (λ key. fin.insert c.self.inside.tree.members key c.args.pid) c.key.ensures))

pub returns-clause-counted : goal.returns-clause-counted
returns-clause-counted g c = rw (← c.self.view_is, len-ranked c.self.inside.tree.members c.self.invariant) c.insert.ensures.counted
