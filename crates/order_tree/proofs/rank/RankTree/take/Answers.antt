use Rattle.std.proofs.Common.{ap, sym, ◌∙◌}
use Rattle.std.specs.Prelude.{is_some}
use Rattle.std.specs.FinMap as fin
use Rattle.order_tree.proofs.Ranks.{get-ranked, len-ranked, IsOfClass-remove, ranked-remove}
use Rattle.order_tree.proofs.rank.RankTree.take.Goals as goal

pub invariant_of-self : goal.invariant_of-self
invariant_of-self g c =
    IsOfClass-remove c.self.inside.tree.members c.self.invariant c.remove.new.self.members (c.args.rank, c.args.stamp)
    (c.remove.ensures.members ∙ ap (λ key. fin.remove c.self.inside.tree.members key) c.key.ensures)

pub returns-clause-found : goal.returns-clause-found
returns-clause-found g c =
    rw (← c.self.view_is)
    (c.remove.ensures.found ∙ ap (λ key. fin.contains_key c.self.inside.tree.members key) c.key.ensures
    ∙ ap is_some (sym (get-ranked c.self.inside.tree.members c.self.invariant (c.args.rank, c.args.stamp))))

pub returns-clause-members : goal.returns-clause-members
returns-clause-members g c =
    rw (← c.self.view_is)
    (ranked-remove c.self.inside.tree.members c.self.invariant c.remove.new.self.members (c.args.rank, c.args.stamp)
    (c.remove.ensures.members ∙ ap (λ key. fin.remove c.self.inside.tree.members key) c.key.ensures))

pub returns-clause-counted : goal.returns-clause-counted
returns-clause-counted g c = rw (← c.self.view_is, len-ranked c.self.inside.tree.members c.self.invariant) c.remove.ensures.counted
