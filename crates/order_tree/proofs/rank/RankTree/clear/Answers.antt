use Rattle.std.proofs.Common.{◌+◌, sym, ap, ◌∙◌}
use Rattle.order_tree.proofs.Ranks.{IsOfClass-empty, no_ranked, len-ranked}
use Rattle.order_tree.proofs.rank.RankTree.clear.Goals as goal

pub invariant_of-self : goal.invariant_of-self
invariant_of-self g c = IsOfClass-empty c.clear.new.self.members c.clear.ensures.members

pub returns-clause-members : goal.returns-clause-members
returns-clause-members g c = no_ranked c.clear.new.self.members c.clear.ensures.members

pub returns-clause-spare : goal.returns-clause-spare
returns-clause-spare g c =
    rw (← c.self.view_is) (c.clear.ensures.spare ∙ ap (λ n. c.self.inside.tree.spare + n) (sym (len-ranked c.self.inside.tree.members c.self.invariant)))
