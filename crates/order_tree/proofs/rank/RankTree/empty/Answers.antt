use Rattle.order_tree.proofs.Ranks.{IsOfClass-empty, no_ranked}
use Rattle.order_tree.proofs.rank.RankTree.empty.Goals as goal

pub invariant_of-result : goal.invariant_of-result
invariant_of-result c = IsOfClass-empty c.empty.result.members c.empty.ensures.members

pub returns-clause-members : goal.returns-clause-members
returns-clause-members c = no_ranked c.empty.result.members c.empty.ensures.members
