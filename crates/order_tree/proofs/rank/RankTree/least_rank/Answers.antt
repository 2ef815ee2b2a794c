use Rattle.std.proofs.Common.{sym, ◌∙◌}
use Rattle.order_tree.proofs.Ranks.{least_rank-ranked}
use Rattle.order_tree.proofs.rank.RankTree.least_rank.Goals as goal

pub returns-clause-least : goal.returns-clause-least
returns-clause-least g c = rw (← c.self.view_is) (c.least_rank.ensures.least ∙ sym (least_rank-ranked c.self.inside.tree.members c.self.invariant))
