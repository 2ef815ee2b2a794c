use Rattle.std.proofs.Common.{sym, ◌∙◌}
use Rattle.order_tree.proofs.Ranks.{len-ranked}
use Rattle.order_tree.proofs.rank.RankTree.len.Goals as goal

pub returns : goal.returns
returns g c = rw (← c.self.view_is) (c.len.ensures ∙ sym (len-ranked c.self.inside.tree.members c.self.invariant))
