use mir.Val.{bool_byte}
use Rattle.std.proofs.Common.{◌∙◌, ◌+◌, sym, ap}
use Rattle.order_tree.proofs.Recents.{len-recent, counts}
use Rattle.order_tree.proofs.recent.RecentTree.len.Goals as goal

pub returns : goal.returns
returns g c =
    rw (← c.self.view_is)
    ((λ i. c.len.ensures.count i + (c.from.ensures ∙ ap bool_byte c.is_some.ensures ∙ counts c.self.inside.recent) i)
    ∙ sym (len-recent c.self.inside.recent c.self.inside.tree c.self.invariant))
