use Rattle.std.proofs.Common.{Some, None, sym, ap, ◌∙◌}
use Rattle.order_tree.specs.Order.{Entry}
use Rattle.order_tree.proofs.Ranks.{least_rank-recent}
use Rattle.order_tree.proofs.recent.RecentTree.least_rank.Goals as goal

pub returns-in_default-least_rank-clause-least : goal.returns-in_default-least_rank-clause-least
returns-in_default-least_rank-clause-least g c =
    let entry : Entry = (c.in-Some.key, c.in-Some.field-0-1) in
    rw (← c.self.view_is)
    (sym (least_rank-recent c.self.inside.recent entry c.self.inside.tree c.in-Some.is c.self.invariant (rw (← c.self.view_is) at c.requires.alike)
    None (sym c.in_default-least_rank.is ∙ c.least_rank-2.ensures)))

pub returns-clause-least : goal.returns-clause-least
returns-clause-least g c =
    let entry : Entry = (c.in-Some.key, c.in-Some.field-0-1) in
    rw (← c.self.view_is)
    (ap Some c.min.ensures
    ∙ sym (least_rank-recent c.self.inside.recent entry c.self.inside.tree c.in-Some.is c.self.invariant (rw (← c.self.view_is) at c.requires.alike)
    (Some c.in-Some-least_rank.rank) (sym c.in-Some-least_rank.is ∙ c.least_rank-2.ensures)))
