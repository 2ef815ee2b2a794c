use Rattle.std.proofs.Common.{◌∙◌, sym, ap}
use Rattle.order_tree.specs.Recent.{lesser}
use Rattle.order_tree.proofs.Recents.{first_of-recent}
use Rattle.order_tree.proofs.recent.RecentTree.first.Goals as goal

pub returns-clause-first : goal.returns-clause-first
returns-clause-first g c =
    rw (← c.self.view_is)
    (c.lesser.ensures.lesser
    ∙ ap (lesser c.self.inside.recent) c.first.ensures
    ∙ sym (first_of-recent c.self.inside.recent c.self.inside.tree c.self.invariant))
