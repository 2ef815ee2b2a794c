use Rattle.std.proofs.Common.{ap, ◌∙◌}
use Rattle.order_tree.specs.Branch.{Branch}
use Rattle.order_tree.proofs.Placed.{root-taken}
use Rattle.order_tree.proofs.tree.balance.take_root.Goals as goal

pub returns-clause-node : goal.returns-clause-node
returns-clause-node c = root-taken c.old.inside.root (c.old.view_is ∙ c.replace-old.ensures.value) c.old.invariant

pub returns-clause-empty : goal.returns-clause-empty
returns-clause-empty c = ap (λ (b : Branch). b.entries) c.replace-old.ensures.after ∙ c.empty.ensures.entries
