use Rattle.std.proofs.Common.{refl, sym, subst}
use Rattle.order_tree.specs.Balance.{IsBalanced}
use Rattle.order_tree.proofs.Forks.{IsEven-leaf}
use Rattle.order_tree.proofs.tree.balance.plant_pruned.Goals as goal

pub returns-clause-balanced : goal.returns-clause-balanced
returns-clause-balanced c =
    subst IsBalanced (sym c.set_root.ensures) (IsEven-leaf _ c.empty.ensures.entries c.empty.ensures.height c.empty-2.ensures.entries c.empty-2.ensures.height refl)
