use Rattle.std.proofs.Common.{Box, Global, ap, ◌∙◌, refl}
use Rattle.order_tree.specs.Balance.{entry_in, over}
use Rattle.order_tree.specs.declared.tree.Node.{Node}
use Rattle.order_tree.proofs.Forks.{IsEven-by}
use Rattle.order_tree.proofs.tree.balance.raise_left.Goals as goal

pub returns-clause-even : goal.returns-clause-even
returns-clause-even c =
    let top = c.deref_mut-top.ensures.value ∙ ap (λ (b : Box Node Global). b.value) c.replace-lower.ensures.after in
    let below = c.deref_mut-below.ensures.value ∙ ap (λ (b : Box Node Global). b.value) c.replace-lower.ensures.value in
    let inner = c.swap.ensures.x_after ∙ ap (λ (n : Node). n.left) top in
    IsEven-by c.requires.above _ (c.hang.ensures ∙ (λ i. over (below i).left (entry_in (below i)) (inner i))) (ap entry_in top)
    (ap (λ (n : Node). n.right) top) refl
