use Rattle.std.proofs.Common.{Box, Global, ap, ◌∙◌, refl}
use Rattle.order_tree.specs.Balance.{entry_in, over}
use Rattle.order_tree.specs.declared.tree.Node.{Node}
use Rattle.order_tree.proofs.Forks.{IsEven-by}
use Rattle.order_tree.proofs.tree.balance.raise_right.Goals as goal

pub returns-clause-even : goal.returns-clause-even
returns-clause-even c =
    let top = c.deref_mut-top.ensures.value ∙ ap (λ (b : Box Node Global). b.value) c.replace-lower.ensures.after in
    let below = c.deref_mut-below.ensures.value ∙ ap (λ (b : Box Node Global). b.value) c.replace-lower.ensures.value in
    let inner = c.swap.ensures.x_after ∙ ap (λ (n : Node). n.right) top in
    IsEven-by c.requires.above _ (ap (λ (n : Node). n.left) top) (ap entry_in top)
    (c.hang.ensures ∙ (λ i. over (inner i) (entry_in (below i)) (below i).right)) refl
