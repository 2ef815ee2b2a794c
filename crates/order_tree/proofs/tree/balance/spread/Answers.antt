use Rattle.std.proofs.Common.{ap, ◌∙◌, refl}
use Rattle.order_tree.specs.Balance.{entry_in, over, split}
use Rattle.order_tree.specs.Branch.{Branch}
use Rattle.order_tree.specs.declared.tree.Node.{Node}
use Rattle.order_tree.proofs.Forks.{IsEven-by}
use Rattle.order_tree.proofs.Turns.{below-spread, above-spread, spread-leaning}
use Rattle.order_tree.proofs.tree.balance.spread.Goals as goal

pub hang-requires-clause-empty : goal.hang-requires-clause-empty
hang-requires-clause-empty c =
    ap (λ (b : Branch). b.entries) c.swap.ensures.y_after ∙ ap (λ (n : Node). n.right.entries) c.deref_mut-below.ensures.value ∙ c.requires.lacking.0

pub hang-requires-clause-even : goal.hang-requires-clause-even
hang-requires-clause-even c =
    let below = c.deref_mut-below.ensures.value in
    let low = c.swap.ensures.x_after ∙ ap (λ (n : Node). n.left) c.deref_mut-top.ensures.value in
    let lean = (λ i. (c.split.ensures i).0) ∙ ap (λ (n : Node). (split n.lean).0) c.deref_mut-top.ensures.value in
    IsEven-by (below-spread c.requires.sides) _ (ap (λ (n : Node). n.left) below) (ap entry_in below) low lean

pub hang-requires-2-clause-empty : goal.hang-requires-2-clause-empty
hang-requires-2-clause-empty c =
    ap (λ (b : Branch). b.entries) c.swap-2.ensures.y_after ∙ ap (λ (n : Node). n.left.entries) c.deref_mut-above.ensures.value ∙ c.requires.lacking.1

pub hang-requires-2-clause-even : goal.hang-requires-2-clause-even
hang-requires-2-clause-even c =
    let above = c.deref_mut-above.ensures.value in
    let high = c.swap-2.ensures.x_after ∙ ap (λ (n : Node). n.right) c.deref_mut-top.ensures.value in
    let lean = (λ i. (c.split.ensures i).1) ∙ ap (λ (n : Node). (split n.lean).1) c.deref_mut-top.ensures.value in
    IsEven-by (above-spread c.requires.sides) _ high (ap entry_in above) (ap (λ (n : Node). n.right) above) lean

pub returns-clause-even : goal.returns-clause-even
returns-clause-even c =
    let below = c.deref_mut-below.ensures.value in
    let above = c.deref_mut-above.ensures.value in
    let low = c.swap.ensures.x_after ∙ ap (λ (n : Node). n.left) c.deref_mut-top.ensures.value in
    let high = c.swap-2.ensures.x_after ∙ ap (λ (n : Node). n.right) c.deref_mut-top.ensures.value in
    IsEven-by (spread-leaning c.requires.sides) _ (c.hang.ensures ∙ (λ i. over (below i).left (entry_in (below i)) (low i))) (ap entry_in c.deref_mut-top.ensures.value)
    (c.hang-2.ensures ∙ (λ i. over (high i) (entry_in (above i)) (above i).right)) refl

pub returns-clause-tree : goal.returns-clause-tree
returns-clause-tree c =
    let top = c.deref_mut-top.ensures.value in
    let below = c.deref_mut-below.ensures.value in
    let above = c.deref_mut-above.ensures.value in
    let low = c.hang.ensures ∙ (λ i. over (below i).left (entry_in (below i)) ((c.swap.ensures.x_after ∙ ap (λ (n : Node). n.left) top) i)) in
    let high = c.hang-2.ensures ∙ (λ i. over ((c.swap-2.ensures.x_after ∙ ap (λ (n : Node). n.right) top) i) (entry_in (above i)) (above i).right) in
    λ i. over (low i) (entry_in (top i)) (high i)
