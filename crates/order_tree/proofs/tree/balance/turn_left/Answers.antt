use Rattle.std.proofs.Common.{◌+◌, max, Box, Global, sym, ap, ◌∙◌, subst}
use Rattle.order_tree.specs.Branch.{Branch}
use Rattle.order_tree.specs.Balance.{entry_in, joined, over, under, right_levels, IsHighRight, IsNode}
use Rattle.order_tree.specs.declared.tree.Node.{Node}
use Rattle.order_tree.proofs.Turns.{below-left-even, below-left-once, above-left-even, above-left-once, levels-left-even, levels-left-once, levels-left-twice, entries-left, entries-left-twice, spread-left}
use Rattle.order_tree.proofs.tree.balance.turn_left.Goals as goal

-- ---- where the left side of the upper one is the higher

pub spread-requires-clause-lacking : goal.spread-requires-clause-lacking
spread-requires-clause-lacking c = (
  ap (λ (b : Box Node Global). b.value.right.entries) c.replace-low.ensures.value ∙ c.take_root.ensures.empty,
  c.take_root-in-Greater.ensures.empty,
)

pub spread-requires-clause-sides : goal.spread-requires-clause-sides
spread-requires-clause-sides c =
    let high = subst IsHighRight (sym c.deref_mut.ensures.value) c.requires.high in
    let upper = c.deref_mut-in-Greater.ensures.value in
    let at_upper = subst (λ (n : Node). IsNode c.deref_mut.result.now.right n) (sym upper) c.in-Some.ensures.node in
    let is = ap (λ (n : Node). n.lean) (upper ∙ sym c.deref.ensures) ∙ c.in-Greater.is in
    rw c.replace-low.ensures.after (rw c.replace-low.ensures.value (spread-left high at_upper is c.in-Some-take_root.ensures.node))

pub returns-in-Some-take_root-clause-entries : goal.returns-in-Some-take_root-clause-entries
returns-in-Some-take_root-clause-entries c =
    let high = subst IsHighRight (sym c.deref_mut.ensures.value) c.requires.high in
    let upper = c.deref_mut-in-Greater.ensures.value in
    let at_upper = subst (λ (n : Node). IsNode c.deref_mut.result.now.right n) (sym upper) c.in-Some.ensures.node in
    let is = ap (λ (n : Node). n.lean) (upper ∙ sym c.deref.ensures) ∙ c.in-Greater.is in
    let middle = c.replace-low.ensures.after in
    let node = c.replace-low.ensures.value in
    let above = c.deref_mut-in-Greater.result.now in
    ap (λ (b : Branch). b.entries) c.spread.ensures.tree
    ∙ (λ i. joined (over (node i).value.left (entry_in (node i).value) (middle i).value.left) (entry_in (middle i).value) (over (middle i).value.right (entry_in above) above.right))
    ∙ sym (entries-left-twice high at_upper is c.in-Some-take_root.ensures.node)
    ∙ ap (λ (n : Node). (under n).entries) c.deref_mut.ensures.value

pub returns-in-Some-take_root-clause-height : goal.returns-in-Some-take_root-clause-height
returns-in-Some-take_root-clause-height c =
    let high = subst IsHighRight (sym c.deref_mut.ensures.value) c.requires.high in
    let upper = c.deref_mut-in-Greater.ensures.value in
    let at_upper = subst (λ (n : Node). IsNode c.deref_mut.result.now.right n) (sym upper) c.in-Some.ensures.node in
    let is = ap (λ (n : Node). n.lean) (upper ∙ sym c.deref.ensures) ∙ c.in-Greater.is in
    let middle = c.replace-low.ensures.after in
    let node = c.replace-low.ensures.value in
    let above = c.deref_mut-in-Greater.result.now in
    ap (λ (b : Branch). b.height) c.spread.ensures.tree
    ∙ (λ i. max (max (node i).value.left.height (middle i).value.left.height + 1) (max (middle i).value.right.height above.right.height + 1) + 1)
    ∙ levels-left-twice high at_upper is c.in-Some-take_root.ensures.node
    ∙ ap (λ (n : Node). right_levels n + 0) c.deref_mut.ensures.value

-- ---- where they are as high as each other

pub raise_left-requires-in-Equal-clause-below : goal.raise_left-requires-in-Equal-clause-below
raise_left-requires-in-Equal-clause-below c =
    let high = subst IsHighRight (sym c.deref_mut.ensures.value) c.requires.high in
    below-left-even high c.in-Some.ensures.node (ap (λ (n : Node). n.lean) (sym c.deref.ensures) ∙ c.in-Equal.is)

pub raise_left-requires-in-Equal-clause-above : goal.raise_left-requires-in-Equal-clause-above
raise_left-requires-in-Equal-clause-above c =
    let high = subst IsHighRight (sym c.deref_mut.ensures.value) c.requires.high in
    above-left-even high c.in-Some.ensures.node (ap (λ (n : Node). n.lean) (sym c.deref.ensures) ∙ c.in-Equal.is)

pub returns-in-Equal-clause-entries : goal.returns-in-Equal-clause-entries
returns-in-Equal-clause-entries c =
    let high = subst IsHighRight (sym c.deref_mut.ensures.value) c.requires.high in
    ap (λ (b : Branch). b.entries) c.raise_left-in-Equal.ensures.tree
    ∙ sym (entries-left high c.in-Some.ensures.node)
    ∙ ap (λ (n : Node). (under n).entries) c.deref_mut.ensures.value

pub returns-in-Equal-clause-height : goal.returns-in-Equal-clause-height
returns-in-Equal-clause-height c =
    let high = subst IsHighRight (sym c.deref_mut.ensures.value) c.requires.high in
    ap (λ (b : Branch). b.height) c.raise_left-in-Equal.ensures.tree
    ∙ levels-left-even high c.in-Some.ensures.node (ap (λ (n : Node). n.lean) (sym c.deref.ensures) ∙ c.in-Equal.is)
    ∙ ap (λ (n : Node). right_levels n + 1) c.deref_mut.ensures.value

-- ---- where the right one is

pub raise_left-requires-clause-below : goal.raise_left-requires-clause-below
raise_left-requires-clause-below c =
    let high = subst IsHighRight (sym c.deref_mut.ensures.value) c.requires.high in
    below-left-once high c.in-Some.ensures.node (ap (λ (n : Node). n.lean) (sym c.deref.ensures) ∙ c.in-Less.is)

pub raise_left-requires-clause-above : goal.raise_left-requires-clause-above
raise_left-requires-clause-above c =
    let high = subst IsHighRight (sym c.deref_mut.ensures.value) c.requires.high in
    above-left-once high c.in-Some.ensures.node (ap (λ (n : Node). n.lean) (sym c.deref.ensures) ∙ c.in-Less.is)

pub returns-in-Less-clause-entries : goal.returns-in-Less-clause-entries
returns-in-Less-clause-entries c =
    let high = subst IsHighRight (sym c.deref_mut.ensures.value) c.requires.high in
    ap (λ (b : Branch). b.entries) c.raise_left.ensures.tree
    ∙ sym (entries-left high c.in-Some.ensures.node)
    ∙ ap (λ (n : Node). (under n).entries) c.deref_mut.ensures.value

pub returns-in-Less-clause-height : goal.returns-in-Less-clause-height
returns-in-Less-clause-height c =
    let high = subst IsHighRight (sym c.deref_mut.ensures.value) c.requires.high in
    ap (λ (b : Branch). b.height) c.raise_left.ensures.tree
    ∙ levels-left-once high c.in-Some.ensures.node (ap (λ (n : Node). n.lean) (sym c.deref.ensures) ∙ c.in-Less.is)
    ∙ ap (λ (n : Node). right_levels n + 0) c.deref_mut.ensures.value
