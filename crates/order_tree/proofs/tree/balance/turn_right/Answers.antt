use Rattle.std.proofs.Common.{◌+◌, max, Box, Global, sym, ap, ◌∙◌, subst}
use Rattle.order_tree.specs.Branch.{Branch}
use Rattle.order_tree.specs.Balance.{entry_in, joined, over, under, left_levels, IsHighLeft, IsNode}
use Rattle.order_tree.specs.declared.tree.Node.{Node}
use Rattle.order_tree.proofs.Turns.{below-right-even, below-right-once, above-right-even, above-right-once, levels-right-even, levels-right-once, levels-right-twice, entries-right, entries-right-twice, spread-right}
use Rattle.order_tree.proofs.tree.balance.turn_right.Goals as goal

-- ---- where the right side of the upper one is the higher

pub spread-requires-clause-lacking : goal.spread-requires-clause-lacking
spread-requires-clause-lacking c = (
  c.take_root-in-Less.ensures.empty,
  ap (λ (b : Box Node Global). b.value.left.entries) c.replace-high.ensures.value ∙ c.take_root.ensures.empty,
)

pub spread-requires-clause-sides : goal.spread-requires-clause-sides
spread-requires-clause-sides c =
    let high = subst IsHighLeft (sym c.deref_mut.ensures.value) c.requires.high in
    let upper = c.deref_mut-in-Less.ensures.value in
    let at_upper = subst (λ (n : Node). IsNode c.deref_mut.result.now.left n) (sym upper) c.in-Some.ensures.node in
    let is = ap (λ (n : Node). n.lean) (upper ∙ sym c.deref.ensures) ∙ c.in-Less.is in
    rw c.replace-high.ensures.after (rw c.replace-high.ensures.value (spread-right high at_upper is c.in-Some-take_root.ensures.node))

pub returns-in-Some-take_root-clause-entries : goal.returns-in-Some-take_root-clause-entries
returns-in-Some-take_root-clause-entries c =
    let high = subst IsHighLeft (sym c.deref_mut.ensures.value) c.requires.high in
    let upper = c.deref_mut-in-Less.ensures.value in
    let at_upper = subst (λ (n : Node). IsNode c.deref_mut.result.now.left n) (sym upper) c.in-Some.ensures.node in
    let is = ap (λ (n : Node). n.lean) (upper ∙ sym c.deref.ensures) ∙ c.in-Less.is in
    let middle = c.replace-high.ensures.after in
    let node = c.replace-high.ensures.value in
    let below = c.deref_mut-in-Less.result.now in
    ap (λ (b : Branch). b.entries) c.spread.ensures.tree
    ∙ (λ i. joined (over below.left (entry_in below) (middle i).value.left) (entry_in (middle i).value) (over (middle i).value.right (entry_in (node i).value) (node i).value.right))
    ∙ sym (entries-right-twice high at_upper is c.in-Some-take_root.ensures.node)
    ∙ ap (λ (n : Node). (under n).entries) c.deref_mut.ensures.value

pub returns-in-Some-take_root-clause-height : goal.returns-in-Some-take_root-clause-height
returns-in-Some-take_root-clause-height c =
    let high = subst IsHighLeft (sym c.deref_mut.ensures.value) c.requires.high in
    let upper = c.deref_mut-in-Less.ensures.value in
    let at_upper = subst (λ (n : Node). IsNode c.deref_mut.result.now.left n) (sym upper) c.in-Some.ensures.node in
    let is = ap (λ (n : Node). n.lean) (upper ∙ sym c.deref.ensures) ∙ c.in-Less.is in
    let middle = c.replace-high.ensures.after in
    let node = c.replace-high.ensures.value in
    let below = c.deref_mut-in-Less.result.now in
    ap (λ (b : Branch). b.height) c.spread.ensures.tree
    ∙ (λ i. max (max below.left.height (middle i).value.left.height + 1) (max (middle i).value.right.height (node i).value.right.height + 1) + 1)
    ∙ levels-right-twice high at_upper is c.in-Some-take_root.ensures.node
    ∙ ap (λ (n : Node). left_levels n + 0) c.deref_mut.ensures.value

-- ---- where they are as high as each other

pub raise_right-requires-clause-below : goal.raise_right-requires-clause-below
raise_right-requires-clause-below c =
    let high = subst IsHighLeft (sym c.deref_mut.ensures.value) c.requires.high in
    below-right-even high c.in-Some.ensures.node (ap (λ (n : Node). n.lean) (sym c.deref.ensures) ∙ c.in-Equal.is)

pub raise_right-requires-clause-above : goal.raise_right-requires-clause-above
raise_right-requires-clause-above c =
    let high = subst IsHighLeft (sym c.deref_mut.ensures.value) c.requires.high in
    above-right-even high c.in-Some.ensures.node (ap (λ (n : Node). n.lean) (sym c.deref.ensures) ∙ c.in-Equal.is)

pub returns-in-Equal-clause-entries : goal.returns-in-Equal-clause-entries
returns-in-Equal-clause-entries c =
    let high = subst IsHighLeft (sym c.deref_mut.ensures.value) c.requires.high in
    ap (λ (b : Branch). b.entries) c.raise_right.ensures.tree
    ∙ sym (entries-right high c.in-Some.ensures.node)
    ∙ ap (λ (n : Node). (under n).entries) c.deref_mut.ensures.value

pub returns-in-Equal-clause-height : goal.returns-in-Equal-clause-height
returns-in-Equal-clause-height c =
    let high = subst IsHighLeft (sym c.deref_mut.ensures.value) c.requires.high in
    ap (λ (b : Branch). b.height) c.raise_right.ensures.tree
    ∙ levels-right-even high c.in-Some.ensures.node (ap (λ (n : Node). n.lean) (sym c.deref.ensures) ∙ c.in-Equal.is)
    ∙ ap (λ (n : Node). left_levels n + 1) c.deref_mut.ensures.value

-- ---- where the left one is

pub raise_right-requires-in-Greater-clause-below : goal.raise_right-requires-in-Greater-clause-below
raise_right-requires-in-Greater-clause-below c =
    let high = subst IsHighLeft (sym c.deref_mut.ensures.value) c.requires.high in
    below-right-once high c.in-Some.ensures.node (ap (λ (n : Node). n.lean) (sym c.deref.ensures) ∙ c.in-Greater.is)

pub raise_right-requires-in-Greater-clause-above : goal.raise_right-requires-in-Greater-clause-above
raise_right-requires-in-Greater-clause-above c =
    let high = subst IsHighLeft (sym c.deref_mut.ensures.value) c.requires.high in
    above-right-once high c.in-Some.ensures.node (ap (λ (n : Node). n.lean) (sym c.deref.ensures) ∙ c.in-Greater.is)

pub returns-in-Greater-clause-entries : goal.returns-in-Greater-clause-entries
returns-in-Greater-clause-entries c =
    let high = subst IsHighLeft (sym c.deref_mut.ensures.value) c.requires.high in
    ap (λ (b : Branch). b.entries) c.raise_right-in-Greater.ensures.tree
    ∙ sym (entries-right high c.in-Some.ensures.node)
    ∙ ap (λ (n : Node). (under n).entries) c.deref_mut.ensures.value

pub returns-in-Greater-clause-height : goal.returns-in-Greater-clause-height
returns-in-Greater-clause-height c =
    let high = subst IsHighLeft (sym c.deref_mut.ensures.value) c.requires.high in
    ap (λ (b : Branch). b.height) c.raise_right-in-Greater.ensures.tree
    ∙ levels-right-once high c.in-Some.ensures.node (ap (λ (n : Node). n.lean) (sym c.deref.ensures) ∙ c.in-Greater.is)
    ∙ ap (λ (n : Node). left_levels n + 0) c.deref_mut.ensures.value
