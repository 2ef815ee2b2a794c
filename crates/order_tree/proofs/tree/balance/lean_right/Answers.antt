use Rattle.std.proofs.Common.{◌+◌, cond, sym, ap, ◌∙◌, subst}
use Rattle.std.specs.declared.cmp.Ordering.TheVariants.{Equal, Less}
use Rattle.order_tree.specs.Balance.{under, right_levels, TiltsRight}
use Rattle.order_tree.specs.declared.tree.Node.{Node}
use Rattle.order_tree.proofs.Forks.{IsEven-from, tilted-lean}
use Rattle.order_tree.proofs.Heights.{evened, evened-right, leant-right, twice}
use Rattle.order_tree.proofs.tree.balance.lean_right.Goals as goal

pub returns-in-Greater : goal.returns-in-Greater
returns-in-Greater c =
    let now = c.deref_mut-node.result.now in
    let tilted = subst TiltsRight (sym c.deref_mut-node.ensures.value) c.requires.tilted in
    let is = tilted-lean tilted c.in-Greater.is in record {
      even = IsEven-from (record now { lean = Equal }) tilted.sides (evened now.left.height now.right.height is);
      entries = ap (λ (n : Node). (under n).entries) c.deref_mut-node.ensures.value;
      height = evened-right now.left.height now.right.height is ∙ ap (λ (n : Node). right_levels n + 0) c.deref_mut-node.ensures.value;
    }

pub returns-in-Equal : goal.returns-in-Equal
returns-in-Equal c =
    let now = c.deref_mut-node.result.now in
    let tilted = subst TiltsRight (sym c.deref_mut-node.ensures.value) c.requires.tilted in
    let is = tilted-lean tilted c.in-Equal.is in record {
      even = IsEven-from (record now { lean = Less }) tilted.sides is;
      entries = ap (λ (n : Node). (under n).entries) c.deref_mut-node.ensures.value;
      height = leant-right now.left.height now.right.height is ∙ ap (λ (n : Node). right_levels n + 1) c.deref_mut-node.ensures.value;
    }

pub turn_left-requires : goal.turn_left-requires
turn_left-requires c =
    let now = c.deref_mut-node.result.now in
    let tilted = subst TiltsRight (sym c.deref_mut-node.ensures.value) c.requires.tilted in record { high = record { sides = tilted.sides; two_higher = twice now.left.height now.right.height (sym (tilted-lean tilted c.in-Less.is)) } }

pub returns-in-Less : goal.returns-in-Less
returns-in-Less c = record {
  even = c.turn_left.ensures.even;
  entries = c.turn_left.ensures.entries ∙ ap (λ (n : Node). (under n).entries) c.deref_mut-node.ensures.value;
  height = c.turn_left.ensures.height ∙ ap (λ (n : Node). right_levels n + cond c.turn_left.result 1 0) c.deref_mut-node.ensures.value;
}
