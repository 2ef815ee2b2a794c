use Rattle.std.proofs.Common.{◌+◌, cond, sym, ap, ◌∙◌, subst}
use Rattle.std.specs.declared.cmp.Ordering.TheVariants.{Equal, Greater}
use Rattle.order_tree.specs.Balance.{under, left_levels, TiltsLeft}
use Rattle.order_tree.specs.declared.tree.Node.{Node}
use Rattle.order_tree.proofs.Forks.{IsEven-from, tilted-lean}
use Rattle.order_tree.proofs.Heights.{evened, evened-left, leant-left, twice}
use Rattle.order_tree.proofs.tree.balance.lean_left.Goals as goal

pub returns-in-Less : goal.returns-in-Less
returns-in-Less c =
    let now = c.deref_mut-node.result.now in
    let tilted = subst TiltsLeft (sym c.deref_mut-node.ensures.value) c.requires.tilted in
    let is = tilted-lean tilted c.in-Less.is in record {
      even = IsEven-from (record now { lean = Equal }) tilted.sides (evened now.left.height now.right.height is);
      entries = ap (λ (n : Node). (under n).entries) c.deref_mut-node.ensures.value;
      height = evened-left now.left.height now.right.height is ∙ ap (λ (n : Node). left_levels n + 0) c.deref_mut-node.ensures.value;
    }

pub returns-in-Equal : goal.returns-in-Equal
returns-in-Equal c =
    let now = c.deref_mut-node.result.now in
    let tilted = subst TiltsLeft (sym c.deref_mut-node.ensures.value) c.requires.tilted in
    let is = tilted-lean tilted c.in-Equal.is in record {
      even = IsEven-from (record now { lean = Greater }) tilted.sides is;
      entries = ap (λ (n : Node). (under n).entries) c.deref_mut-node.ensures.value;
      height = leant-left now.left.height now.right.height is ∙ ap (λ (n : Node). left_levels n + 1) c.deref_mut-node.ensures.value;
    }

pub turn_right-requires : goal.turn_right-requires
turn_right-requires c =
    let now = c.deref_mut-node.result.now in
    let tilted = subst TiltsLeft (sym c.deref_mut-node.ensures.value) c.requires.tilted in record { high = record { sides = tilted.sides; two_higher = twice now.right.height now.left.height (tilted-lean tilted c.in-Greater.is) } }

pub returns-in-Greater : goal.returns-in-Greater
returns-in-Greater c = record {
  even = c.turn_right.ensures.even;
  entries = c.turn_right.ensures.entries ∙ ap (λ (n : Node). (under n).entries) c.deref_mut-node.ensures.value;
  height = c.turn_right.ensures.height ∙ ap (λ (n : Node). left_levels n + cond c.turn_right.result 1 0) c.deref_mut-node.ensures.value;
}
