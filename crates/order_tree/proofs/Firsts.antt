-- A tree whose first entry is taken out.
use Rattle.std.proofs.Common.{◌≡◌, ◌+◌, Bool, true, cond, List, [], ◌∷◌, ◌++◌, Option, None, Some, Box, Global, sym, ap, ◌∙◌, subst, arith}
use Rattle.std.proofs.lemmas.Bool.{and_parts}
use Rattle.std.specs.FinMap.{is_sorted}
use Rattle.order_tree.specs.Order.{Entry, key_cmp}
use Rattle.order_tree.specs.Branch.{Branch}
use Rattle.order_tree.specs.Balance.{entry_in, joined, IsNode, IsFirst, HasFirst}
use Rattle.order_tree.specs.declared.tree.Node.{Node}

-- what a place that holds a node says of its entry
pub first-in : {whole others : Branch} {lower : Bool} {taken : Option (Box Node Global)} {first : Box Node Global} → taken ≡ Some first →
    HasFirst whole taken others lower → IsFirst whole (entry_in first.value) others lower
first-in {whole} {others} {lower} is has = subst (λ o. HasFirst whole o others lower) is has

-- and what any place says of the height
pub first-height : (whole others : Branch) (lower : Bool) (taken : Option (Box Node Global)) → HasFirst whole taken others lower →
    whole.height ≡ others.height + cond lower 1 0
first-height whole others lower None has = absurd has
first-height whole others lower (Some first) has = has.height

-- the keys of a tree rise still whose left side lost its first entry
pub rising-others : {whole : Branch} {node : Node} → IsNode whole node → (side : Branch) (lower : Bool) (taken : Option (Box Node Global)) →
    HasFirst node.left taken side lower → is_sorted key_cmp (joined side (entry_in node) node.right) ≡ true
rising-others at side lower None has = absurd has
rising-others {node = node} at side lower (Some first) has =
    (and_parts _ _
    (ap (λ (es : List Entry). is_sorted key_cmp (es ++ entry_in node ∷ node.right.entries)) (sym has.entries) ∙ at.root.fork.sides.rising)).1

-- what is told of the tree then, where its height is known
pub first-left : {whole : Branch} {node : Node} → IsNode whole node → (side after : Branch) (lower now_lower : Bool) (taken : Option (Box Node Global)) →
    HasFirst node.left taken side lower → after.entries ≡ joined side (entry_in node) node.right → whole.height ≡ after.height + cond now_lower 1 0 →
    HasFirst whole taken after now_lower
first-left at side after lower now_lower None has entries height = absurd has
first-left {node = node} at side after lower now_lower (Some first) has entries height = record {
  entries =
      at.root.entries ∙ ap (λ (es : List Entry). es ++ entry_in node ∷ node.right.entries) has.entries
      ∙ ap (λ (es : List Entry). entry_in first.value ∷ es) (sym entries);
  height = height;
}

-- the first entry is that of the root where nothing stands to its left
pub first-root : {whole : Branch} {node : Node} → IsNode whole node → {taken : Option (Box Node Global)} {box : Box Node Global} (others : Branch) → taken ≡ Some box →
    entry_in box.value ≡ entry_in node → node.left.entries ≡ [] → node.left.height ≡ 0 → others ≡ node.right → HasFirst whole taken others true
first-root {whole} {node} at others is entry none low others_is =
    let height : whole.height ≡ node.right.height + 1 = omega (arith, at.root.fork.one_more) in
    subst (λ o. HasFirst whole o others true) (sym is)
    (record {
      entries = at.root.entries ∙ (λ i. none i ++ sym entry i ∷ (sym others_is i).entries);
      height = height ∙ (λ i. (sym others_is i).height + 1);
    })
