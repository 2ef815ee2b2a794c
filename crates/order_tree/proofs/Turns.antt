-- A node of which one side is two levels higher than the other, and the upper one of that side: what comes over what.
use Rattle.std.proofs.Common.{◌≡◌, ◌+◌, max, ◌∷◌, ◌++◌, sym, ◌∙◌, subst, arith}
use Rattle.order_tree.specs.Branch.{Branch}
use Rattle.order_tree.specs.Order.{Entry}
use Rattle.std.specs.declared.cmp.Ordering.{Ordering}
use Rattle.std.specs.declared.cmp.Ordering.TheVariants.{Less, Equal, Greater}
use Rattle.order_tree.specs.Balance.{entry_in, over, split, Leans, IsLeaning, CanSpread, IsNode, IsHigh, left_levels, right_levels}
use Rattle.order_tree.specs.declared.tree.Node.{Node}
use Rattle.order_tree.proofs.Forks.{Rising, turned-left, turned-right, rising-left, rising-right, many-leaning, leans-low, leans-high}

-- ---- three nodes of which the middle one comes over the other two

module _ {left right : Branch} {low high : Entry} {middle : Node} (can : CanSpread left low middle high right) where
  pub below-spread : IsLeaning left low middle.left (split middle.lean).0
  below-spread = record {
    sides = can.below;
    leans = leans-low middle.lean middle.left.height middle.right.height left.height can.lean (sym can.left_levels);
  }

  pub above-spread : IsLeaning middle.right high right (split middle.lean).1
  above-spread = record {
    sides = can.above;
    leans = leans-high middle.lean middle.left.height middle.right.height right.height can.lean (sym can.right_levels);
  }

  pub spread-leaning : IsLeaning (over left low middle.left) (entry_in middle) (over middle.right high right) Equal
  spread-leaning = record {
    sides = record { rising = can.rising; many_left = many-leaning below-spread; many_right = many-leaning above-spread };
    leans = omega (arith, can.left_levels, can.right_levels);
  }

-- ---- the left side is the higher

module _ {node upper : Node} (high : IsHigh node node.left.height node.right.height) (at : IsNode node.left upper) where
  upper-right : {lean : Ordering} → upper.lean ≡ lean → Leans lean upper.left.height upper.right.height
  upper-right is = subst (λ lean. Leans lean upper.left.height upper.right.height) is at.lean

  pub entries-right : node.left.entries ++ entry_in node ∷ node.right.entries ≡ upper.left.entries ++ entry_in upper ∷ (upper.right.entries ++ entry_in node ∷ node.right.entries)
  entries-right = turned-right _ upper.left.entries (entry_in upper) upper.right.entries (entry_in node) node.right.entries at.root.entries

  below-right : (lean : Ordering) → Leans lean upper.right.height node.right.height → IsLeaning upper.right (entry_in node) node.right lean
  below-right lean leans = record {
    sides = record {
      rising = rising-right _ upper.left.entries (entry_in upper) upper.right.entries (entry_in node) node.right.entries at.root.entries high.sides.rising;
      many_left = at.root.fork.sides.many_right;
      many_right = high.sides.many_right;
    };
    leans = leans;
  }

  -- where the sides of the upper one are as high as each other
  pub below-right-even : upper.lean ≡ Equal → IsLeaning upper.right (entry_in node) node.right Greater
  below-right-even is = below-right Greater (omega (arith, upper-right is, at.root.fork.one_more, high.two_higher))

  -- where its left side is the higher
  pub below-right-once : upper.lean ≡ Greater → IsLeaning upper.right (entry_in node) node.right Equal
  below-right-once is = below-right Equal (omega (arith, upper-right is, at.root.fork.one_more, high.two_higher))

  -- the upper one over the node, the entries that are then there, and how high they come
  above-right : {below : Ordering} (lean : Ordering) → IsLeaning upper.right (entry_in node) node.right below →
      Leans lean upper.left.height (max upper.right.height node.right.height + 1) → IsLeaning upper.left (entry_in upper) (over upper.right (entry_in node) node.right) lean
  above-right lean below leans = record {
    sides = record { rising = subst Rising entries-right high.sides.rising; many_left = at.root.fork.sides.many_left; many_right = many-leaning below };
    leans = leans;
  }

  pub above-right-even : upper.lean ≡ Equal → IsLeaning upper.left (entry_in upper) (over upper.right (entry_in node) node.right) Less
  above-right-even is = above-right Less (below-right-even is) (omega (arith, upper-right is, at.root.fork.one_more, high.two_higher))

  pub above-right-once : upper.lean ≡ Greater → IsLeaning upper.left (entry_in upper) (over upper.right (entry_in node) node.right) Equal
  above-right-once is = above-right Equal (below-right-once is) (omega (arith, upper-right is, at.root.fork.one_more, high.two_higher))

  pub levels-right-even : upper.lean ≡ Equal → max upper.left.height (max upper.right.height node.right.height + 1) + 1 ≡ left_levels node + 1
  levels-right-even is = omega (arith, upper-right is, at.root.fork.one_more, high.two_higher)

  pub levels-right-once : upper.lean ≡ Greater → max upper.left.height (max upper.right.height node.right.height + 1) + 1 ≡ left_levels node + 0
  levels-right-once is = omega (arith, upper-right is, at.root.fork.one_more, high.two_higher)

  -- where its right side is
  module _ {middle : Node} (is : upper.lean ≡ Less) (in_middle : IsNode upper.right middle) where
    pub entries-right-twice : node.left.entries ++ entry_in node ∷ node.right.entries
        ≡ (upper.left.entries ++ entry_in upper ∷ middle.left.entries) ++ entry_in middle ∷ (middle.right.entries ++ entry_in node ∷ node.right.entries)
    entries-right-twice =
        turned-right _ (upper.left.entries ++ entry_in upper ∷ middle.left.entries) (entry_in middle) middle.right.entries (entry_in node) node.right.entries
        (at.root.entries ∙ turned-left _ upper.left.entries (entry_in upper) middle.left.entries (entry_in middle) middle.right.entries in_middle.root.entries)

    pub spread-right : CanSpread upper.left (entry_in upper) middle (entry_in node) node.right
    spread-right = record {
      rising = subst Rising entries-right-twice high.sides.rising;
      below = record {
        rising = rising-left _ upper.left.entries (entry_in upper) middle.left.entries (entry_in middle) middle.right.entries in_middle.root.entries at.root.fork.sides.rising;
        many_left = at.root.fork.sides.many_left;
        many_right = in_middle.root.fork.sides.many_left;
      };
      above = record {
        rising =
            rising-right _ middle.left.entries (entry_in middle) middle.right.entries (entry_in node) node.right.entries in_middle.root.entries
            (rising-right _ upper.left.entries (entry_in upper) upper.right.entries (entry_in node) node.right.entries at.root.entries high.sides.rising);
        many_left = in_middle.root.fork.sides.many_right;
        many_right = high.sides.many_right;
      };
      lean = in_middle.lean;
      left_levels = omega (arith, upper-right is, at.root.fork.one_more, in_middle.root.fork.one_more, high.two_higher);
      right_levels = omega (arith, upper-right is, at.root.fork.one_more, in_middle.root.fork.one_more, high.two_higher);
    }

    pub levels-right-twice : max (max upper.left.height middle.left.height + 1) (max middle.right.height node.right.height + 1) + 1 ≡ left_levels node + 0
    levels-right-twice = omega (arith, spread-right.left_levels, spread-right.right_levels, upper-right is, at.root.fork.one_more, high.two_higher)

-- ---- the right side is the higher

module _ {node upper : Node} (high : IsHigh node node.right.height node.left.height) (at : IsNode node.right upper) where
  upper-left : {lean : Ordering} → upper.lean ≡ lean → Leans lean upper.left.height upper.right.height
  upper-left is = subst (λ lean. Leans lean upper.left.height upper.right.height) is at.lean

  pub entries-left : node.left.entries ++ entry_in node ∷ node.right.entries ≡ (node.left.entries ++ entry_in node ∷ upper.left.entries) ++ entry_in upper ∷ upper.right.entries
  entries-left = turned-left _ node.left.entries (entry_in node) upper.left.entries (entry_in upper) upper.right.entries at.root.entries

  below-left : (lean : Ordering) → Leans lean node.left.height upper.left.height → IsLeaning node.left (entry_in node) upper.left lean
  below-left lean leans = record {
    sides = record {
      rising = rising-left _ node.left.entries (entry_in node) upper.left.entries (entry_in upper) upper.right.entries at.root.entries high.sides.rising;
      many_left = high.sides.many_left;
      many_right = at.root.fork.sides.many_left;
    };
    leans = leans;
  }

  -- where the sides of the upper one are as high as each other
  pub below-left-even : upper.lean ≡ Equal → IsLeaning node.left (entry_in node) upper.left Less
  below-left-even is = below-left Less (omega (arith, upper-left is, at.root.fork.one_more, high.two_higher))

  -- where its right side is the higher
  pub below-left-once : upper.lean ≡ Less → IsLeaning node.left (entry_in node) upper.left Equal
  below-left-once is = below-left Equal (omega (arith, upper-left is, at.root.fork.one_more, high.two_higher))

  -- the upper one over the node, the entries that are then there, and how high they come
  above-left : {below : Ordering} (lean : Ordering) → IsLeaning node.left (entry_in node) upper.left below →
      Leans lean (max node.left.height upper.left.height + 1) upper.right.height → IsLeaning (over node.left (entry_in node) upper.left) (entry_in upper) upper.right lean
  above-left lean below leans = record {
    sides = record { rising = subst Rising entries-left high.sides.rising; many_left = many-leaning below; many_right = at.root.fork.sides.many_right };
    leans = leans;
  }

  pub above-left-even : upper.lean ≡ Equal → IsLeaning (over node.left (entry_in node) upper.left) (entry_in upper) upper.right Greater
  above-left-even is = above-left Greater (below-left-even is) (omega (arith, upper-left is, at.root.fork.one_more, high.two_higher))

  pub above-left-once : upper.lean ≡ Less → IsLeaning (over node.left (entry_in node) upper.left) (entry_in upper) upper.right Equal
  above-left-once is = above-left Equal (below-left-once is) (omega (arith, upper-left is, at.root.fork.one_more, high.two_higher))

  pub levels-left-even : upper.lean ≡ Equal → max (max node.left.height upper.left.height + 1) upper.right.height + 1 ≡ right_levels node + 1
  levels-left-even is = omega (arith, upper-left is, at.root.fork.one_more, high.two_higher)

  pub levels-left-once : upper.lean ≡ Less → max (max node.left.height upper.left.height + 1) upper.right.height + 1 ≡ right_levels node + 0
  levels-left-once is = omega (arith, upper-left is, at.root.fork.one_more, high.two_higher)

  -- where its left side is
  module _ {middle : Node} (is : upper.lean ≡ Greater) (in_middle : IsNode upper.left middle) where
    pub entries-left-twice : node.left.entries ++ entry_in node ∷ node.right.entries
        ≡ (node.left.entries ++ entry_in node ∷ middle.left.entries) ++ entry_in middle ∷ (middle.right.entries ++ entry_in upper ∷ upper.right.entries)
    entries-left-twice =
        turned-left _ node.left.entries (entry_in node) middle.left.entries (entry_in middle) (middle.right.entries ++ entry_in upper ∷ upper.right.entries)
        (at.root.entries ∙ turned-right _ middle.left.entries (entry_in middle) middle.right.entries (entry_in upper) upper.right.entries in_middle.root.entries)

    pub spread-left : CanSpread node.left (entry_in node) middle (entry_in upper) upper.right
    spread-left = record {
      rising = subst Rising entries-left-twice high.sides.rising;
      below = record {
        rising =
            rising-left _ node.left.entries (entry_in node) middle.left.entries (entry_in middle) middle.right.entries in_middle.root.entries
            (rising-left _ node.left.entries (entry_in node) upper.left.entries (entry_in upper) upper.right.entries at.root.entries high.sides.rising);
        many_left = high.sides.many_left;
        many_right = in_middle.root.fork.sides.many_left;
      };
      above = record {
        rising = rising-right _ middle.left.entries (entry_in middle) middle.right.entries (entry_in upper) upper.right.entries in_middle.root.entries at.root.fork.sides.rising;
        many_left = in_middle.root.fork.sides.many_right;
        many_right = at.root.fork.sides.many_right;
      };
      lean = in_middle.lean;
      left_levels = omega (arith, upper-left is, at.root.fork.one_more, in_middle.root.fork.one_more, high.two_higher);
      right_levels = omega (arith, upper-left is, at.root.fork.one_more, in_middle.root.fork.one_more, high.two_higher);
    }

    pub levels-left-twice : max (max node.left.height middle.left.height + 1) (max middle.right.height upper.right.height + 1) + 1 ≡ right_levels node + 0
    levels-left-twice = omega (arith, spread-left.left_levels, spread-left.right_levels, upper-left is, at.root.fork.one_more, high.two_higher)
