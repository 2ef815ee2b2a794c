use Rattle.std.proofs.Common.{◌+◌, ◌≤◌, cond, refl, sym, ap, ◌∙◌, subst, arith}
use Rattle.std.specs.FinMap.{put}
use Rattle.order_tree.specs.Order.{key_cmp}
use Rattle.order_tree.specs.Branch.{Branch}
use Rattle.order_tree.proofs.Placed.{below, not_below_root, left-free, right-free, IsNode-even, IsNode-from, under-from, IsPut-left, IsPut-right, sides-left, sides-right, leans-left, leans-right, tilts-left, tilts-right, levels-left, levels-right, levels-grown-left, levels-grown-right, many_of, counted-left, counted-right}
use Rattle.order_tree.proofs.Forks.{IsEven-from}
use Rattle.order_tree.proofs.Heights.{level_kept, level_lost, no_more}
use Rattle.order_tree.proofs.tree.Tree.+insert.Goals as goal

-- ---- the whole tree

pub insert-returns : goal.insert-returns
insert-returns g t c =
    let at = IsNode-from {node = c.in-Some.root.value} c.self.view_is c.self.invariant c.in-Some.is refl in
    let seen = under-from {node = c.in-Some.root.value} c.self.view_is c.in-Some.is refl in record {
      entries = c.insert_below.ensures.entries ∙ ap (λ (b : Branch). put key_cmp c.args.node.value.key c.args.node.value.pid b.entries) seen;
      height = c.insert_below.ensures.height ∙ ap (λ (b : Branch). b.height + cond c.insert_below.result 1 0) seen;
      many_before = many_of at.root;
      many = c.insert_below.ensures.even.fork.many;
      counted = subst (λ (b : Branch). c.insert_below.new.comparisons ≤ c.args.comparisons.now + b.height) seen c.insert_below.ensures.counted;
    }

-- ---- the left side

pub insert_below-insert-requires : goal.insert_below-insert-requires
insert_below-insert-requires g t c κs within =
    let at = IsNode-even c.requires.even c.deref_mut.ensures.value in
    let less = below c.deref_mut.result.now c.deref.ensures c.is_below.ensures c.if-is_below.true in
    (grind (arith, c.decreases, c.deref_mut.ensures.value), (within, left-free at.root c.args.node.value.key less c.requires.free))

pub insert_below-returns-then-not-insert : goal.insert_below-returns-then-not-insert
insert_below-returns-then-not-insert g t c =
    let at = IsNode-even c.requires.even c.deref_mut.ensures.value in
    let less = below c.deref_mut.result.now c.deref.ensures c.is_below.ensures c.if-is_below.true in
    let put = IsPut-left at.root c.args.node.value.key c.args.node.value.pid c.requires.free c.insert.new.self less c.insert.ensures.entries in
    let same = sym (level_kept _ _ c.insert.ensures.height c.if-not-insert.true) in record {
      even = IsEven-from (record c.deref_mut.result.now { left = c.insert.new.self }) (sides-left at c.insert.new.self put.rising c.insert.ensures.many) (leans-left at c.insert.new.self same);
      entries = put.entries;
      height = no_more _ _ (sym (levels-left at c.insert.new.self same));
      counted = counted-left at.root c.args.comparisons.now c.tick.new.self c.insert.new.comparisons c.tick.ensures c.insert.ensures.counted;
    }

pub insert_below-lean_left-requires : goal.insert_below-lean_left-requires
insert_below-lean_left-requires g t c =
    let at = IsNode-even c.requires.even c.deref_mut.ensures.value in
    let less = below c.deref_mut.result.now c.deref.ensures c.is_below.ensures c.if-is_below.true in
    let put = IsPut-left at.root c.args.node.value.key c.args.node.value.pid c.requires.free c.insert.new.self less c.insert.ensures.entries in record {
      tilted = record {
        sides = sides-left at c.insert.new.self put.rising c.insert.ensures.many;
        lean = tilts-left at c.insert.new.self (level_lost _ _ c.insert.ensures.height c.if-not-insert.false);
      };
    }

pub insert_below-returns-then-is_below : goal.insert_below-returns-then-is_below
insert_below-returns-then-is_below g t c =
    let at = IsNode-even c.requires.even c.deref_mut.ensures.value in
    let less = below c.deref_mut.result.now c.deref.ensures c.is_below.ensures c.if-is_below.true in
    let put = IsPut-left at.root c.args.node.value.key c.args.node.value.pid c.requires.free c.insert.new.self less c.insert.ensures.entries in
    let grown = levels-grown-left at c.insert.new.self (level_lost _ _ c.insert.ensures.height c.if-not-insert.false) in record {
      even = c.lean_left.ensures.even;
      entries = c.lean_left.ensures.entries ∙ put.entries;
      height = c.lean_left.ensures.height ∙ ap (λ h. h + cond c.lean_left.result 1 0) grown;
      counted = counted-left at.root c.args.comparisons.now c.tick.new.self c.insert.new.comparisons c.tick.ensures c.insert.ensures.counted;
    }

-- ---- the right side

pub insert_below-insert-requires-2 : goal.insert_below-insert-requires-2
insert_below-insert-requires-2 g t c κs within =
    let at = IsNode-even c.requires.even c.deref_mut.ensures.value in
    let more = not_below_root at c.deref.ensures c.is_below.ensures c.if-is_below.false c.requires.free in
    (grind (arith, c.decreases, c.deref_mut.ensures.value), (within, right-free at.root c.args.node.value.key more c.requires.free))

pub insert_below-returns-then-not-insert-2 : goal.insert_below-returns-then-not-insert-2
insert_below-returns-then-not-insert-2 g t c =
    let at = IsNode-even c.requires.even c.deref_mut.ensures.value in
    let more = not_below_root at c.deref.ensures c.is_below.ensures c.if-is_below.false c.requires.free in
    let put = IsPut-right at.root c.args.node.value.key c.args.node.value.pid c.requires.free c.insert-2.new.self more c.insert-2.ensures.entries in
    let same = sym (level_kept _ _ c.insert-2.ensures.height c.if-not-insert-2.true) in record {
      even = IsEven-from (record c.deref_mut.result.now { right = c.insert-2.new.self }) (sides-right at c.insert-2.new.self put.rising c.insert-2.ensures.many) (leans-right at c.insert-2.new.self same);
      entries = put.entries;
      height = no_more _ _ (sym (levels-right at c.insert-2.new.self same));
      counted = counted-right at.root c.args.comparisons.now c.tick.new.self c.insert-2.new.comparisons c.tick.ensures c.insert-2.ensures.counted;
    }

pub insert_below-lean_right-requires : goal.insert_below-lean_right-requires
insert_below-lean_right-requires g t c =
    let at = IsNode-even c.requires.even c.deref_mut.ensures.value in
    let more = not_below_root at c.deref.ensures c.is_below.ensures c.if-is_below.false c.requires.free in
    let put = IsPut-right at.root c.args.node.value.key c.args.node.value.pid c.requires.free c.insert-2.new.self more c.insert-2.ensures.entries in record {
      tilted = record {
        sides = sides-right at c.insert-2.new.self put.rising c.insert-2.ensures.many;
        lean = tilts-right at c.insert-2.new.self (level_lost _ _ c.insert-2.ensures.height c.if-not-insert-2.false);
      };
    }

pub insert_below-returns : goal.insert_below-returns
insert_below-returns g t c =
    let at = IsNode-even c.requires.even c.deref_mut.ensures.value in
    let more = not_below_root at c.deref.ensures c.is_below.ensures c.if-is_below.false c.requires.free in
    let put = IsPut-right at.root c.args.node.value.key c.args.node.value.pid c.requires.free c.insert-2.new.self more c.insert-2.ensures.entries in
    let grown = levels-grown-right at c.insert-2.new.self (level_lost _ _ c.insert-2.ensures.height c.if-not-insert-2.false) in record {
      even = c.lean_right.ensures.even;
      entries = c.lean_right.ensures.entries ∙ put.entries;
      height = c.lean_right.ensures.height ∙ ap (λ h. h + cond c.lean_right.result 1 0) grown;
      counted = counted-right at.root c.args.comparisons.now c.tick.new.self c.insert-2.new.comparisons c.tick.ensures c.insert-2.ensures.counted;
    }
