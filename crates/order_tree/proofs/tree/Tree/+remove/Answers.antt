use Rattle.std.proofs.Common.{◌∙◌}
use Rattle.order_tree.specs.Balance.{branch_of, left_levels, right_levels, under}
use Rattle.order_tree.proofs.Placed.{left-found, right-found, root-found, IsNode-from, IsCut-left, IsCut-right, IsCut-root, sides-left, sides-right, leans-left, leans-right, sinks-left, sinks-right, levels-left, levels-right, levels-sunk-left, levels-sunk-right, left_of, levels_of, many_of, many_balanced, counted-root, counted-left, counted-right}
use Rattle.order_tree.proofs.Forks.{IsEven-from}
use Rattle.order_tree.proofs.Heights.{level_kept, level_lost, no_more, lowered}
use Rattle.order_tree.proofs.tree.Tree.+remove.Goals as goal

-- ---- the left side

pub invariant_of-self-then-not-remove : goal.invariant_of-self-then-not-remove
invariant_of-self-then-not-remove g t c =
    let at = IsNode-from c.self.view_is c.self.invariant c.in-Some.is c.deref_mut.ensures.value in
    let cut = IsCut-left at.root c.args.key.now c.remove.new.self c.in-Less.ensures c.remove.ensures.entries in
    IsEven-from (record c.deref_mut.result.now { left = c.remove.new.self }) (sides-left at c.remove.new.self cut.rising c.remove.ensures.many)
    (leans-left at c.remove.new.self (level_kept _ _ c.remove.ensures.height c.if-not-remove.true))

pub returns-then-not-remove : goal.returns-then-not-remove
returns-then-not-remove g t c =
    let at = IsNode-from c.self.view_is c.self.invariant c.in-Some.is c.deref_mut.ensures.value in record {
      entries = (IsCut-left at.root c.args.key.now c.remove.new.self c.in-Less.ensures c.remove.ensures.entries).entries;
      taken = left-found at.root c.args.key.now c.in-Less.ensures c.remove.ensures.taken;
      height = no_more _ _ (levels-left at c.remove.new.self (level_kept _ _ c.remove.ensures.height c.if-not-remove.true));
      many_before = many_of at.root;
      many = (invariant_of-self-then-not-remove g t c).fork.many;
      counted = counted-left at.root c.args.comparisons.now c.tick.new.self c.remove.new.comparisons c.tick.ensures c.remove.ensures.counted;
    }

pub lean_right-requires : goal.lean_right-requires
lean_right-requires g t c =
    let at = IsNode-from c.self.view_is c.self.invariant c.in-Some.is c.deref_mut.ensures.value in
    let cut = IsCut-left at.root c.args.key.now c.remove.new.self c.in-Less.ensures c.remove.ensures.entries in record {
      tilted = record {
        sides = sides-left at c.remove.new.self cut.rising c.remove.ensures.many;
        lean = sinks-left at c.remove.new.self (level_lost _ _ c.remove.ensures.height c.if-not-remove.false);
      };
    }

pub returns-else-not-remove : goal.returns-else-not-remove
returns-else-not-remove g t c =
    let at = IsNode-from c.self.view_is c.self.invariant c.in-Some.is c.deref_mut.ensures.value in
    let lower = levels-sunk-left at c.remove.new.self (level_lost _ _ c.remove.ensures.height c.if-not-remove.false) in record {
      entries = c.lean_right.ensures.entries ∙ (IsCut-left at.root c.args.key.now c.remove.new.self c.in-Less.ensures c.remove.ensures.entries).entries;
      taken = left-found at.root c.args.key.now c.in-Less.ensures c.remove.ensures.taken;
      height = lowered _ (right_levels (record c.deref_mut.result.now { left = c.remove.new.self })) (under c.lean_right.new.root.value).height c.lean_right.result lower c.lean_right.ensures.height;
      many_before = many_of at.root;
      many = c.lean_right.ensures.even.fork.many;
      counted = counted-left at.root c.args.comparisons.now c.tick.new.self c.remove.new.comparisons c.tick.ensures c.remove.ensures.counted;
    }

-- ---- the root

pub returns-in-Equal : goal.returns-in-Equal
returns-in-Equal g t c =
    let at = IsNode-from c.self.view_is c.self.invariant c.in-Some.is c.deref_mut.ensures.value in
    let left = left_of c.deref_mut.result.now c.uproot.new.taken (branch_of c.uproot.new.root) c.uproot.result c.uproot.ensures.uprooted in
    let levels = levels_of c.deref_mut.result.now c.uproot.new.taken (branch_of c.uproot.new.root) c.uproot.result c.uproot.ensures.uprooted in record {
      entries = left.0 ∙ (IsCut-root at.root c.args.key.now c.in-Equal.ensures).entries;
      taken = root-found at.root c.args.key.now c.in-Equal.ensures left.1;
      height = at.root.fork.one_more ∙ levels;
      many_before = many_of at.root;
      many = many_balanced c.uproot.new.root c.uproot.ensures.balanced;
      counted = counted-root at.root c.args.comparisons.now c.tick.new.self c.tick.ensures;
    }

-- ---- the right side

pub invariant_of-self-then-not-remove-2 : goal.invariant_of-self-then-not-remove-2
invariant_of-self-then-not-remove-2 g t c =
    let at = IsNode-from c.self.view_is c.self.invariant c.in-Some.is c.deref_mut.ensures.value in
    let cut = IsCut-right at.root c.args.key.now c.remove-in-Greater.new.self c.in-Greater.ensures c.remove-in-Greater.ensures.entries in
    IsEven-from (record c.deref_mut.result.now { right = c.remove-in-Greater.new.self }) (sides-right at c.remove-in-Greater.new.self cut.rising c.remove-in-Greater.ensures.many)
    (leans-right at c.remove-in-Greater.new.self (level_kept _ _ c.remove-in-Greater.ensures.height c.if-not-remove-2.true))

pub returns-then-not-remove-2 : goal.returns-then-not-remove-2
returns-then-not-remove-2 g t c =
    let at = IsNode-from c.self.view_is c.self.invariant c.in-Some.is c.deref_mut.ensures.value in record {
      entries = (IsCut-right at.root c.args.key.now c.remove-in-Greater.new.self c.in-Greater.ensures c.remove-in-Greater.ensures.entries).entries;
      taken = right-found at.root c.args.key.now c.in-Greater.ensures c.remove-in-Greater.ensures.taken;
      height = no_more _ _ (levels-right at c.remove-in-Greater.new.self (level_kept _ _ c.remove-in-Greater.ensures.height c.if-not-remove-2.true));
      many_before = many_of at.root;
      many = (invariant_of-self-then-not-remove-2 g t c).fork.many;
      counted = counted-right at.root c.args.comparisons.now c.tick.new.self c.remove-in-Greater.new.comparisons c.tick.ensures c.remove-in-Greater.ensures.counted;
    }

pub lean_left-requires : goal.lean_left-requires
lean_left-requires g t c =
    let at = IsNode-from c.self.view_is c.self.invariant c.in-Some.is c.deref_mut.ensures.value in
    let cut = IsCut-right at.root c.args.key.now c.remove-in-Greater.new.self c.in-Greater.ensures c.remove-in-Greater.ensures.entries in record {
      tilted = record {
        sides = sides-right at c.remove-in-Greater.new.self cut.rising c.remove-in-Greater.ensures.many;
        lean = sinks-right at c.remove-in-Greater.new.self (level_lost _ _ c.remove-in-Greater.ensures.height c.if-not-remove-2.false);
      };
    }

pub returns-else-not-remove-2 : goal.returns-else-not-remove-2
returns-else-not-remove-2 g t c =
    let at = IsNode-from c.self.view_is c.self.invariant c.in-Some.is c.deref_mut.ensures.value in
    let lower = levels-sunk-right at c.remove-in-Greater.new.self (level_lost _ _ c.remove-in-Greater.ensures.height c.if-not-remove-2.false) in record {
      entries = c.lean_left.ensures.entries ∙ (IsCut-right at.root c.args.key.now c.remove-in-Greater.new.self c.in-Greater.ensures c.remove-in-Greater.ensures.entries).entries;
      taken = right-found at.root c.args.key.now c.in-Greater.ensures c.remove-in-Greater.ensures.taken;
      height = lowered _ (left_levels (record c.deref_mut.result.now { right = c.remove-in-Greater.new.self })) (under c.lean_left.new.root.value).height c.lean_left.result lower c.lean_left.ensures.height;
      many_before = many_of at.root;
      many = c.lean_left.ensures.even.fork.many;
      counted = counted-right at.root c.args.comparisons.now c.tick.new.self c.remove-in-Greater.new.comparisons c.tick.ensures c.remove-in-Greater.ensures.counted;
    }
