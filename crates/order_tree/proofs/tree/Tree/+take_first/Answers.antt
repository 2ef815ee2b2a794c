use Rattle.std.proofs.Common.{sym, ap, ◌∙◌, refl, subst}
use Rattle.order_tree.specs.Balance.{branch_of, under, right_levels, IsBalanced}
use Rattle.order_tree.proofs.Placed.{IsNode-from, sides-left, leans-left, sinks-left, levels-left, levels-sunk-left, many_of, many_balanced}
use Rattle.order_tree.proofs.Forks.{IsEven-from}
use Rattle.order_tree.proofs.Heights.{level_kept, level_lost, no_more, lowered}
use Rattle.order_tree.proofs.Firsts.{rising-others, first-height, first-left, first-root}
use Rattle.order_tree.proofs.tree.Tree.+take_first.Goals as goal

pub returns-then-is_empty : goal.returns-then-is_empty
returns-then-is_empty t c =
    let at = IsNode-from c.self.view_is c.self.invariant c.in-Some.is c.deref_mut.ensures.value in
    let others = ap branch_of c.hand_out.ensures.root ∙ c.right.view_is ∙ c.replace-right.ensures.value in record {
      first =
          first-root at (branch_of c.hand_out.new.root) c.hand_out.ensures.taken refl (c.is_empty.ensures.entries.0 c.if-is_empty.true)
          (c.is_empty.ensures.height c.if-is_empty.true) others;
      many_before = many_of at.root;
      many = many_balanced c.hand_out.new.root (subst IsBalanced (sym c.hand_out.ensures.root) c.right.invariant);
    }

pub invariant_of-self-then-not-take_first : goal.invariant_of-self-then-not-take_first
invariant_of-self-then-not-take_first t c =
    let at = IsNode-from c.self.view_is c.self.invariant c.in-Some.is c.deref_mut.ensures.value in
    let side = c.take_first.new.self in
    let taken = c.take_first.new.taken in
    let first = c.take_first.ensures.first in
    IsEven-from (record c.deref_mut.result.now { left = side }) (sides-left at side (rising-others at side c.take_first.result taken first) c.take_first.ensures.many)
    (leans-left at side (level_kept _ _ (first-height _ _ c.take_first.result taken first) c.if-not-take_first.true))

pub returns-then-not-take_first : goal.returns-then-not-take_first
returns-then-not-take_first t c =
    let at = IsNode-from c.self.view_is c.self.invariant c.in-Some.is c.deref_mut.ensures.value in
    let side = c.take_first.new.self in
    let taken = c.take_first.new.taken in
    let first = c.take_first.ensures.first in
    let same = level_kept _ _ (first-height _ _ c.take_first.result taken first) c.if-not-take_first.true in record {
      first = first-left at side _ c.take_first.result _ taken first refl (no_more _ _ (levels-left at side same));
      many_before = many_of at.root;
      many = (invariant_of-self-then-not-take_first t c).fork.many;
    }

pub lean_right-requires : goal.lean_right-requires
lean_right-requires t c =
    let at = IsNode-from c.self.view_is c.self.invariant c.in-Some.is c.deref_mut.ensures.value in
    let side = c.take_first.new.self in
    let taken = c.take_first.new.taken in
    let first = c.take_first.ensures.first in record {
      tilted = record {
        sides = sides-left at side (rising-others at side c.take_first.result taken first) c.take_first.ensures.many;
        lean = sinks-left at side (level_lost _ _ (first-height _ _ c.take_first.result taken first) c.if-not-take_first.false);
      };
    }

pub returns : goal.returns
returns t c =
    let at = IsNode-from c.self.view_is c.self.invariant c.in-Some.is c.deref_mut.ensures.value in
    let side = c.take_first.new.self in
    let taken = c.take_first.new.taken in
    let first = c.take_first.ensures.first in
    let sunk = levels-sunk-left at side (level_lost _ _ (first-height _ _ c.take_first.result taken first) c.if-not-take_first.false) in
    let height = lowered _ (right_levels (record c.deref_mut.result.now { left = side })) (under c.lean_right.new.root.value).height c.lean_right.result sunk c.lean_right.ensures.height in record {
      first = first-left at side _ c.take_first.result _ taken first c.lean_right.ensures.entries height;
      many_before = many_of at.root;
      many = c.lean_right.ensures.even.fork.many;
    }
