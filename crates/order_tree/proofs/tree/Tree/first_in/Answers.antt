use Rattle.std.proofs.Common.{true, sym, ap, ◌∙◌, Some, arith}
use Rattle.std.specs.Option.{option_or}
use Rattle.order_tree.specs.Order.{key_cmp, start_of}
use Rattle.order_tree.specs.Branch.{reaches}
use Rattle.order_tree.specs.Balance.{entry_in}
use Rattle.order_tree.specs.declared.tree.Node.{Node}
use Rattle.order_tree.proofs.Keys.{reaches-group, short_of-group}
use Rattle.order_tree.proofs.Placed.{sought, IsRoot-from, shallow_of, seek-left, seek-right}
use Rattle.order_tree.proofs.tree.Tree.first_in.Goals as goal

pub returns-then-deref-group-clause-found : goal.returns-then-deref-group-clause-found
returns-then-deref-group-clause-found g c =
    let start = start_of c.args.group in
    let root = IsRoot-from c.tree.view_is c.tree.invariant c.in-Some.is in
    let passes = ap (λ (n : Node). reaches true (key_cmp n.key start)) (sym c.deref.ensures) ∙ reaches-group c.deref.result.now.key c.args.group c.if-deref-group.true in
    c.first_in.ensures.found
    ∙ (λ i. option_or (sought start true (c.deref-then-deref-group.ensures i).left.entries) (Some (entry_in (c.deref-then-deref-group.ensures i))))
    ∙ sym (seek-left root start true passes)
    ∙ c.loop-tree.invariant.found

pub returns-then-deref-group-clause-shallow : goal.returns-then-deref-group-clause-shallow
returns-then-deref-group-clause-shallow g c =
    c.loop-tree.invariant.shallow (shallow_of (IsRoot-from c.tree.view_is c.tree.invariant c.in-Some.is))

pub loop-tree-preserved : goal.loop-tree-preserved
loop-tree-preserved g c =
    let start = start_of c.args.group in
    let root = IsRoot-from c.tree.view_is c.tree.invariant c.in-Some.is in
    let fails = ap (λ (n : Node). reaches true (key_cmp n.key start)) (sym c.deref.ensures) ∙ short_of-group c.deref.result.now.key c.args.group c.if-deref-group.false in
    let before = c.loop-tree.invariant in record {
      found = ap (λ (n : Node). sought start true n.right.entries) c.deref-in-Some.ensures ∙ sym (seek-right root start true fails) ∙ before.found;
      shallow = λ _. before.shallow (shallow_of root);
      counted = omega (arith, ap (λ (n : Node). n.right.height) c.deref-in-Some.ensures, before.counted, c.tick.ensures, root.fork.one_more);
    }
