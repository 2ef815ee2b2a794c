use Rattle.std.proofs.Common.{true, sym, ap, ◌∙◌, Option, Some, arith}
use Rattle.std.specs.Option.{option_or}
use Rattle.order_tree.specs.Order.{Entry, key_cmp, start_of}
use Rattle.order_tree.specs.Branch.{reaches}
use Rattle.order_tree.specs.Balance.{entry_in}
use Rattle.order_tree.specs.declared.tree.Node.{Node}
use Rattle.order_tree.proofs.Keys.{reaches-group, short_of-group}
use Rattle.order_tree.proofs.Placed.{sought, IsRoot-from, seek-left, seek-right, option_or-Some}
use Rattle.order_tree.proofs.tree.Node.first_in.Goals as goal

pub loop-tree-preserved-then-deref-group : goal.loop-tree-preserved-then-deref-group
loop-tree-preserved-then-deref-group g c =
    let start = start_of c.args.group in
    let root = IsRoot-from c.tree.view_is c.tree.invariant c.in-Some.is in
    let fails = ap (λ (n : Node). reaches true (key_cmp n.key start)) (sym c.deref.ensures) ∙ short_of-group c.deref.result.now.key c.args.group c.if-deref-group.true in
    let before = c.loop-tree.invariant in record {
      found =
          ap (λ (n : Node). option_or (sought start true n.right.entries) (Some (entry_in c.loop-tree.found.now))) c.deref-then-deref-group.ensures
          ∙ ap (λ (o : Option Entry). option_or o (Some (entry_in c.loop-tree.found.now))) (sym (seek-right root start true fails))
          ∙ before.found;
      counted = omega (arith, ap (λ (n : Node). n.right.height) c.deref-then-deref-group.ensures, before.counted, c.tick.ensures, root.fork.one_more);
    }

pub loop-tree-preserved : goal.loop-tree-preserved
loop-tree-preserved g c =
    let start = start_of c.args.group in
    let root = IsRoot-from c.tree.view_is c.tree.invariant c.in-Some.is in
    let passes = ap (λ (n : Node). reaches true (key_cmp n.key start)) (sym c.deref.ensures) ∙ reaches-group c.deref.result.now.key c.args.group c.if-deref-group.false in
    let before = c.loop-tree.invariant in record {
      found =
          (λ i. option_or (sought start true (c.deref-else-deref-group.ensures i).left.entries) (Some (entry_in (c.deref-found.ensures i))))
          ∙ sym (option_or-Some (sought start true c.in-Some.node.value.left.entries) (entry_in c.in-Some.node.value) (Some (entry_in c.loop-tree.found.now)))
          ∙ ap (λ (o : Option Entry). option_or o (Some (entry_in c.loop-tree.found.now))) (sym (seek-left root start true passes))
          ∙ before.found;
      counted = omega (arith, ap (λ (n : Node). n.left.height) c.deref-else-deref-group.ensures, before.counted, c.tick.ensures, root.fork.one_more);
    }
