use Rattle.std.proofs.Common.{sym, ap, ◌∙◌, Option, Some, arith}
use Rattle.std.specs.Option.{option_or}
use Rattle.order_tree.specs.Order.{Entry}
use Rattle.order_tree.specs.Balance.{entry_at, entry_in}
use Rattle.order_tree.specs.declared.tree.Node.{Node}
use Rattle.order_tree.proofs.Placed.{sought, IsRoot-from, reached, shallow_of, seek-left, seek-right, option_or-Some}
use Rattle.order_tree.proofs.tree.Tree.seek.Goals as goal

pub loop-tree-preserved-then-reaches : goal.loop-tree-preserved-then-reaches
loop-tree-preserved-then-reaches g c =
    let root = IsRoot-from c.tree.view_is c.tree.invariant c.in-Some.is in
    let passes = reached c.args.key.now c.args.at c.deref.ensures c.cmp.ensures (sym c.if-reaches.true ∙ c.reaches.ensures) in
    let before = c.loop-tree.invariant in record {
      found =
          (λ i. option_or (sought c.args.key.now c.args.at (c.deref-then-reaches-2.ensures i).left.entries) (Some (entry_in (c.deref-then-reaches.ensures i))))
          ∙ sym (option_or-Some (sought c.args.key.now c.args.at c.in-Some.node.value.left.entries) (entry_in c.in-Some.node.value) (entry_at c.loop-tree.found))
          ∙ ap (λ (o : Option Entry). option_or o (entry_at c.loop-tree.found)) (sym (seek-left root c.args.key.now c.args.at passes))
          ∙ before.found;
      shallow = λ _. before.shallow (shallow_of root);
      counted = omega (arith, ap (λ (n : Node). n.left.height) c.deref-then-reaches-2.ensures, before.counted, c.tick.ensures, root.fork.one_more);
    }

pub loop-tree-preserved : goal.loop-tree-preserved
loop-tree-preserved g c =
    let root = IsRoot-from c.tree.view_is c.tree.invariant c.in-Some.is in
    let fails = reached c.args.key.now c.args.at c.deref.ensures c.cmp.ensures (sym c.if-reaches.false ∙ c.reaches.ensures) in
    let before = c.loop-tree.invariant in record {
      found =
          ap (λ (n : Node). option_or (sought c.args.key.now c.args.at n.right.entries) (entry_at c.loop-tree.found)) c.deref-else-reaches.ensures
          ∙ ap (λ (o : Option Entry). option_or o (entry_at c.loop-tree.found)) (sym (seek-right root c.args.key.now c.args.at fails))
          ∙ before.found;
      shallow = λ _. before.shallow (shallow_of root);
      counted = omega (arith, ap (λ (n : Node). n.right.height) c.deref-else-reaches.ensures, before.counted, c.tick.ensures, root.fork.one_more);
    }
