use Rattle.std.proofs.Common.{◌≡◌, ℕ, ◌∷◌, sym, ap, ◌∙◌}
use Rattle.order_tree.specs.Order.{Entry}
use Rattle.order_tree.specs.Balance.{entry_in}
use Rattle.order_tree.specs.declared.tree.Node.{Node}
use Rattle.order_tree.proofs.Placed.{IsNode-even, sides-raised, leans-right, sinks-right}
use Rattle.order_tree.proofs.Heights.{level_kept, level_lost}
use Rattle.order_tree.proofs.Forks.{IsEven-from}
use Rattle.order_tree.proofs.Firsts.{first-in}
use Rattle.order_tree.proofs.tree.balance.raise_first.Goals as goal

-- the entry that was taken over, by its parts
raised : {own first : Node} {pid : ℕ} → own ≡ first → pid ≡ first.pid → entry_in first ≡ (own.key, pid)
raised own_is pid_is = λ i. ((sym own_is i).key, sym pid_is i)

pub returns-then-not-lower-clause-even : goal.returns-then-not-lower-clause-even
returns-then-not-lower-clause-even c =
    let at = IsNode-even c.requires.even c.deref_mut.ensures.value in
    let side = c.take_first-lower.new.self in
    let first = first-in c.in-Some.is c.take_first-lower.ensures.first in
    let entry = raised c.deref.ensures (c.swap.ensures.x_after ∙ ap (λ (n : Node). n.pid) c.deref_mut-2.ensures.value) in
    IsEven-from _ (sides-raised at (c.deref.result.now.key, c.swap.new.x) side (first.entries ∙ ap (λ (e : Entry). e ∷ side.entries) entry) c.take_first-lower.ensures.many)
    (leans-right at side (level_kept _ _ first.height c.if-not-lower.true))

pub lean_left-requires : goal.lean_left-requires
lean_left-requires c =
    let at = IsNode-even c.requires.even c.deref_mut.ensures.value in
    let side = c.take_first-lower.new.self in
    let first = first-in c.in-Some.is c.take_first-lower.ensures.first in
    let entry = raised c.deref.ensures (c.swap.ensures.x_after ∙ ap (λ (n : Node). n.pid) c.deref_mut-2.ensures.value) in record {
      tilted = record {
        sides = sides-raised at (c.deref.result.now.key, c.swap.new.x) side (first.entries ∙ ap (λ (e : Entry). e ∷ side.entries) entry) c.take_first-lower.ensures.many;
        lean = sinks-right at side (level_lost _ _ first.height c.if-not-lower.false);
      };
    }
