use Rattle.std.proofs.Common.{◌≡◌, ◌<◌, length, map, refl, sym, ap, ◌∙◌, subst, arith}
use Rattle.order_tree.specs.Balance.{entry_in, branch_of, under}
use Rattle.order_tree.specs.Anew.{rekeyed}
use Rattle.order_tree.proofs.Anew.{IsAnew, anew-left, anew-right, anew-root, anew-none, anew-under, anew-even}
use Rattle.order_tree.proofs.Placed.{under-from, even-from, IsNode-even, sides_shorter}
use Rattle.std.specs.FinMap.{is_sorted}
use Rattle.order_tree.specs.Order.{key_cmp}
use Rattle.order_tree.proofs.tree.Node.+renew.Goals.{in-Some, in_default}
use Rattle.order_tree.proofs.tree.Node.+renew.Goals as goal

pub renew-requires : goal.renew-requires
renew-requires g t c κs within =
    let at = IsNode-even c.requires.even refl in
    let is = under-from c.left.view_is c.in-Some.is c.deref_mut.ensures.value in
    let less : length (under c.deref_mut.result.now).entries < length (under c.args.self.now).entries =
    subst (λ b. length b.entries < length (under c.args.self.now).entries) (sym is) (sides_shorter at.root).0 in
    let rising = ap (λ b. is_sorted key_cmp (map (rekeyed (g.R.Renewal.at c.args.renewal.now)) b.entries)) is ∙ anew-left (g.R.Renewal.at c.args.renewal.now) at c.requires.rising in
    (omega (arith, less, c.decreases), (within, (even-from c.left.invariant c.in-Some.is c.deref_mut.ensures.value, rising)))

pub renew-requires-in-Some-root : goal.renew-requires-in-Some-root
renew-requires-in-Some-root g t c κs within =
    let at = IsNode-even c.requires.even refl in
    let is = under-from c.right.view_is c.in-Some-root.is c.deref_mut-in-Some-root.ensures.value in
    let less : length (under c.deref_mut-in-Some-root.result.now).entries < length (under c.args.self.now).entries =
    subst (λ b. length b.entries < length (under c.args.self.now).entries) (sym is) (sides_shorter at.root).1 in
    let rising = ap (λ b. is_sorted key_cmp (map (rekeyed (g.R.Renewal.at c.args.renewal.now)) b.entries)) is ∙ anew-right (g.R.Renewal.at c.args.renewal.now) at c.requires.rising in
    (omega (arith, less, c.decreases), (within, (even-from c.right.invariant c.in-Some-root.is c.deref_mut-in-Some-root.ensures.value, rising)))

pub returns-in-Some-root : goal.returns-in-Some-root
returns-in-Some-root g t c =
    let at = g.R.Renewal.at c.args.renewal.now in
    let left : IsAnew at c.args.self.now.left c.match-left.self.1.0 = elim c.match-left.branch [
      | in-Some w ↦
          subst (λ s. IsAnew at c.args.self.now.left s.1.0) (sym w.self-is)
          (anew-root w.renew.new.self c.left.view_is w.in-Some.is w.deref_mut.ensures.value w.renew.ensures.entries w.renew.ensures.height)
      | in_default w ↦ subst (λ s. IsAnew at c.args.self.now.left s.1.0) (sym w.self-is) (anew-none at c.left.view_is w.in_default.is)
    ] in
    let right = anew-root c.renew-in-Some-root.new.self c.right.view_is c.in-Some-root.is c.deref_mut-in-Some-root.ensures.value c.renew-in-Some-root.ensures.entries c.renew-in-Some-root.ensures.height in
    let node =
    record c.args.self.now { left = c.match-left.self.1.0; key = record c.args.self.now.key { rank = c.renew-2.new.rank; stamp = c.renew-2.new.stamp }; right = under c.renew-in-Some-root.new.self } in
    let entry : entry_in node ≡ rekeyed at (entry_in c.args.self.now) =
    λ i. (record c.args.self.now.key { rank = (c.renew-2.ensures i).0; stamp = (c.renew-2.ensures i).1 }, c.args.self.now.pid) in
    let whole = anew-under c.requires.even node left entry right in record {
      even = anew-even c.requires.even node left entry right c.requires.rising refl;
      entries = whole.entries;
      height = whole.height;
    }

pub returns-in_default-root : goal.returns-in_default-root
returns-in_default-root g t c =
    let at = g.R.Renewal.at c.args.renewal.now in
    let left : IsAnew at c.args.self.now.left c.match-left.self.1.0 = elim c.match-left.branch [
      | in-Some w ↦
          subst (λ s. IsAnew at c.args.self.now.left s.1.0) (sym w.self-is)
          (anew-root w.renew.new.self c.left.view_is w.in-Some.is w.deref_mut.ensures.value w.renew.ensures.entries w.renew.ensures.height)
      | in_default w ↦ subst (λ s. IsAnew at c.args.self.now.left s.1.0) (sym w.self-is) (anew-none at c.left.view_is w.in_default.is)
    ] in
    let right = anew-none at c.right.view_is c.in_default-root.is in
    let node =
    record c.args.self.now { left = c.match-left.self.1.0; key = record c.args.self.now.key { rank = c.renew-2.new.rank; stamp = c.renew-2.new.stamp }; right = branch_of c.right.inside.root } in
    let entry : entry_in node ≡ rekeyed at (entry_in c.args.self.now) =
    λ i. (record c.args.self.now.key { rank = (c.renew-2.ensures i).0; stamp = (c.renew-2.ensures i).1 }, c.args.self.now.pid) in
    let whole = anew-under c.requires.even node left entry right in record {
      even = anew-even c.requires.even node left entry right c.requires.rising refl;
      entries = whole.entries;
      height = whole.height;
    }
