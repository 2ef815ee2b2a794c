use Rattle.std.proofs.Common.{◌≡◌, ◌+◌, ◌≤◌, true, false, cond, Option, ap, sym, ◌∙◌, subst, arith}
use Rattle.std.specs.FinMap as fin
use Rattle.std.specs.Option.{option_len}
use Rattle.order_tree.specs.Order.{Entry, Members}
use Rattle.order_tree.specs.Recent.{with_recent, is_at, IsBeside, StandsBeside}
use Rattle.order_tree.specs.declared.key.Key.{Key}
use Rattle.order_tree.proofs.Recents.{key-at, contains_key-apart, remove-at, remove-apart, StandsBeside-remove, fits-recent, within-recent}
use Rattle.order_tree.proofs.recent.RecentTree.set_rank.Given as given
use Rattle.order_tree.proofs.recent.RecentTree.set_rank.Goals as goal

-- ---- where the key is that of the entry beside the tree

pub invariant_of-self : goal.invariant_of-self
invariant_of-self g c =
    let entry : Entry = (c.in-Some.last, c.in-Some.other) in
    let at = sym c.is_at.ensures.at ∙ c.if-is_at.true in
    let beside : IsBeside c.self.inside.tree entry = subst (λ (o : Option Entry). StandsBeside o c.self.inside.tree) c.in-Some.is c.self.invariant in
    record {
      free =
          ap (λ (key : Key). fin.get c.self.inside.tree.members (record key { rank = c.args.rank })) (sym (key-at c.args.key.now c.self.inside.recent entry c.in-Some.is at))
          ∙ ap (λ (m : Members). fin.get m (record c.args.key.now { rank = c.args.rank })) (remove-at c.args.key.now c.self.inside.recent c.self.inside.tree c.self.invariant at)
          ∙ (rw (← c.self.view_is) at c.requires.free);
      spare = beside.spare;
    }

pub returns-then-is_at-clause-members : goal.returns-then-is_at-clause-members
returns-then-is_at-clause-members g c =
    let entry : Entry = (c.in-Some.last, c.in-Some.other) in
    let at = sym c.is_at.ensures.at ∙ c.if-is_at.true in
    let same = sym (key-at c.args.key.now c.self.inside.recent entry c.in-Some.is at) in
    rw (← c.self.view_is)
    (λ i. fin.insert (remove-at c.args.key.now c.self.inside.recent c.self.inside.tree c.self.invariant at i) (record (same i) { rank = c.args.rank }) c.args.pid)

-- ---- where it is not

-- what is left while it is out
module _ (g : given.Over) (c : goal.After-put_beside-arg-2-1 g) where
  apart : is_at c.self.inside.recent c.args.key.now ≡ false
  apart = sym c.is_at.ensures.at ∙ c.if-is_at.false

  left : with_recent c.self.inside.recent c.remove.new.self.members ≡ fin.remove (with_recent c.self.inside.recent c.self.inside.tree.members) c.args.key.now
  left = ap (with_recent c.self.inside.recent) c.remove.ensures.members ∙ remove-apart c.args.key.now c.self.inside.recent c.self.inside.tree apart

  found : c.remove.result ≡ true
  found =
      c.remove.ensures.found ∙ contains_key-apart c.args.key.now c.self.inside.recent c.self.inside.tree apart
      ∙ (rw (← c.self.view_is) at c.requires.there)

  one_more : c.remove.new.self.spare ≡ c.self.inside.tree.spare + 1
  one_more = c.remove.ensures.spare ∙ ap (λ b. c.self.inside.tree.spare + cond b 1 0) found

  fits : option_len c.self.inside.recent ≤ c.self.inside.tree.spare
  fits = fits-recent c.self.inside.recent c.self.inside.tree c.self.invariant

pub invariant_of-self-2 : goal.invariant_of-self-2
invariant_of-self-2 g c =
    StandsBeside-remove c.args.key.now c.self.inside.recent c.self.inside.tree c.remove.new.self c.self.invariant c.remove.ensures.members
    (omega (arith, c.remove.ensures.spare))

pub put_beside-requires-clause-spare : goal.put_beside-requires-clause-spare
put_beside-requires-clause-spare g c = omega (arith, one_more g c, fits g c)

pub put_beside-requires-clause-free : goal.put_beside-requires-clause-free
put_beside-requires-clause-free g c =
    ap (λ (m : Members). fin.get m (record c.args.key.now { rank = c.args.rank })) (left g c) ∙ (rw (← c.self.view_is) at c.requires.free)

pub returns-clause-members : goal.returns-clause-members
returns-clause-members g c =
    rw (← c.self.view_is)
    (c.put_beside.ensures.members ∙ ap (λ (m : Members). fin.insert m (record c.args.key.now { rank = c.args.rank }) c.args.pid) (left g c.before))

pub returns-clause-spare : goal.returns-clause-spare
returns-clause-spare g c = rw (← c.self.view_is) (omega (arith, c.put_beside.ensures.spare, one_more g c.before, fits g c.before))

pub returns-clause-counted : goal.returns-clause-counted
returns-clause-counted g c =
    let within = within-recent c.self.inside.recent c.self.inside.tree c.self.invariant c.args.comparisons.now c.remove.new.comparisons
    (omega (arith, c.is_at.ensures.counted, c.remove.ensures.counted)) in
    rw (← c.self.view_is, ← left g c.before) (omega (arith, within, c.put_beside.ensures.counted))
