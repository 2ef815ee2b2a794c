use Rattle.std.proofs.Common.{◌≡◌, refl, ap, sym, ◌∙◌}
use Rattle.std.specs.Prelude.{is_some}
use Rattle.std.specs.FinMap as fin
use Rattle.cs_types.specs.Queue as queue
use Rattle.order_tree.specs.Order.{Members}
use Rattle.order_tree.specs.Rank.{key_at, IsOfClass}
use Rattle.order_tree.specs.declared.key.Key.{Key}
use Rattle.order_tree.proofs.Ranks.{ranked, get-ranked, len-ranked, IsOfClass-insert, IsOfClass-remove, ranked-insert, ranked-remove}
use Rattle.order_tree.proofs.rank.RankTree.set_rank.Goals as goal

-- what is left while a task is out
module _ (members : Members) (is_of_class : IsOfClass members) (place : queue.Key) where
  abbrev left : Members
  left = fin.remove members (key_at place)

  of_class : IsOfClass left
  of_class = IsOfClass-remove members is_of_class left place refl

  left-ranked : ranked left of_class ≡ fin.remove (ranked members is_of_class) place
  left-ranked = ranked-remove members is_of_class left place refl

pub set_rank-requires-clause-there : goal.set_rank-requires-clause-there
set_rank-requires-clause-there g c =
    ap (λ key. fin.contains_key c.self.inside.tree.members key) c.key.ensures
    ∙ ap is_some (sym (get-ranked c.self.inside.tree.members c.self.invariant (c.args.rank, c.args.stamp)))
    ∙ (rw (← c.self.view_is) at c.requires.there)

pub set_rank-requires-clause-free : goal.set_rank-requires-clause-free
set_rank-requires-clause-free g c =
    let members = c.self.inside.tree.members in
    let place : queue.Key = (c.args.rank, c.args.stamp) in
    let later : queue.Key = (c.args.later, c.args.stamp) in
    ap (λ (key : Key). fin.get (fin.remove members key) (record key { rank = c.args.later })) c.key.ensures
    ∙ sym (get-ranked (left members c.self.invariant place) (of_class members c.self.invariant place) later)
    ∙ ap (λ (m : queue.Members). fin.get m later) (left-ranked members c.self.invariant place)
    ∙ (rw (← c.self.view_is) at c.requires.free)

pub invariant_of-self : goal.invariant_of-self
invariant_of-self g c =
    let members = c.self.inside.tree.members in
    let place : queue.Key = (c.args.rank, c.args.stamp) in
    IsOfClass-insert (left members c.self.invariant place) (of_class members c.self.invariant place) c.set_rank.new.self.members (c.args.later, c.args.stamp) c.args.pid
    (c.set_rank.ensures.members ∙ ap (λ (key : Key). fin.insert (fin.remove members key) (record key { rank = c.args.later }) c.args.pid) c.key.ensures)

pub returns-clause-members : goal.returns-clause-members
returns-clause-members g c =
    let members = c.self.inside.tree.members in
    let place : queue.Key = (c.args.rank, c.args.stamp) in
    let later : queue.Key = (c.args.later, c.args.stamp) in
    rw (← c.self.view_is)
    (ranked-insert (left members c.self.invariant place) (of_class members c.self.invariant place) c.set_rank.new.self.members later c.args.pid
    (c.set_rank.ensures.members ∙ ap (λ (key : Key). fin.insert (fin.remove members key) (record key { rank = c.args.later }) c.args.pid) c.key.ensures)
    ∙ ap (λ (m : queue.Members). fin.insert m later c.args.pid) (left-ranked members c.self.invariant place))

pub returns-clause-spare : goal.returns-clause-spare
returns-clause-spare g c = rw (← c.self.view_is) c.set_rank.ensures.spare

pub returns-clause-counted : goal.returns-clause-counted
returns-clause-counted g c =
    let members = c.self.inside.tree.members in
    let place : queue.Key = (c.args.rank, c.args.stamp) in
    rw (
      ← c.self.view_is,
      ← left-ranked members c.self.invariant place,
      len-ranked members c.self.invariant,
      len-ranked (left members c.self.invariant place) (of_class members c.self.invariant place),
    )
    (rw (c.key.ensures) at c.set_rank.ensures.counted)
