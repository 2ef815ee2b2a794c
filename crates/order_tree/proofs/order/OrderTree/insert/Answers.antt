use Rattle.std.proofs.Common.{◌≡◌, ◌+◌, List, ◌++◌, length, Option, None, Some, sym, ap, ◌∙◌, arith, length-append}
use Rattle.std.specs.Prelude.{slice_get}
use Rattle.std.specs.Option.{option_to_list}
use Rattle.std.specs.FinMap.{find, put}
use Rattle.order_tree.specs.Order.{Entry, Ordered, key_cmp}
use Rattle.order_tree.proofs.Placed.{IsPut, IsPut-from}
use Rattle.order_tree.proofs.Members.{find-free, map_of-put, within-first}
use Rattle.order_tree.specs.Recent.{lesser}
use Rattle.order_tree.proofs.Recents.{least-put}
use Rattle.order_tree.proofs.order.OrderTree.insert.Given as given
use Rattle.order_tree.proofs.order.OrderTree.insert.Goals as goal
use Rattle.order_tree.proofs.order.OrderTree.insert.Goals.{After-insert}

-- what is left where the last one was taken
popped : {A : Type 0} (before after : List A) (o : Option A) (x : A) → before ≡ after ++ option_to_list o → o ≡ Some x → length before ≡ length after + 1
popped before after o x is some = ap length is ∙ length-append after (option_to_list o) ∙ ap (λ p. length after + length (option_to_list p)) some

pub insert-requires : goal.insert-requires
insert-requires g c = record {
  free =
      ap (λ (e : Entry). find key_cmp e.0 c.self.inside.tree.entries) c.hold.ensures
      ∙ find-free c.self.inside.tree.entries c.self.invariant.rising _ (ap (λ (o : Ordered). o.members) c.self.view_is) c.args.key c.requires.free;
}

-- the key is not there
free : (g : given.Over) (c : After-insert g) → find key_cmp c.args.key c.self.inside.tree.entries ≡ None
free g c = find-free c.self.inside.tree.entries c.self.invariant.rising _ (ap (λ (o : Ordered). o.members) c.self.view_is) c.args.key c.requires.free

enters : (g : given.Over) (c : After-insert g) → IsPut c.self.inside.tree.entries c.args.key c.args.pid c.insert.new.self.entries
enters g c =
    IsPut-from _ _ _ _ c.self.invariant.rising
    (free g c)
    (c.insert.ensures.entries
    ∙ ap (λ (e : Entry). put key_cmp e.0 e.1 c.self.inside.tree.entries) c.hold.ensures)

pub invariant_of-self : goal.invariant_of-self
invariant_of-self g c =
    let sound = c.self.invariant in
    let put = enters g (goal.at.invariant_of-self g c).After-insert in
    let count = put.count in
    let nodes = popped _ _ _ _ c.pop.ensures.items c.unwrap-node.ensures in
    let room = c.pop.ensures.room in
    let spare = rw (← c.self.view_is) at c.requires.spare in record {
      rising = put.rising;
      counted = omega arith;
      first =
          c.take_lesser.ensures.lesser ∙ ap (lesser (Some (c.args.key, c.args.pid))) sound.first
          ∙ sym (least-put (c.args.key, c.args.pid) c.self.inside.tree.entries (free g (goal.at.invariant_of-self g c).After-insert))
          ∙ ap (λ (es : List Entry). slice_get es 0) (sym put.entries);
      nodes = omega arith;
      places = omega arith;
      few = omega arith;
    }

pub returns-clause-members : goal.returns-clause-members
returns-clause-members g c =
    map_of-put c.self.inside.tree.entries c.self.invariant.rising _ (ap (λ (o : Ordered). o.members) c.self.view_is) c.args.key c.args.pid _
    (enters g (goal.at.returns-clause-members g c).After-insert).entries

pub returns-clause-counted : goal.returns-clause-counted
returns-clause-counted g c =
    rw (← c.self.view_is)
    (within-first c.self.inside.tree.entries c.self.invariant.rising c.self.inside.first _ _ _ c.self.inside.tree.height c.self.invariant.first
    c.take_lesser.ensures.counted c.take_lesser.ensures.alone c.insert.ensures.counted c.insert.ensures.many_before)
