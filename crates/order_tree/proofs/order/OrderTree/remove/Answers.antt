use Rattle.std.proofs.Common.{◌≡◌, ℕ, ◌+◌, true, cond, List, length, Option, Some, None, Box, Global, refl, sym, ap, ◌∙◌, arith}
use Rattle.std.specs.Prelude.{is_some, slice_get}
use Rattle.std.specs.Option.{option_map}
use Rattle.std.proofs.lemmas.List.{length_push}
use Rattle.std.specs.FinMap.{find, is_sorted}
use Rattle.order_tree.specs.Order.{Entry, Ordered, key_cmp}
use Rattle.order_tree.specs.Branch.{without}
use Rattle.order_tree.specs.Recent.{renewed}
use Rattle.order_tree.specs.declared.key.Key.{Key}
use Rattle.order_tree.specs.declared.tree.Node.{Node}
use Rattle.order_tree.proofs.Heights.{height-le, no_more}
use Rattle.order_tree.proofs.Placed.{IsCut-from}
use Rattle.order_tree.proofs.Members.{map_of-without, contains_key-map_of, length-without, within, first-without, without-none}
use Rattle.order_tree.proofs.order.OrderTree.remove.Goals as goal

-- the pid of a node, if one came out
abbrev pid_in : Option (Box Node Global) → Option ℕ
pid_in taken = option_map (λ (node : Box Node Global). node.value.pid) taken

some-pid : (taken : Option (Box Node Global)) → is_some taken ≡ is_some (pid_in taken)
some-pid None = refl
some-pid (Some node) = refl

-- how many there are where a node came out exactly where the key was there
counted : (es : List Entry) → is_sorted key_cmp es ≡ true → (key : Key) (after : List Entry) (taken : Option (Box Node Global)) → after ≡ without key es →
    pid_in taken ≡ find key_cmp key es → cond (is_some taken) 1 0 + length after ≡ length es
counted es rising key after taken is found =
    (λ i. cond ((some-pid taken ∙ ap is_some found) i) 1 0 + length (is i))
    ∙ length-without es rising key

-- one less where a node came out
one-out : {node : Box Node Global} (es : List Entry) → is_sorted key_cmp es ≡ true → (key : Key) (after : List Entry) (taken : Option (Box Node Global)) →
    taken ≡ Some node → after ≡ without key es → pid_in taken ≡ find key_cmp key es → 1 + length after ≡ length es
one-out es rising key after taken some is found =
    sym (ap (λ (o : Option (Box Node Global)). cond (is_some o) 1 0 + length after) some) ∙ counted es rising key after taken is found

-- ---- where the key was not there

pub invariant_of-self : goal.invariant_of-self
invariant_of-self g c =
    let sound = c.self.invariant in
    let es = c.self.inside.tree.entries in
    let cut = IsCut-from es c.args.key.now _ sound.rising c.remove.ensures.entries in
    let none = sym c.remove.ensures.taken ∙ ap pid_in c.in_default.is in
    let count =
    sym (ap (λ (o : Option (Box Node Global)). cond (is_some o) 1 0 + length c.remove.new.self.entries) c.in_default.is)
    ∙ counted es sound.rising c.args.key.now c.remove.new.self.entries c.remove.new.taken cut.entries c.remove.ensures.taken in record {
      rising = cut.rising;
      counted = omega arith;
      first = sound.first ∙ ap (λ (xs : List Entry). slice_get xs 0) (sym (cut.entries ∙ without-none es c.args.key.now none));
      nodes = sound.nodes;
      places = sound.places;
      few = sound.few;
    }

pub returns-in_default-clause-found : goal.returns-in_default-clause-found
returns-in_default-clause-found g c =
    ap (λ (o : Option (Box Node Global)). is_some o) (sym c.in_default.is)
    ∙ some-pid c.remove.new.taken
    ∙ ap is_some c.remove.ensures.taken
    ∙ sym (contains_key-map_of c.self.inside.tree.entries c.self.invariant.rising _ (ap (λ (o : Ordered). o.members) c.self.view_is) c.args.key.now)

pub returns-in_default-clause-members : goal.returns-in_default-clause-members
returns-in_default-clause-members g c =
    map_of-without c.self.inside.tree.entries c.self.invariant.rising _ (ap (λ (o : Ordered). o.members) c.self.view_is) c.args.key.now _
    c.remove.ensures.entries

pub returns-in_default-clause-counted : goal.returns-in_default-clause-counted
returns-in_default-clause-counted g c =
    rw (← c.self.view_is)
    (within c.self.inside.tree.entries c.self.invariant.rising _ _ c.self.inside.tree.height c.remove.ensures.counted
    (height-le _ _ c.remove.ensures.many_before))

-- ---- where it was

pub invariant_of-self-2 : goal.invariant_of-self-2
invariant_of-self-2 g c =
    let sound = c.self.invariant in
    let es = c.self.inside.tree.entries in
    let cut = IsCut-from es c.args.key.now _ sound.rising c.remove.ensures.entries in
    let found = sym c.remove.ensures.taken ∙ ap pid_in c.in-Some.is in
    let pid : c.pid.result ≡ c.in-Some.node.value.pid = c.pid.ensures ∙ ap (λ (n : Node). n.pid) c.deref.ensures in
    let count = one-out es sound.rising c.args.key.now c.remove.new.self.entries c.remove.new.taken c.in-Some.is cut.entries c.remove.ensures.taken in
    let nodes = ap length c.push.ensures.items ∙ length_push c.self.inside.nodes.items c.in-Some.node in
    let room = c.push.ensures.room in record {
      rising = cut.rising;
      counted = omega arith;
      first =
          c.renew.ensures
          ∙ (λ i. renewed (sound.first i) (pid i) (slice_get (cut.entries i) 0))
          ∙ sym (first-without es c.args.key.now c.in-Some.node.value.pid found)
          ∙ ap (λ (xs : List Entry). slice_get xs 0) (sym cut.entries);
      nodes = omega arith;
      places = omega arith;
      few = omega arith;
    }

pub returns-clause-found : goal.returns-clause-found
returns-clause-found g c =
    ap (λ (o : Option (Box Node Global)). is_some o) (sym c.in-Some.is)
    ∙ some-pid c.remove.new.taken
    ∙ ap is_some c.remove.ensures.taken
    ∙ sym (contains_key-map_of c.self.inside.tree.entries c.self.invariant.rising _ (ap (λ (o : Ordered). o.members) c.self.view_is) c.args.key.now)

pub returns-clause-members : goal.returns-clause-members
returns-clause-members g c =
    map_of-without c.self.inside.tree.entries c.self.invariant.rising _ (ap (λ (o : Ordered). o.members) c.self.view_is) c.args.key.now _
    c.remove.ensures.entries

pub returns-clause-counted : goal.returns-clause-counted
returns-clause-counted g c =
    rw (← c.self.view_is)
    (within c.self.inside.tree.entries c.self.invariant.rising _ _ c.self.inside.tree.height c.remove.ensures.counted
    (height-le _ _ c.remove.ensures.many_before))

-- ---- the counts

pub returns-in_default-clause-spare : goal.returns-in_default-clause-spare
returns-in_default-clause-spare g c = no_more _ _ (ap (λ (o : Ordered). o.spare) c.self.view_is)

pub returns-clause-spare : goal.returns-clause-spare
returns-clause-spare g c = ap (λ (o : Ordered). o.spare + 1) c.self.view_is

pub push-requires : goal.push-requires
push-requires g c =
    let sound = c.self.invariant in
    let count = one-out c.self.inside.tree.entries sound.rising c.args.key.now _ c.remove.new.taken c.in-Some.is c.remove.ensures.entries c.remove.ensures.taken in
    record { room = omega (arith, count, sound.counted, sound.places) }

pub overflow_sub-self : goal.overflow_sub-self
overflow_sub-self g c =
    let sound = c.self.invariant in
    let count = one-out c.self.inside.tree.entries sound.rising c.args.key.now _ c.remove.new.taken c.in-Some.is c.remove.ensures.entries c.remove.ensures.taken in
    omega (arith, count, sound.counted)

pub overflow_add-self : goal.overflow_add-self
overflow_add-self g c =
    let sound = c.self.invariant in
    let count = one-out c.self.inside.tree.entries sound.rising c.args.key.now _ c.remove.new.taken c.in-Some.is c.remove.ensures.entries c.remove.ensures.taken in
    omega (arith, count, sound.counted, sound.few)
