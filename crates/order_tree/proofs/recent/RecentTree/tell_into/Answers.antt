use Rattle.std.proofs.Common.{◌≡◌, ◌+◌, ◌++◌, ℕ, List, [], ◌∷◌, Option, Some, None, length, length-append, map, sym, ap, ◌∙◌, subst, arith}
use Rattle.std.specs.FinMap.{entries, len}
use Rattle.std.specs.List.Sorted.{IsPermutation}
use Rattle.std.specs.Option.{option_len}
use Rattle.std.proofs.lemmas.List.Sorted.{IsPermutation-refl}
use Rattle.order_tree.specs.Order.{Entry, Ordered, stamped}
use Rattle.order_tree.specs.Recent.{with_recent, StandsBeside}
use Rattle.order_tree.proofs.Recents.{len-recent, told-recent}
use Rattle.order_tree.proofs.recent.RecentTree.tell_into.Goals as goal
use Rattle.order_tree.proofs.recent.RecentTree.tell_into.Goals.{in-Some, in_default}

-- what is told once the entry beside the tree is, where there is one
abbrev with_told : Option Entry → List (ℕ × ℕ) → List (ℕ × ℕ)
with_told None old = old
with_told (Some entry) old = old ++ stamped entry ∷ []

length-with_told : (recent : Option Entry) (old : List (ℕ × ℕ)) → length (with_told recent old) ≡ length old + option_len recent
length-with_told None old = omega arith
length-with_told (Some entry) old = omega (arith, length-append old (stamped entry ∷ []))

all_told : (recent : Option Entry) (tree : Ordered) → StandsBeside recent tree → (old new : List (ℕ × ℕ)) →
    new ≡ with_told recent old ++ map stamped (entries tree.members) → IsPermutation (old ++ map stamped (entries (with_recent recent tree.members))) new
all_told None tree beside old new is = subst (IsPermutation (old ++ map stamped (entries tree.members))) (sym is) (IsPermutation-refl (old ++ map stamped (entries tree.members)))
all_told (Some entry) tree beside old new is =
    subst (IsPermutation (old ++ map stamped (entries (with_recent (Some entry) tree.members)))) (sym is) (told-recent entry tree beside old)

pub push-requires : goal.push-requires
push-requires g c =
    let recent = c.self.inside.recent in
    let tree = c.self.inside.tree in
    let is : recent ≡ Some (c.in-Some.key, c.in-Some.pid) = c.in-Some.is in
    let seen = ap (λ (order : Ordered). len order.members) c.self.view_is in
    record { fits = omega (arith, c.requires.fits, seen, len-recent recent tree c.self.invariant, ap (λ (o : Option Entry). option_len o) is) }

pub tell_into-requires : goal.tell_into-requires
tell_into-requires g c =
    let recent = c.self.inside.recent in
    let tree = c.self.inside.tree in
    let old = g.M.Movers.told c.args.movers.now in
    let seen = ap (λ (order : Ordered). len order.members) c.self.view_is in
    let told : g.M.Movers.told c.match-self.movers ≡ with_told recent old = elim c.match-self.branch [
      | in-Some w ↦
          ap g.M.Movers.told w.movers-is ∙ w.push.ensures
          ∙ ap (λ (o : Option Entry). with_told o old) (sym w.in-Some.is)
      | in_default w ↦
          ap g.M.Movers.told w.movers-is
          ∙ ap (λ (o : Option Entry). with_told o old) (sym w.in_default.is)
    ] in
    record { fits = omega (arith, c.requires.fits, seen, len-recent recent tree c.self.invariant, ap length told, length-with_told recent old) }

pub returns : goal.returns
returns g c =
    let recent = c.self.inside.recent in
    let tree = c.self.inside.tree in
    let old = g.M.Movers.told c.args.movers.now in
    let new = g.M.Movers.told c.tell_into.new.movers in
    let told : g.M.Movers.told c.match-self.movers ≡ with_told recent old = elim c.match-self.branch [
      | in-Some w ↦
          ap g.M.Movers.told w.movers-is ∙ w.push.ensures
          ∙ ap (λ (o : Option Entry). with_told o old) (sym w.in-Some.is)
      | in_default w ↦
          ap g.M.Movers.told w.movers-is
          ∙ ap (λ (o : Option Entry). with_told o old) (sym w.in_default.is)
    ] in
    record {
      told = rw (← c.self.view_is)
          (all_told recent tree c.self.invariant old new
          (c.tell_into.ensures.told ∙ ap (λ (movers : List (ℕ × ℕ)). movers ++ map stamped (entries tree.members)) told));
    }
