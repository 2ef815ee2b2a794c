-- Reading: reading the length keeps the rule.
use Rattle.std.proofs.Common.{◌≡◌, ℕ, ◌+◌, ◌≤◌, List, [], ◌∷◌, length, set, get_or, refl, sym, ap, subst, arith, Option}
use Rattle.std.proofs.lemmas.List.Elements.{All-head, All-cons, All-nil}
use mathlib.Core.Option.{none, some}
use lib.ListN.{get_elem?}
use lib.Seq.{set-get_or}
use Rattle.atomic_table.specs.Table.{State, Me, step, keeps, Allows}
use Rattle.cs_types.specs.Room.{Opening}
use Rattle.cs_types.specs.History.{History}
use Rattle.core_lock.specs.declared.view.Progress.{Progress}
use Rattle.core_lock.specs.declared.view.Beginning.{Beginning}
use Rattle.core_lock.specs.declared.view.View.{View}
use Rattle.core_lock.specs.declared.view.View.TheVariants.{Idle}
use Rattle.core_lock.specs.Board.{IsOwned, Knows, IsKept, noted}
use Rattle.core_lock.proofs.Keeping.{seats_stay, kept_anew, parts_or}
use Rattle.core_lock.proofs.Entries.{prefix-length}

module _ {R : Type 0} (opening : R → Opening) (history : R → History) (spare : R → ℕ) (begun : Beginning R) where
  abbrev Rule : State (Option R) (View R) → Type 0
  Rule = IsKept opening history spare begun

  abbrev with_note : Progress → ℕ → Progress
  with_note has note = record has { note = note; readings = has.readings + 1 }

  note_kept : (s : State (Option R) (View R)) (k : Rule s) (seat : ℕ) (from : Beginning R) (has : Progress) → get_elem? s.views seat ≡ some (Idle from (has ∷ [])) →
      Rule record { words = s.words; homes = s.homes; views = set s.views seat (Idle from (with_note has (length k.books.past) ∷ [])) }
  note_kept s k seat from has at =
      let b = k.books in
      let known = k.views seat (Idle from (has ∷ [])) at in
      let mine : IsOwned begun.lists b seat 0 has = All-head (IsOwned begun.lists b seat 0) has [] known.1 in
      let now = with_note has (length b.past) in
      kept_anew k b.owner (set s.views seat (Idle from (now ∷ [])))
      (seats_stay (Knows begun b) s.views seat (Idle from (now ∷ [])) (
        known.0,
        All-cons (IsOwned begun.lists b seat 0) now [] (record {
          number = mine.number;
          owner = mine.owner;
          made = mine.made;
          steps = mine.steps;
          seen = mine.seen;
          note = omega arith;
        }) (All-nil (IsOwned begun.lists b seat 0)),
      )
      (λ other view _ there. k.views other view there))

  pub notes : (slots seat : ℕ) (from : Beginning R) (has : Progress) →
      Allows Rule slots seat (Idle from (has ∷ []), []) 1 (λ n. n) (noted (step slots 1 0 0 none) (Idle from (has ∷ []), []))
  notes slots seat from has s k deep at fits =
      let b = k.books in
      let found : get_or s.words 1 0 ≡ length b.past = ap (λ (ws : List ℕ). get_or ws 1 0) k.words in
      let known = k.views seat (Idle from (has ∷ [])) at in
      let mine : IsOwned begun.lists b seat 0 has = All-head (IsOwned begun.lists b seat 0) has [] known.1 in
      let x : ℕ = get_or s.words 1 0 in
      let w : View R = Idle from (with_note has x ∷ []) in
      let low : length has.seen ≤ x = omega (arith, found, prefix-length has.seen b.past mine.seen) in
      let risen : has.note ≤ x = omega (arith, found, mine.note) in (
        w,
        keeps,
        tt,
        subst Rule (λ i. record { words = sym (set-get_or s.words 1 0) i; homes = s.homes; views = set s.views seat (Idle from (with_note has (sym found i) ∷ [])) })
            (note_kept s k seat from has at),
        λ begun' has' e.
            let parts = ap (λ (m : Me (Option R) (View R)). parts_or (from, has, 0) m.0) e in
            let now : Me (Option R) (View R) = (w, []) in
            subst (λ (z : Beginning R × Progress × ℕ). (now ≡ (Idle z.0 (with_note z.1 x ∷ []), [])) × (length z.1.seen ≤ x) × (z.1.note ≤ x)) parts (refl, low, risen),
      )
