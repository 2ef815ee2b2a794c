-- Lots: of which a guard that holds its pairs in place has callers.
use Rattle.std.proofs.Common.{◌≡◌, ℕ, Bool, true, false, List, refl, ap, inl, inr}
use Rattle.std.specs.Prelude.{◌==◌, slice_index_or}
use Rattle.std.specs.List.{list_any}
use Rattle.std.proofs.lemmas.Bool.{cases_Bool, eqb-true}
use Rattle.std.proofs.lemmas.List.Elements.{All-weaker}
use Rattle.std.proofs.lemmas.List.Folds.{list_any_none}
use Rattle.cs_outside.specs.Guard.{is_pair, lot_of, AreOfLots}

unlike : (lots : List Bool) (from to : ℕ) (pair : ℕ × ℕ) → slice_index_or lots (lot_of from) false ≡ false →
    slice_index_or lots (lot_of pair.0) false ≡ true → is_pair (from, to) pair ≡ false
unlike lots from to pair off on =
    elim (cases_Bool (from == pair.0)) [
      | inl same ↦
          let alike = ap (λ user. slice_index_or lots (lot_of user) false) (eqb-true from pair.0 same) in
          absurd cc
      | inr other ↦ rw other refl
    ]

-- a caller of no lot of theirs is in none of these pairs
pub none_of_lot : (lots : List Bool) (pairs : List (ℕ × ℕ)) (from to : ℕ) → AreOfLots lots pairs → slice_index_or lots (lot_of from) false ≡ false →
    list_any (is_pair (from, to)) pairs ≡ false
none_of_lot lots pairs from to of off =
    list_any_none (is_pair (from, to)) pairs
    (All-weaker (λ pair. slice_index_or lots (lot_of pair.0) false ≡ true) (λ pair. is_pair (from, to) pair ≡ false)
    (λ pair on. unlike lots from to pair off on) pairs of)
