-- Where the first that passes a test is, when those before it were looked at by blocks.
use Rattle.std.proofs.Common.{◌≡◌, ℕ, zero, suc, ◌+◌, Bool, false, List, [], ◌∷◌, take, drop, Option, Some, None, inl, inr, refl, sym, ap, ◌∙◌, add-zero, arith}
use Rattle.std.specs.List.{list_any, position, position_from}
use Rattle.std.specs.Option.{option_map}
use Rattle.std.proofs.lemmas.Bool.{cond-true, cond-false, cases_Bool}
use Rattle.std.proofs.lemmas.Iterator.Adapters.{position_from-zero}

module _ {X : Type 0} (p : X → Bool) where
  -- if none of the first k passes, it is after them
  pub passed : (n k : ℕ) (xs : List X) → list_any p (take k xs) ≡ false → position_from p n xs ≡ position_from p (n + k) (drop k xs)
  passed n zero xs none = ap (λ m. position_from p m xs) (sym (add-zero n))
  passed n (suc k) [] none = refl
  passed n (suc k) (x ∷ xs) none =
      elim (cases_Bool (p x)) [
        | inl passes ↦ let bad = rw passes at none in absurd cc
        | inr fails ↦
            cond-false (p x) (Some n) (position_from p (n + 1) xs) fails
            ∙ passed (n + 1) k xs (rw fails at none)
            ∙ ap (λ m. position_from p m (drop k xs)) (omega arith)
      ]

  -- where none is found, none passes
  pub none_any : (n : ℕ) (xs : List X) → position_from p n xs ≡ None → list_any p xs ≡ false
  none_any n [] none = refl
  none_any n (x ∷ xs) none =
      elim (cases_Bool (p x)) [
        | inl passes ↦ let some = sym (cond-true (p x) (Some n) (position_from p (n + 1) xs) passes) ∙ none in absurd cc
        | inr fails ↦ rw fails (none_any (n + 1) xs (sym (cond-false (p x) (Some n) (position_from p (n + 1) xs) fails) ∙ none))
      ]

  -- one that is found among the first k is the first of all
  pub found_near : (n k i : ℕ) (xs : List X) → position_from p n (take k xs) ≡ Some i → position_from p n xs ≡ Some i
  found_near n zero i xs found = absurd cc
  found_near n (suc k) i [] found = found
  found_near n (suc k) i (x ∷ xs) found =
      elim (cases_Bool (p x)) [
        | inl passes ↦
            cond-true (p x) (Some n) (position_from p (n + 1) xs) passes
            ∙ sym (cond-true (p x) (Some n) (position_from p (n + 1) (take k xs)) passes) ∙ found
        | inr fails ↦
            cond-false (p x) (Some n) (position_from p (n + 1) xs) fails
            ∙ found_near (n + 1) k i xs (sym (cond-false (p x) (Some n) (position_from p (n + 1) (take k xs)) fails) ∙ found)
      ]

  -- counted from n on
  pub from_some : (n i : ℕ) (xs : List X) → position_from p 0 xs ≡ Some i → position_from p n xs ≡ Some (n + i)
  from_some n i xs found = ap (λ m. position_from p m xs) (sym (add-zero n)) ∙ shifted 0 xs i found where
    shifted : (m : ℕ) (xs : List X) (i : ℕ) → position_from p m xs ≡ Some i → position_from p (n + m) xs ≡ Some (n + i)
    shifted m [] i found = absurd cc
    shifted m (x ∷ xs) i found =
        elim (cases_Bool (p x)) [
          | inl passes ↦
              let here : Some m ≡ Some i = sym (cond-true (p x) (Some m) (position_from p (m + 1) xs) passes) ∙ found in
              cond-true (p x) (Some (n + m)) (position_from p (n + m + 1) xs) passes ∙ cc
          | inr fails ↦
              cond-false (p x) (Some (n + m)) (position_from p (n + m + 1) xs) fails
              ∙ ap (λ k. position_from p k xs) (omega arith)
              ∙ shifted (m + 1) xs i (sym (cond-false (p x) (Some m) (position_from p (m + 1) xs) fails) ∙ found)
        ]

  pub from_none : (n m : ℕ) (xs : List X) → position_from p m xs ≡ None → position_from p n xs ≡ None
  from_none n m [] none = refl
  from_none n m (x ∷ xs) none =
      elim (cases_Bool (p x)) [
        | inl passes ↦ let some = sym (cond-true (p x) (Some m) (position_from p (m + 1) xs) passes) ∙ none in absurd cc
        | inr fails ↦
            cond-false (p x) (Some n) (position_from p (n + 1) xs) fails
            ∙ from_none (n + 1) (m + 1) xs (sym (cond-false (p x) (Some m) (position_from p (m + 1) xs) fails) ∙ none)
      ]

  -- found among the first ones
  pub first_near : (near i : ℕ) (xs : List X) → position p (take near xs) ≡ Some i → position p xs ≡ Some i
  first_near near i xs found =
      position_from-zero p xs ∙ found_near 0 near i xs (sym (position_from-zero p (take near xs)) ∙ found)

  -- found behind blocks that were passed
  pub first_behind : (near clear : ℕ) (xs : List X) → position p (take near xs) ≡ None →
      position_from p near (drop near xs) ≡ position_from p clear (drop clear xs) →
      (found : Option ℕ) → found ≡ position p (drop clear xs) → position p xs ≡ option_map (λ i. clear + i) found
  first_behind near clear xs none first found is =
      position_from-zero p xs ∙ passed 0 near xs (none_any 0 (take near xs) (sym (position_from-zero p (take near xs)) ∙ none))
      ∙ ap (λ m. position_from p m (drop near xs)) (omega arith)
      ∙ first ∙ counted found (is ∙ position_from-zero p (drop clear xs)) where
        counted : (found : Option ℕ) → found ≡ position_from p 0 (drop clear xs) → position_from p clear (drop clear xs) ≡ option_map (λ i. clear + i) found
        counted None is = from_none clear 0 (drop clear xs) (sym is)
        counted (Some i) is = from_some clear i (drop clear xs) (sym is)
