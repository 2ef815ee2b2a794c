-- Ends: what is asked of the threads of a group alone, and what a task that was removed gives.
use Rattle.std.proofs.Common.{◌≡◌, ◌≤◌, ℕ, Bool, true, false, cond, List, [], ◌∷◌, Option, Some, None, inl, inr, refl, sym, ap, ◌∙◌, not, length, arith}
use Rattle.std.proofs.lemmas.Bool.{cases_Bool, cond-true, cond-false}
use Rattle.std.specs.Prelude.{◌&&◌, ◌||◌, filter, find}
use Rattle.std.specs.List.{list_any}
use Rattle.std.specs.Option.{option_map}

-- one of those that are kept passes where one passes both tests
pub any_of_kept : {X : Type 0} (kept p : X → Bool) (xs : List X) → list_any p (filter kept xs) ≡ list_any (λ x. kept x && p x) xs
any_of_kept kept p [] = refl
any_of_kept kept p (x ∷ xs) =
    elim (kept x) as (λ b. list_any p (cond b (x ∷ filter kept xs) (filter kept xs)) ≡ ((b && p x) || list_any (λ x. kept x && p x) xs)) [
      | true ↦ ap (λ b. p x || b) (any_of_kept kept p xs)
      | false ↦ any_of_kept kept p xs
    ]

-- what was found, where a number comes with it
pub found_with : {X : Type 0} (n : ℕ) (found : Option X) (given : X × ℕ) → option_map (λ x. (x, n)) found ≡ Some given →
    (found ≡ Some given.0) × (given.1 ≡ n)
found_with n None given is = absurd cc
found_with {X} n (Some x) given is =
    let same : (x, n) ≡ given = cc in (ap (λ (pair : X × ℕ). Some pair.0) same, ap (λ (pair : X × ℕ). pair.1) (sym same))

-- one that was found is found among those that are kept, where it is kept
pub find_kept : {X : Type 0} (kept p : X → Bool) (xs : List X) (x : X) → find p xs ≡ Some x → kept x ≡ true → find p (filter kept xs) ≡ Some x
find_kept kept p [] x found is = absurd cc
find_kept kept p (first ∷ xs) x found is =
    elim (cases_Bool (p first)) [
      | inl here ↦
          let same : Some first ≡ Some x = sym (cond-true (p first) (Some first) (find p xs) here) ∙ found in
          let it : first ≡ x = cc in
          ap (find p) (cond-true (kept first) (first ∷ filter kept xs) (filter kept xs) (ap kept it ∙ is)) ∙ cond-true (p first) (Some first) (find p (filter kept xs)) here ∙ same
      | inr other ↦
          let rest = find_kept kept p xs x (sym (cond-false (p first) (Some first) (find p xs) other) ∙ found) is in
          elim (cases_Bool (kept first)) [
            | inl stays ↦ ap (find p) (cond-true (kept first) (first ∷ filter kept xs) (filter kept xs) stays) ∙ cond-false (p first) (Some first) (find p (filter kept xs)) other ∙ rest
            | inr goes ↦ ap (find p) (cond-false (kept first) (first ∷ filter kept xs) (filter kept xs) goes) ∙ rest
          ]
    ]

-- and where that is the only one, no other one is there
pub no_other : {X : Type 0} (p : X → Bool) (xs : List X) (x : X) → length xs ≤ 1 → find p xs ≡ Some x → list_any (λ y. not (p y)) xs ≡ false
no_other p [] x few found = absurd cc
no_other p (y ∷ []) x few found =
    elim (cases_Bool (p y)) [
      | inl here ↦ ap (λ b. not b || false) here
      | inr other ↦ let none = sym (cond-false (p y) (Some y) None other) ∙ found in absurd cc
    ]
no_other p (y ∷ z ∷ xs) x few found = absurd (omega (arith, few))
