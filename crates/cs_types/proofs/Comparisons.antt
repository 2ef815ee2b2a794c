-- More keys never lower the bound on comparisons.
use Rattle.std.proofs.Common.{◌≡◌, ℕ, zero, suc, ◌+◌, ◌/◌, ◌<◌, ◌≤◌, refl, inl, inr, ap, subst, arith}
use Rattle.std.proofs.lemmas.Bool.{cases_lt}
use Rattle.std.proofs.lemmas.Int.Digits.{length-digits_of_step}
use Rattle.cs_types.specs.Comparisons.{digits, most_comparisons}

digits-zero : digits 0 ≡ 0
unfolding digits
digits-zero = refl

-- half of a number has one digit less
pub digits-step : (n : ℕ) → 0 < n → digits n ≡ digits (n / 2) + 1
unfolding digits
digits-step n more = length-digits_of_step 2 n (omega arith) more

digits-le-below : (most a b : ℕ) → b ≤ most → a ≤ b → digits a ≤ digits b
digits-le-below zero a b low le = let same : a ≡ b = omega arith in subst (λ n. digits a ≤ digits n) same (omega arith)
digits-le-below (suc most) a b low le =
    elim (cases_lt 0 a) [
      | inl more ↦ omega (arith, digits-le-below most (a / 2) (b / 2) (omega arith) (omega arith), digits-step a more, digits-step b (omega arith))
      | inr none ↦ let zero_is : a ≡ 0 = omega arith in let few = ap digits zero_is in omega (arith, digits-zero)
    ]

pub most_comparisons-le : (a b : ℕ) → a ≤ b → most_comparisons a ≤ most_comparisons b
most_comparisons-le a b le = omega (arith, digits-le-below b a b (omega arith) le)
