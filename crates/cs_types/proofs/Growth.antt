-- Growth: no weight is below 15, and so virtual time grows at most 69 times as fast as the clock.
use Rattle.std.proofs.Common.{◌≡◌, ℕ, ◌*◌, ◌≤◌, ℤ, true, ltb, not, refl, arith}
use Rattle.std.proofs.Math.Nat.{div-le_of_le-mul}
use Rattle.std.proofs.lemmas.Bool.Decides.{nat_tests}
use Rattle.cs_types.specs.Time.{weights, weight_of, weight_index, growth}
use Rattle.cs_types.proofs.Foremost.{each_of_all, each_weaker}
use Rattle.cs_types.proofs.Lists.{all_get}

-- no weight is below 15
pub weight_of-ge : (nice : ℤ) → 15 ≤ weight_of nice
unfolding weight_of
weight_of-ge nice =
    all_get (λ w. 15 ≤ w) weights (weight_index nice) 1024 (omega arith)
    (each_weaker (λ w. not (ltb w 15) ≡ true) (λ w. 15 ≤ w) weights (λ w e. grind (arith, nat_tests))
    (each_of_all (λ w. not (ltb w 15)) weights refl))

few_per_weight : (w delta : ℕ) → 15 ≤ w → delta * 1024 ≤ w * (69 * delta)
few_per_weight w delta big =
    let more : (15 * (69 * delta)) ≤ w * (69 * delta) = grind (arith) in omega (arith, more)

-- so virtual time grows at most 69 times as fast as the clock
pub growth-le : (delta : ℕ) (nice : ℤ) → growth delta nice ≤ 69 * delta
unfolding growth
growth-le delta nice = div-le_of_le-mul (weight_of nice) (few_per_weight (weight_of nice) delta (weight_of-ge nice))
