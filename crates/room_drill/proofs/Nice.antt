-- Nice: the nice values that are drawn.
use Rattle.std.proofs.Common.{◌≡◌, ℕ, suc, ◌-◌, ◌<◌, Bool, true, false, cond, nat_lt, pos, negsuc, ◌-ℤ◌, ℤ, to_z, of_z, w8, FitsSigned, arith, ap, ◌∙◌}
use Rattle.std.proofs.lemmas.Int.{to_z_pos, to_z-of_z}
use Rattle.cs_types.specs.Scenario.{IsNice}

-- the difference is 0 or more, or less
nice_by : (n : ℕ) → n < 40 → (test : Bool) → IsNice (cond test (negsuc (20 - suc n)) (pos (n - 20)))
nice_by n few true = omega arith
nice_by n few false = omega arith

fits_by : (n : ℕ) → n < 40 → (test : Bool) → FitsSigned w8 (cond test (negsuc (20 - suc n)) (pos (n - 20)))
fits_by n few true = record { sfits = omega arith }
fits_by n few false = record { sfits = omega arith }

pub nice : (n : ℕ) → n < 40 → IsNice (pos n -ℤ pos 20)
nice n few = nice_by n few (nat_lt n 20)

-- a number below 40, less 20, fits 8 bits
pub nice_is : (n : ℕ) → n < 40 → to_z w8 (of_z w8 (to_z w8 n -ℤ pos 20)) ≡ pos n -ℤ pos 20
nice_is n few =
    ap (λ (m : ℤ). to_z w8 (of_z w8 (m -ℤ pos 20))) (to_z_pos w8 n (omega arith))
    ∙ to_z-of_z w8 (pos n -ℤ pos 20) (fits_by n few (nat_lt n 20))
