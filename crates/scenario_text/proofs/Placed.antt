-- Placed: how many places a number takes.
use Rattle.std.proofs.Common.{◌≡◌, ℕ, zero, suc, ◌+◌, ◌*◌, ◌/◌, ◌%◌, ◌^◌, ◌<◌, ◌≤◌, [], ◌∷◌, length, ap, arith}
use Rattle.std.proofs.Math.Nat.{one-le-pow}
use Rattle.std.proofs.lemmas.Fmt.{decimal_step, decimal_nonempty, length-decimal-le}
use Rattle.std.proofs.lemmas.List.{length-append}
use Rattle.std.specs.Prelude.{decimal}

longer : (k n : ℕ) → 10 ^ k ≤ n → n < 2 ^ 64 → k < length (decimal n)
longer zero n reached fits = decimal_nonempty n fits
longer (suc k) n reached fits =
    let more = decimal_step n (omega (arith, one-le-pow k 10 (omega arith))) fits in
    omega (arith, ap length more, length-append (decimal (n / 10)) ((48 + n % 10) ∷ []), longer k (n / 10) (omega arith) (omega arith))

-- its digits, counted by the powers of ten between which it lies
pub digits_in : (k n : ℕ) → 10 ^ k ≤ n → n < 10 * 10 ^ k → n < 2 ^ 64 → k + 1 ≡ length (decimal n)
digits_in k n reached below fits =
    omega (arith, longer k n reached fits, length-decimal-le (suc k) n (omega arith) (omega arith) fits)
