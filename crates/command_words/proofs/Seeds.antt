-- Seeds: no seed begins with `-`.
use Rattle.std.proofs.Common.{◌≡◌, refl, ap, ℕ, zero, suc, ◌<◌, ◌≤◌, ◌^◌, ◌==◌, arith, get_or, false, List, [], ◌∷◌, decimal}
use Rattle.std.proofs.lemmas.Bool.Decides.{nat_tests}
use Rattle.std.proofs.lemmas.Fmt.{decimal_digit, first_decimal}
use Rattle.command_words.specs.Forms.{is_option}

plain_digit : (byte : ℕ) → 48 ≤ byte → (byte == 45) ≡ false
plain_digit byte at_least = grind (arith, nat_tests)

plain_from : (text : List ℕ) → 48 < get_or text 0 0 → is_option text ≡ false
plain_from [] least = refl
plain_from (byte ∷ rest) least = plain_digit byte (omega arith)

pub plain_decimal : (seed : ℕ) → seed < 2 ^ 32 → is_option (decimal seed) ≡ false
plain_decimal zero below = ap is_option (decimal_digit 0 (omega arith))
plain_decimal (suc seed) below = plain_from (decimal (suc seed)) (first_decimal (suc seed) (omega arith) (omega arith))
