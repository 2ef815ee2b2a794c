use Rattle.std.proofs.Common.{◌≡◌, ◌≤◌, ◌-◌, ◌^◌, ◌*◌, ◌+◌, true, get_or, arith}
use Rattle.std.specs.Char.{is_ascii_digit, digit_value}
use Rattle.std.proofs.Math.Nat.{pow-le-pow_right}
use Rattle.std.proofs.lemmas.Bool.Decides.{nat_tests}
use Rattle.std.proofs.lemmas.Grind.{pow_more}
use Rattle.std.proofs.lemmas.Int.Digits.{digits_value_more}
use Rattle.scenario_text.proofs.Numbers.{digits_more}
use Rattle.scenario_text.proofs.number.first_digits.Goals as goal

pub overflow_mul-number : goal.overflow_mul-number
overflow_mul-number c =
    let below : 10 ^ c.loop-count.count ≤ 10 ^ 18 = pow-le-pow_right {n = 10} (omega arith) {i = c.loop-count.count} {j = 18} (omega arith) in
    omega (arith, c.loop-count.invariant.5)

pub overflow_add-number : goal.overflow_add-number
overflow_add-number c =
    let below : 10 ^ c.loop-count.count ≤ 10 ^ 18 = pow-le-pow_right {n = 10} (omega arith) {i = c.loop-count.count} {j = 18} (omega arith) in
    omega (arith, c.loop-count.invariant.5)

pub loop-count-preserved : goal.loop-count-preserved
loop-count-preserved c =
    let text = c.args.text.now in
    let count = c.loop-count.count in
    let byte = get_or text count 0 in
    let low : 48 ≤ byte = omega arith in
    let high : byte ≤ 57 = omega arith in
    let is_digit : is_ascii_digit byte ≡ true = grind (arith, nat_tests) in
    let digit : digit_value byte ≡ byte - 48 = grind (arith, nat_tests) in
    let more : 10 ^ (count + 1) ≡ 10 ^ count * 10 = pow_more 10 count in (
      omega arith,
      omega arith,
      digits_more text count (omega arith) c.loop-count.invariant.2 is_digit,
      omega (arith, digits_value_more 10 text count (omega arith), c.loop-count.invariant.3),
      omega (arith, c.loop-count.invariant.4),
      omega (arith, c.loop-count.invariant.5),
    )
