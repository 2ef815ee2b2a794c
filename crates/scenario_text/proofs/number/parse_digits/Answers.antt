use Rattle.std.proofs.Common.{◌≡◌, ◌-◌, get_or, sym, ap, ◌∙◌, arith, inl, inr}
use Rattle.std.specs.Char.{digit_value}
use Rattle.std.specs.Str.{all_ascii_digits}
use Rattle.std.proofs.lemmas.List.{take_all}
use Rattle.std.proofs.lemmas.Bool.Decides.{nat_tests}
use Rattle.std.proofs.lemmas.Int.Digits.{digits_value_more}
use Rattle.scenario_text.specs.Grammar.{value}
use Rattle.scenario_text.proofs.Numbers.{digits_more, digits_fail, too_large}
use Rattle.scenario_text.proofs.number.parse_digits.Goals as goal

pub returns-then-not-is_ascii_digit : goal.returns-then-not-is_ascii_digit
returns-then-not-is_ascii_digit c =
    inl (digits_fail c.args.digits.now c.loop-digit.digit-index c.loop-digit-test.true (sym c.if-not-is_ascii_digit.ensures.value))

pub returns-in_err-checked_mul : goal.returns-in_err-checked_mul
returns-in_err-checked_mul c =
    rw c.from_residual.ensures
    (inr (too_large c.args.digits.now c.loop-digit.digit-index c.loop-digit-test.true (omega (arith, c.in_err-checked_mul.ensures, c.loop-digit.invariant.0))))

pub returns-in_err-number : goal.returns-in_err-number
returns-in_err-number c =
    let digit : digit_value (get_or c.args.digits.now c.loop-digit.digit-index 0) ≡ get_or c.args.digits.now c.loop-digit.digit-index 0 - 48 = grind (arith, nat_tests) in
    rw c.from_residual-in_err-number.ensures
    (inr (too_large c.args.digits.now c.loop-digit.digit-index c.loop-digit-test.true (omega (arith, c.in_err-number.ensures, c.in_ok-checked_mul.ensures.1, c.loop-digit.invariant.0))))

pub loop-digit-preserved : goal.loop-digit-preserved
loop-digit-preserved c =
    let digit : digit_value (get_or c.args.digits.now c.loop-digit.digit-index 0) ≡ get_or c.args.digits.now c.loop-digit.digit-index 0 - 48 = grind (arith, nat_tests) in (
      omega (arith, digits_value_more 10 c.args.digits.now _ c.loop-digit-test.true, c.in_ok-number.ensures.1, c.in_ok-checked_mul.ensures.1, c.loop-digit.invariant.0),
      digits_more c.args.digits.now _ c.loop-digit-test.true c.loop-digit.invariant.1 (sym c.if-not-is_ascii_digit.ensures.value),
      omega (arith, c.in_ok-number.ensures.0, c.in_ok-number.ensures.1),
    )

pub returns : goal.returns
returns c =
    let all = take_all c.loop-digit.digit-index c.args.digits.now c.loop-digit-test.false in (
      sym (ap all_ascii_digits all) ∙ c.loop-digit.invariant.1,
      c.loop-digit.invariant.0 ∙ ap value all,
    )
