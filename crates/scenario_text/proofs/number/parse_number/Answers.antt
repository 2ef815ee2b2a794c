use Rattle.std.proofs.Common.{sym, ◌∙◌, refl, arith}
use Rattle.std.proofs.lemmas.Bool.Decides.{nat_tests}
use Rattle.scenario_text.proofs.Numbers.{not_canonical, not_digits, right_digits}
use Rattle.scenario_text.proofs.number.parse_number.Goals as goal

pub returns-then-not-is_canonical-clause-spelled : goal.returns-then-not-is_canonical-clause-spelled
returns-then-not-is_canonical-clause-spelled c =
    (not_canonical c.args.low c.args.high c.args.word.now (sym c.if-not-is_canonical.ensures), refl)

pub returns-in_default-clause-spelled : goal.returns-in_default-clause-spelled
returns-in_default-clause-spelled c =
    (not_digits c.args.low c.args.high c.args.word.now (omega arith) c.in_default.ensures, refl)

pub returns-then-not-contains-clause-spelled : goal.returns-then-not-contains-clause-spelled
returns-then-not-contains-clause-spelled c =
    let is = right_digits c.args.low c.args.high c.args.word.now (sym c.if-not-is_canonical.ensures) c.in-Some.ensures.0 in
    (is ∙ grind (arith, nat_tests, c.in-Some.ensures.1), refl)

pub returns-clause-spelled : goal.returns-clause-spelled
returns-clause-spelled c =
    let is = right_digits c.args.low c.args.high c.args.word.now (sym c.if-not-is_canonical.ensures) c.in-Some.ensures.0 in
    (is ∙ grind (arith, nat_tests, c.in-Some.ensures.1), c.in-Some.ensures.1)
