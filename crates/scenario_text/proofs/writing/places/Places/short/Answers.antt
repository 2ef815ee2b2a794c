use Rattle.std.proofs.Common.{arith}
use Rattle.std.proofs.lemmas.Fmt.{length-decimal-le}
use Rattle.scenario_text.proofs.writing.places.Places.short.Goals as goal

pub returns-then-number-lt10-clause-longest : goal.returns-then-number-lt10-clause-longest
returns-then-number-lt10-clause-longest c =
    omega (arith, c.digit.ensures.end, length-decimal-le 3 c.args.number (omega arith) (omega arith) (omega arith))

pub digits-requires : goal.digits-requires
digits-requires c = (omega arith, omega (arith, length-decimal-le 3 c.args.number (omega arith) (omega arith) (omega arith)))

pub returns-clause-longest : goal.returns-clause-longest
returns-clause-longest c = omega (arith, c.digits.ensures.end, length-decimal-le 3 c.args.number (omega arith) (omega arith) (omega arith))
