use Rattle.std.proofs.Common.{arith}
use Rattle.std.proofs.lemmas.Int.{ints}
use Rattle.scenario_text.proofs.number.parse_signed.Goals as goal

pub overflow_cast-result : goal.overflow_cast-result
overflow_cast-result c = omega (arith, ints, c.in_ok-parse_number-in-45.ensures.within.1)

pub overflow_sub-result : goal.overflow_sub-result
overflow_sub-result c = omega (arith, ints, c.in_ok-parse_number-in-45.ensures.within.1)

pub overflow_cast-result-in_default : goal.overflow_cast-result-in_default
overflow_cast-result-in_default c = omega (arith, ints, c.in_ok-parse_number-in_default.ensures.within.1)

pub returns-in_ok-parse_number-in-45-clause-least : goal.returns-in_ok-parse_number-in-45-clause-least
returns-in_ok-parse_number-in-45-clause-least c = omega (arith, ints, c.in_ok-parse_number-in-45.ensures.within.1)

pub returns-in_ok-parse_number-in-45-clause-most : goal.returns-in_ok-parse_number-in-45-clause-most
returns-in_ok-parse_number-in-45-clause-most c = omega (arith, ints, c.in_ok-parse_number-in-45.ensures.within.1)
