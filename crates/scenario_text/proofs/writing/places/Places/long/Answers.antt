use Rattle.std.proofs.Common.{arith}
use Rattle.std.proofs.lemmas.Fmt.{length-decimal-le}
use Rattle.scenario_text.proofs.writing.places.Places.long.Goals as goal

pub number-requires : goal.number-requires
number-requires c = omega (arith, length-decimal-le 20 c.args.number (omega arith) (omega arith) (omega arith))

pub returns-clause-longest : goal.returns-clause-longest
returns-clause-longest c = omega (arith, c.number.ensures.end, length-decimal-le 20 c.args.number (omega arith) (omega arith) (omega arith))
