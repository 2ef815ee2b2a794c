use Rattle.std.proofs.Common.{arith}
use Rattle.std.proofs.lemmas.Fmt.{decimal_nonempty}
use Rattle.scenario_text.proofs.Placed.{digits_in}
use Rattle.scenario_text.proofs.writing.places.Places.number.Goals as goal

pub digit-requires : goal.digit-requires
digit-requires c = (c.if-number-lt10.true, omega (arith, decimal_nonempty c.args.number (omega arith)))

pub counted-requires : goal.counted-requires
counted-requires c =
    let count = digits_in 1 c.args.number (omega arith) (omega arith) (omega arith) in (count, omega (arith, count))

pub counted-requires-then-number-lt1000 : goal.counted-requires-then-number-lt1000
counted-requires-then-number-lt1000 c =
    let count = digits_in 2 c.args.number (omega arith) (omega arith) (omega arith) in (count, omega (arith, count))

pub counted-requires-then-number-lt10000 : goal.counted-requires-then-number-lt10000
counted-requires-then-number-lt10000 c =
    let count = digits_in 3 c.args.number (omega arith) (omega arith) (omega arith) in (count, omega (arith, count))

pub returns-then-number-lt100-clause-end : goal.returns-then-number-lt100-clause-end
returns-then-number-lt100-clause-end c =
    omega (arith, c.counted.ensures.end, digits_in 1 c.args.number (omega arith) (omega arith) (omega arith))

pub returns-then-number-lt1000-clause-end : goal.returns-then-number-lt1000-clause-end
returns-then-number-lt1000-clause-end c =
    omega (arith, c.counted-then-number-lt1000.ensures.end, digits_in 2 c.args.number (omega arith) (omega arith) (omega arith))

pub returns-then-number-lt10000-clause-end : goal.returns-then-number-lt10000-clause-end
returns-then-number-lt10000-clause-end c =
    omega (arith, c.counted-then-number-lt10000.ensures.end, digits_in 3 c.args.number (omega arith) (omega arith) (omega arith))
