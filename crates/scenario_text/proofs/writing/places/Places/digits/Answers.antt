use Rattle.std.proofs.Common.{◌≡◌, ◌+◌, length, decimal, arith}
use Rattle.scenario_text.proofs.Placed.{digits_in}
use Rattle.scenario_text.proofs.writing.places.Places.digits.Goals as goal

pub counted-requires : goal.counted-requires
counted-requires c =
    let log = c.ilog10 in
    let count : log.result + 1 ≡ length (decimal c.args.number) = digits_in log.result c.args.number log.ensures.power_le log.ensures.next_power_gt (omega arith) in
    (count, omega (arith, count))

pub returns-clause-end : goal.returns-clause-end
returns-clause-end c =
    let log = c.ilog10 in
    omega (arith, c.counted.ensures.end, digits_in log.result c.args.number log.ensures.power_le log.ensures.next_power_gt (omega arith))
