use Rattle.std.proofs.Common.{arith}
use Rattle.scenario_text.proofs.UsualLines.{two_is, digit_before_is}
use Rattle.scenario_text.proofs.usual.digit_before.Goals as goal

pub returns-then-digit-most : goal.returns-then-digit-most
returns-then-digit-most c =
    let text = c.args.text.now in
    digit_before_is c.args.most _ c.args.end text _ (omega (arith, c.requires)) (omega arith)
    (two_is text _ c.args.end (omega arith) (omega arith) (omega arith))
