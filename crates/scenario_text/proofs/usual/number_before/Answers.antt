use Rattle.std.proofs.Common.{◌∙◌, ap, sym, arith}
use Rattle.std.specs.Str.{all_ascii_digits}
use Rattle.scenario_text.specs.Grammar.{is_canonical, value}
use Rattle.scenario_text.proofs.UsualLines.{one_is, front_canonical, number_before_is}
use Rattle.scenario_text.proofs.usual.number_before.Goals as goal

pub returns-in-len1-up : goal.returns-in-len1-up
returns-in-len1-up c =
    let text = c.args.text.now in
    let word = c.split_at.result.0.now in
    let behind = c.split_at.result.1.now in
    let number = c.first_digits-number.result.0 in
    let is = c.split_at.ensures in
    let found = c.first_digits-number.ensures in
    number_before_is c.args.low c.args.high text word behind _ number c.args.end (omega arith)
    is.by_index.0
    (one_is behind c.args.end c.in-len1-up.len_at_least c.if-byte-end.true)
    (ap is_canonical is.front ∙ front_canonical text c.first_digits-number.result.1 found.some (omega arith) (omega arith) (omega arith))
    (ap all_ascii_digits is.front ∙ found.digits)
    (found.spelled ∙ ap value (sym is.front))
    (omega (arith, c.requires, found.least), omega arith)
