use Rattle.std.proofs.Common.{◌∙◌, sym}
use Rattle.scenario_text.proofs.Cuts.{first_is, uncut, cut_at}
use Rattle.scenario_text.proofs.pieces.cut.Goals as goal

pub returns-in_err-end-clause-pieces : goal.returns-in_err-end-clause-pieces
returns-in_err-end-clause-pieces c =
    let place = first_is c.args.separator c.args.bytes.now c.memchr.result c.memchr.ensures in
    rw c.from_residual.ensures (uncut c.args.separator c.args.bytes.now (sym c.in_err-end.was ∙ place))

pub returns-clause-pieces : goal.returns-clause-pieces
returns-clause-pieces c =
    let place = first_is c.args.separator c.args.bytes.now c.memchr.result c.memchr.ensures in
    cut_at c.args.separator c.args.bytes.now c.in_ok-end.end (sym c.in_ok-end.was ∙ place)
