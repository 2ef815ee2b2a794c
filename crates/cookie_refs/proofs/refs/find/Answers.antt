use Rattle.std.proofs.Common.{ap, ◌∙◌}
use Rattle.cookie_refs.specs.Inside.{count_in}
use Rattle.cookie_refs.proofs.Counts.{count_of_none}
use Rattle.cookie_refs.proofs.refs.find.Goals as goal

pub returns-then-cookie-eq0-clause-none : goal.returns-then-cookie-eq0-clause-none
returns-then-cookie-eq0-clause-none c =
    ap (count_in c.args.cookies.now) c.if-cookie-eq0.true ∙ count_of_none c.args.cookies.now c.requires.above_0
