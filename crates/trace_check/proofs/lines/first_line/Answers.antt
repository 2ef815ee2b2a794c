use Rattle.std.proofs.Common.{subst}
use Rattle.trace_check.proofs.Texts.{found, cut_found, none_found, first-cut, first-whole}
use Rattle.trace_check.proofs.lines.first_line.Goals as goal

pub returns-in-Some-clause-some : goal.returns-in-Some-clause-some
returns-in-Some-clause-some c some =
    let cut = cut_found 10 c.args.text.now c.in-Some.end (subst (λ r. found 10 c.args.text.now r) c.in-Some.is c.memchr.ensures) in
    first-cut c.args.text.now c.in-Some.end cut _ _ c.split_at.ensures.front c.split_at.ensures.back

pub returns-in-None-clause-some : goal.returns-in-None-clause-some
returns-in-None-clause-some c some =
    first-whole c.args.text.now (none_found 10 c.args.text.now (subst (λ r. found 10 c.args.text.now r) c.in-None.is c.memchr.ensures))
    _ _ c.split_at-in-None.ensures.front c.split_at-in-None.ensures.back some
