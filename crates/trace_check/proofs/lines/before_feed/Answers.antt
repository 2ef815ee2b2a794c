use Rattle.std.proofs.Common.{◌∙◌, sym, ap, subst}
use Rattle.trace_check.specs.Lines.{without_feed}
use Rattle.trace_check.proofs.Texts.{found, cut_found, none_found, before-feed, before-none}
use Rattle.trace_check.proofs.lines.before_feed.Goals as goal

pub returns-in-Some : goal.returns-in-Some
returns-in-Some c =
    let cut = cut_found 10 c.args.line.now c.in-Some.end (subst (λ r. found 10 c.args.line.now r) c.in-Some.is c.memchr.ensures) in
    sym (ap without_feed cut.is ∙ before-feed _ _ cut.before)

pub returns-in-None : goal.returns-in-None
returns-in-None c =
    sym (before-none c.args.line.now (none_found 10 c.args.line.now (subst (λ r. found 10 c.args.line.now r) c.in-None.is c.memchr.ensures)))
