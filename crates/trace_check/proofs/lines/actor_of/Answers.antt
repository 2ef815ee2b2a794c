use Rattle.std.proofs.Common.{◌∙◌, ap, subst}
use Rattle.trace_check.specs.Scripts.{named_actor}
use Rattle.trace_check.proofs.Texts.{found, cut_found, none_found}
use Rattle.trace_check.proofs.Actors.{named_again, begins_with_none, word_before}
use Rattle.trace_check.proofs.lines.actor_of.Goals as goal

pub returns-in_err-end-clause-begins : goal.returns-in_err-end-clause-begins
returns-in_err-end-clause-begins c actor known begins =
    absurd (begins_with_none c.args.line.now actor
    (none_found 32 c.args.line.now (subst (λ r. found 32 c.args.line.now r) c.in_err-end.was c.memchr.ensures)) begins)

pub returns-clause-begins : goal.returns-clause-begins
returns-clause-begins c actor known begins =
    let cut = cut_found 32 c.args.line.now c.in_ok-end.end (subst (λ r. found 32 c.args.line.now r) c.in_ok-end.was c.memchr.ensures) in
    c.named_actor.ensures.named ∙ ap named_actor (word_before c.args.line.now _ _ actor known cut.is cut.before begins) ∙ named_again actor known
