use Rattle.std.proofs.Common.{ap, ◌∙◌}
use Rattle.std.proofs.lemmas.Result.{err_from_is_err_and}
use Rattle.scenario_text.specs.Reading.{lent, after}
use Rattle.scenario_text.proofs.Cuts.{lent-rest}
use Rattle.scenario_text.proofs.TaskLines.{creds_read, creds_are, creds_refused, right_user}
use Rattle.scenario_text.proofs.task.parse_user.Goals as goal

pub returns-in_err-creds : goal.returns-in_err-creds
returns-in_err-creds c =
    let fault = err_from_is_err_and c.from_residual.result c.from_residual.ensures.1 in
    rw (fault.1, fault.2)
    (creds_refused (lent c.args.words.now) c.in-len2-up.len_at_least c.requires _ (c.in_err-creds.ensures ∙ ap creds_read (lent-rest 2 c.args.words.now)))

pub returns : goal.returns
returns c =
    let words = lent c.args.words.now in
    let creds = creds_are (after 2 words) c.in_ok-creds.creds (c.in_ok-creds.ensures ∙ ap creds_read (lent-rest 2 c.args.words.now)) in
    let number = c.in_ok-number.ensures in
    right_user words c.in-len2-up.len_at_least c.requires _ c.in_ok-creds.creds creds number.0
    (λ i. record { number = number.1 i; creds = creds.said i })
