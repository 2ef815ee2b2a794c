use Rattle.std.proofs.Common.{◌≡◌, ◌∙◌, ap, ◌-◌, length, take, drop}
use Rattle.std.proofs.lemmas.Bool.{le-leb}
use Rattle.scenario_text.specs.Words.{Word}
use Rattle.scenario_text.specs.Reading.{after, lent, caller_step}
use Rattle.scenario_text.proofs.Cuts.{lent-rest}
use Rattle.scenario_text.proofs.step.parse_step.Goals as goal

pub returns-in-Some-strip_prefix : goal.returns-in-Some-strip_prefix
returns-in-Some-strip_prefix c =
    let words = c.args.words.now in
    let digits = c.in-Some-strip_prefix.digits.now in
    let call : c.parse_caller_step.result ≡ caller_step c.args.siblings digits (lent (take (length words - 2) (drop 2 words))) = c.parse_caller_step.ensures in
    rw (le-leb 2 _ c.in-len2-up.len_at_least, c.in_default-strip_prefix.ensures.cases, c.in-Some-strip_prefix.ensures.cases.0)
    (call
    ∙ ap (caller_step c.args.siblings digits) (lent-rest 2 words)
    ∙ ap (λ (word : Word). caller_step c.args.siblings word (after 2 (lent words))) c.in-Some-strip_prefix.ensures.cases.1)
