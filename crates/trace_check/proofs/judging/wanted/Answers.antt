use Rattle.std.proofs.Common.{sym, ap, ◌∙◌, ◌++◌, ℕ, List}
use Rattle.std.specs.Prelude.{codes}
use Rattle.scenario_text.specs.Words.{made_words}
use Rattle.scenario_text.specs.Text.{spaced}
use Rattle.trace_check.proofs.Wanted.{named_line, other_line}
use Rattle.trace_check.proofs.judging.wanted.Goals as goal

pub returns-then-starts_with : goal.returns-then-starts_with
returns-then-starts_with c =
    named_line c.args.entry c.in-Some.entry c.args.line.now c.as_bytes.result.now c.entry.new.self c.in-Some.is
    (c.as_bytes.ensures ∙ c.text.ensures.text ∙ ap (λ (b : List ℕ). b ++ codes ": ") (c.made.ensures.text ∙ ap (λ (b : List ℕ). b ++ spaced (made_words c.in-Some.entry.actor c.in-Some.entry.event)) c.new-text.ensures))
    (sym c.starts_with.ensures.value ∙ c.if-starts_with.true) c.entry.ensures

pub returns-else-starts_with : goal.returns-else-starts_with
returns-else-starts_with c =
    other_line c.args.entry c.in-Some.entry c.args.line.now c.as_bytes.result.now c.clear.new.self c.in-Some.is
    (c.as_bytes.ensures ∙ c.text.ensures.text ∙ ap (λ (b : List ℕ). b ++ codes ": ") (c.made.ensures.text ∙ ap (λ (b : List ℕ). b ++ spaced (made_words c.in-Some.entry.actor c.in-Some.entry.event)) c.new-text.ensures))
    (sym c.starts_with.ensures.value ∙ c.if-starts_with.false) c.clear.ensures
