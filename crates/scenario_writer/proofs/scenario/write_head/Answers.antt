use Rattle.std.proofs.Common.{◌∙◌, [], ◌∷◌, List}
use Rattle.std.proofs.lemmas.Result.{on_ok_weaker}
use Rattle.cs_types.specs.declared.scenario.Scenario.{Scenario}
use Rattle.scenario_text.specs.Words.{Word}
use Rattle.scenario_text.specs.Text.{line, version_words, siblings_words, limits_words}
use Rattle.cs_outside.proofs.Reached.{all_left, none_left, line_more, line_prefix}
use Rattle.scenario_writer.proofs.scenario.write_head.Goals as goal

abbrev lines : Scenario → List (List Word)
lines scenario = version_words scenario.version ∷ siblings_words scenario ∷ limits_words scenario ∷ []

pub returns-in_err-write_all-clause-prefix : goal.returns-in_err-write_all-clause-prefix
returns-in_err-write_all-clause-prefix g c =
    line_prefix _ _ _ _ _ _ _ (all_left line (g.K.Sink.written c.args.sink.now) (lines c.args.scenario.now))
    (c.as_bytes.ensures ∙ c.version_line.ensures) c.write_all.ensures.prefix

pub returns-in_err-write_all-2-clause-prefix : goal.returns-in_err-write_all-2-clause-prefix
returns-in_err-write_all-2-clause-prefix g c =
    line_prefix _ _ _ _ _ _ _ (line_more _ _ _ _ _ _ _
    (all_left line (g.K.Sink.written c.args.sink.now) (lines c.args.scenario.now))
    (c.as_bytes.ensures ∙ c.version_line.ensures) c.in_ok-write_all.ensures.ok)
    (c.as_bytes-2.ensures ∙ c.siblings_line.ensures) c.write_all-2.ensures.prefix

pub returns-clause-ok : goal.returns-clause-ok
returns-clause-ok g c =
    on_ok_weaker c.write_all-3.result (λ sent. none_left _ _ _ (line_more _ _ _ _ _ _ _
    (line_more _ _ _ _ _ _ _
    (line_more _ _ _ _ _ _ _
    (all_left line (g.K.Sink.written c.args.sink.now) (lines c.args.scenario.now))
    (c.as_bytes.ensures ∙ c.version_line.ensures) c.in_ok-write_all.ensures.ok)
    (c.as_bytes-2.ensures ∙ c.siblings_line.ensures) c.in_ok-write_all-2.ensures.ok)
    (c.as_bytes-3.ensures ∙ c.limits_line.ensures) sent)) c.write_all-3.ensures.ok

pub returns-clause-prefix : goal.returns-clause-prefix
returns-clause-prefix g c =
    line_prefix _ _ _ _ _ _ _ (line_more _ _ _ _ _ _ _
    (line_more _ _ _ _ _ _ _
    (all_left line (g.K.Sink.written c.args.sink.now) (lines c.args.scenario.now))
    (c.as_bytes.ensures ∙ c.version_line.ensures) c.in_ok-write_all.ensures.ok)
    (c.as_bytes-2.ensures ∙ c.siblings_line.ensures) c.in_ok-write_all-2.ensures.ok)
    (c.as_bytes-3.ensures ∙ c.limits_line.ensures) c.write_all-3.ensures.prefix
