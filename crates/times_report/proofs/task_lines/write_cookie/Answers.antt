use Rattle.std.proofs.Common.{◌≡◌, ◌∙◌, sym}
use Rattle.std.specs.List.{flat_map}
use Rattle.std.proofs.lemmas.Result.{on_ok_weaker}
use Rattle.cs_outside.specs.Device.{appended}
use Rattle.scenario_text.specs.Text.{line}
use Rattle.times_report.specs.TaskLines.{cookie_words, line_of_cookie}
use Rattle.times_report.proofs.Rows.{where_sent, where_prefix, where_none, where_none_prefix}
use Rattle.times_report.proofs.task_lines.write_cookie.Goals as goal

pub returns-then-is_shown-clause-ok : goal.returns-then-is_shown-clause-ok
returns-then-is_shown-clause-ok g c =
    on_ok_weaker {Q = g.K.Sink.written c.write_all.new.sink ≡ appended (g.K.Sink.written c.args.sink.now) (flat_map line (line_of_cookie (c.args.cookie, c.args.times.now)))} c.write_all.result
    (λ sent. where_sent _ (cookie_words c.args.cookie c.args.times.now) _ _ _ (sym c.is_shown.ensures ∙ c.if-is_shown.true) (c.as_bytes.ensures ∙ c.cookie_line.ensures) sent) c.write_all.ensures.ok

pub returns-then-is_shown-clause-prefix : goal.returns-then-is_shown-clause-prefix
returns-then-is_shown-clause-prefix g c =
    where_prefix _ (cookie_words c.args.cookie c.args.times.now) _ _ _ (sym c.is_shown.ensures ∙ c.if-is_shown.true) (c.as_bytes.ensures ∙ c.cookie_line.ensures) c.write_all.ensures.prefix

pub returns-else-is_shown-clause-ok : goal.returns-else-is_shown-clause-ok
returns-else-is_shown-clause-ok g c = where_none _ (cookie_words c.args.cookie c.args.times.now) _ (sym c.is_shown.ensures ∙ c.if-is_shown.false)

pub returns-else-is_shown-clause-prefix : goal.returns-else-is_shown-clause-prefix
returns-else-is_shown-clause-prefix g c = where_none_prefix _ (cookie_words c.args.cookie c.args.times.now) _ (sym c.is_shown.ensures ∙ c.if-is_shown.false)
