use Rattle.std.proofs.Common.{◌≡◌, ◌∙◌, sym}
use Rattle.std.specs.List.{flat_map}
use Rattle.std.proofs.lemmas.Result.{on_ok_weaker}
use Rattle.cs_outside.specs.Device.{appended}
use Rattle.scenario_text.specs.Text.{line}
use Rattle.times_report.specs.WaitLines.{wait_words, line_of_waits}
use Rattle.times_report.proofs.Rows.{where_sent, where_prefix, where_none, where_none_prefix}
use Rattle.times_report.proofs.wait_lines.write_task_waits.Goals as goal

pub returns-then-has_waited-clause-ok : goal.returns-then-has_waited-clause-ok
returns-then-has_waited-clause-ok g c =
    on_ok_weaker {Q = g.K.Sink.written c.write_all.new.sink ≡ appended (g.K.Sink.written c.args.sink.now) (flat_map line (line_of_waits (c.args.pid, c.args.waits.now)))} c.write_all.result
    (λ sent. where_sent _ (wait_words c.args.pid c.args.waits.now) _ _ _ (sym c.has_waited.ensures ∙ c.if-has_waited.true) (c.as_bytes.ensures ∙ c.wait_line.ensures) sent) c.write_all.ensures.ok

pub returns-then-has_waited-clause-prefix : goal.returns-then-has_waited-clause-prefix
returns-then-has_waited-clause-prefix g c =
    where_prefix _ (wait_words c.args.pid c.args.waits.now) _ _ _ (sym c.has_waited.ensures ∙ c.if-has_waited.true) (c.as_bytes.ensures ∙ c.wait_line.ensures) c.write_all.ensures.prefix

pub returns-else-has_waited-clause-ok : goal.returns-else-has_waited-clause-ok
returns-else-has_waited-clause-ok g c = where_none _ (wait_words c.args.pid c.args.waits.now) _ (sym c.has_waited.ensures ∙ c.if-has_waited.false)

pub returns-else-has_waited-clause-prefix : goal.returns-else-has_waited-clause-prefix
returns-else-has_waited-clause-prefix g c = where_none_prefix _ (wait_words c.args.pid c.args.waits.now) _ (sym c.has_waited.ensures ∙ c.if-has_waited.false)
