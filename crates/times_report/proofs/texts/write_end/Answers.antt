use Rattle.std.proofs.Common.{◌≡◌, ◌∙◌}
use Rattle.std.specs.List.{flat_map}
use Rattle.std.proofs.lemmas.Result.{on_ok_weaker}
use Rattle.cs_outside.specs.Device.{appended}
use Rattle.scenario_text.specs.Text.{line}
use Rattle.cs_outside.proofs.Reached.{all_left, none_left, line_more, line_prefix}
use Rattle.times_report.specs.Summary.{end_lines}
use Rattle.times_report.proofs.texts.write_end.Goals as goal

pub returns-in_err-write_all-clause-prefix : goal.returns-in_err-write_all-clause-prefix
returns-in_err-write_all-clause-prefix g c =
    line_prefix _ _ _ _ _ _ _ (all_left line (g.K.Sink.written c.args.sink.now) (end_lines c.args.times.now c.args.replies.now))
    (c.as_bytes.ensures ∙ c.pending_line.ensures) c.write_all.ensures.prefix

pub returns-in_err-write_all-2-clause-prefix : goal.returns-in_err-write_all-2-clause-prefix
returns-in_err-write_all-2-clause-prefix g c =
    line_prefix _ _ _ _ _ _ _
    (line_more _ _ _ _ _ _ _ (all_left line (g.K.Sink.written c.args.sink.now) (end_lines c.args.times.now c.args.replies.now))
    (c.as_bytes.ensures ∙ c.pending_line.ensures) c.in_ok-write_all.ensures.ok)
    (c.as_bytes-2.ensures ∙ c.replies_line.ensures) c.write_all-2.ensures.prefix

pub returns-clause-ok : goal.returns-clause-ok
returns-clause-ok g c =
    on_ok_weaker {Q = g.K.Sink.written c.write_all-3.new.sink ≡ appended (g.K.Sink.written c.args.sink.now) (flat_map line (end_lines c.args.times.now c.args.replies.now))} c.write_all-3.result
    (λ sent. none_left _ _ _ (line_more _ _ _ _ _ _ _
    (line_more _ _ _ _ _ _ _
    (line_more _ _ _ _ _ _ _ (all_left line (g.K.Sink.written c.args.sink.now) (end_lines c.args.times.now c.args.replies.now))
    (c.as_bytes.ensures ∙ c.pending_line.ensures) c.in_ok-write_all.ensures.ok)
    (c.as_bytes-2.ensures ∙ c.replies_line.ensures) c.in_ok-write_all-2.ensures.ok)
    (c.as_bytes-3.ensures ∙ c.total_line.ensures) sent)) c.write_all-3.ensures.ok

pub returns-clause-prefix : goal.returns-clause-prefix
returns-clause-prefix g c =
    line_prefix _ _ _ _ _ _ _
    (line_more _ _ _ _ _ _ _
    (line_more _ _ _ _ _ _ _ (all_left line (g.K.Sink.written c.args.sink.now) (end_lines c.args.times.now c.args.replies.now))
    (c.as_bytes.ensures ∙ c.pending_line.ensures) c.in_ok-write_all.ensures.ok)
    (c.as_bytes-2.ensures ∙ c.replies_line.ensures) c.in_ok-write_all-2.ensures.ok)
    (c.as_bytes-3.ensures ∙ c.total_line.ensures) c.write_all-3.ensures.prefix
