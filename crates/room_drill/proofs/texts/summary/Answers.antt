use Rattle.std.proofs.Common.{◌≡◌, ℕ, [], ap, ◌∙◌}
use Rattle.std.proofs.lemmas.Result.{on_ok_weaker}
use Rattle.cs_types.specs.History.{moment_of}
use Rattle.cs_outside.specs.Device.{appended}
use Rattle.scenario_text.specs.Text.{line}
use Rattle.cs_outside.proofs.Reached.{line_more, line_prefix, part_prefix}
use Rattle.room_report.specs.Report.{report_lines, report_text}
use Rattle.room_drill.specs.declared.tally.Tally.{Tally}
use Rattle.room_drill.specs.Summary.{drill_words, picks_words, steals_words, summary_text}
use Rattle.room_drill.proofs.Summaries.{summary_left, report_sent}
use Rattle.room_drill.proofs.texts.summary.Goals as goal

pub returns-in_err-write_all-clause-prefix : goal.returns-in_err-write_all-clause-prefix
returns-in_err-write_all-clause-prefix g c =
    line_prefix _ _ _ _ _ _ _ (summary_left (g.K.Sink.written c.args.sink.now) c.args.seed (g.R.Room.opening c.args.room.now) (g.R.Room.history c.args.room.now))
    (c.as_bytes.ensures ∙ c.drill_line.ensures ∙ ap (λ (n : ℕ). line (drill_words c.args.seed n)) c.length.ensures.length) c.write_all.ensures.prefix

pub returns-in_err-write_all-2-clause-prefix : goal.returns-in_err-write_all-2-clause-prefix
returns-in_err-write_all-2-clause-prefix g c =
    line_prefix _ _ _ _ _ _ _ (line_more _ _ _ _ _ _ _ (summary_left (g.K.Sink.written c.args.sink.now) c.args.seed (g.R.Room.opening c.args.room.now) (g.R.Room.history c.args.room.now))
    (c.as_bytes.ensures ∙ c.drill_line.ensures ∙ ap (λ (n : ℕ). line (drill_words c.args.seed n)) c.length.ensures.length) c.in_ok-write_all.ensures.ok)
    (c.as_bytes-2.ensures ∙ c.picks_line.ensures ∙ ap (λ (t : Tally). line (picks_words t)) c.count-tally.ensures) c.write_all-2.ensures.prefix

pub returns-in_err-write_all-3-clause-prefix : goal.returns-in_err-write_all-3-clause-prefix
returns-in_err-write_all-3-clause-prefix g c =
    line_prefix _ _ _ _ _ _ _ (line_more _ _ _ _ _ _ _ (line_more _ _ _ _ _ _ _ (summary_left (g.K.Sink.written c.args.sink.now) c.args.seed (g.R.Room.opening c.args.room.now) (g.R.Room.history c.args.room.now))
    (c.as_bytes.ensures ∙ c.drill_line.ensures ∙ ap (λ (n : ℕ). line (drill_words c.args.seed n)) c.length.ensures.length) c.in_ok-write_all.ensures.ok)
    (c.as_bytes-2.ensures ∙ c.picks_line.ensures ∙ ap (λ (t : Tally). line (picks_words t)) c.count-tally.ensures) c.in_ok-write_all-2.ensures.ok)
    (c.as_bytes-3.ensures ∙ c.steals_line.ensures ∙ ap (λ (t : Tally). line (steals_words t)) c.count-tally.ensures) c.write_all-3.ensures.prefix

pub returns-clause-ok : goal.returns-clause-ok
returns-clause-ok g c =
    let before = g.K.Sink.written c.args.sink.now in
    let mid = g.K.Sink.written c.write_all-3.new.sink in
    let now = g.K.Sink.written c.report.new.sink in
    let last = moment_of (g.R.Room.opening c.args.room.now) (g.R.Room.history c.args.room.now) in
    let whole = summary_text c.args.seed (g.R.Room.opening c.args.room.now) (g.R.Room.history c.args.room.now) in
    on_ok_weaker {P = now ≡ appended mid (report_text last)} {Q = now ≡ appended before whole} c.report.result (report_sent before whole last mid now (line_more _ _ _ _ _ _ _ (line_more _ _ _ _ _ _ _ (line_more _ _ _ _ _ _ _ (summary_left (g.K.Sink.written c.args.sink.now) c.args.seed (g.R.Room.opening c.args.room.now) (g.R.Room.history c.args.room.now))
    (c.as_bytes.ensures ∙ c.drill_line.ensures ∙ ap (λ (n : ℕ). line (drill_words c.args.seed n)) c.length.ensures.length) c.in_ok-write_all.ensures.ok)
    (c.as_bytes-2.ensures ∙ c.picks_line.ensures ∙ ap (λ (t : Tally). line (picks_words t)) c.count-tally.ensures) c.in_ok-write_all-2.ensures.ok)
    (c.as_bytes-3.ensures ∙ c.steals_line.ensures ∙ ap (λ (t : Tally). line (steals_words t)) c.count-tally.ensures) c.in_ok-write_all-3.ensures.ok))
    c.report.ensures.ok

pub returns-clause-prefix : goal.returns-clause-prefix
returns-clause-prefix g c =
    part_prefix _ _ (report_lines (moment_of (g.R.Room.opening c.args.room.now) (g.R.Room.history c.args.room.now))) [] _ _ (line_more _ _ _ _ _ _ _ (line_more _ _ _ _ _ _ _ (line_more _ _ _ _ _ _ _ (summary_left (g.K.Sink.written c.args.sink.now) c.args.seed (g.R.Room.opening c.args.room.now) (g.R.Room.history c.args.room.now))
    (c.as_bytes.ensures ∙ c.drill_line.ensures ∙ ap (λ (n : ℕ). line (drill_words c.args.seed n)) c.length.ensures.length) c.in_ok-write_all.ensures.ok)
    (c.as_bytes-2.ensures ∙ c.picks_line.ensures ∙ ap (λ (t : Tally). line (picks_words t)) c.count-tally.ensures) c.in_ok-write_all-2.ensures.ok)
    (c.as_bytes-3.ensures ∙ c.steals_line.ensures ∙ ap (λ (t : Tally). line (steals_words t)) c.count-tally.ensures) c.in_ok-write_all-3.ensures.ok)
    c.report.ensures.prefix
