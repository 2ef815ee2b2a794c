use Rattle.std.proofs.Common.{ℕ, refl, ap, ◌∙◌}
use Rattle.std.proofs.lemmas.Result.{on_ok_weaker}
use Rattle.cs_types.specs.declared.view.CoreView.{CoreView}
use Rattle.cs_types.specs.History.{moment_of}
use Rattle.scenario_text.specs.Text.{line}
use Rattle.room_report.specs.Report.{part_text, clock_words, numbers_words, core_words, intervals_words, core_lines}
use Rattle.cs_outside.proofs.Reached.{all_left, none_left, line_more, line_prefix}
use Rattle.room_report.proofs.parts.write_core.Goals as goal

pub returns-in_err-write_all-clause-prefix : goal.returns-in_err-write_all-clause-prefix
returns-in_err-write_all-clause-prefix g c =
    line_prefix _ _ _ _ _ _ _ (all_left line (g.K.Sink.written c.args.sink.now) (core_lines (moment_of (g.R.Room.opening c.args.room.now) (g.R.Room.history c.args.room.now))))
    refl c.write_all.ensures.prefix

pub returns-in_err-write_all-2-clause-prefix : goal.returns-in_err-write_all-2-clause-prefix
returns-in_err-write_all-2-clause-prefix g c =
    line_prefix _ _ _ _ _ _ _ (line_more _ _ _ _ _ _ _
    (all_left line (g.K.Sink.written c.args.sink.now) (core_lines (moment_of (g.R.Room.opening c.args.room.now) (g.R.Room.history c.args.room.now))))
    refl c.in_ok-write_all.ensures.ok)
    (c.as_bytes.ensures ∙ c.clock_line.ensures ∙ ap (λ (n : ℕ). line (clock_words n)) c.clock.ensures) c.write_all-2.ensures.prefix

pub returns-in_err-write_all-3-clause-prefix : goal.returns-in_err-write_all-3-clause-prefix
returns-in_err-write_all-3-clause-prefix g c =
    line_prefix _ _ _ _ _ _ _ (line_more _ _ _ _ _ _ _
    (line_more _ _ _ _ _ _ _
    (all_left line (g.K.Sink.written c.args.sink.now) (core_lines (moment_of (g.R.Room.opening c.args.room.now) (g.R.Room.history c.args.room.now))))
    refl c.in_ok-write_all.ensures.ok)
    (c.as_bytes.ensures ∙ c.clock_line.ensures ∙ ap (λ (n : ℕ). line (clock_words n)) c.clock.ensures) c.in_ok-write_all-2.ensures.ok)
    (c.as_bytes-2.ensures ∙ c.numbers_line.ensures ∙ ap (λ (n : ℕ × ℕ). line (numbers_words n.0 n.1)) c.numbers-task_number.ensures) c.write_all-3.ensures.prefix

pub returns-in_err-write_all-4-clause-prefix : goal.returns-in_err-write_all-4-clause-prefix
returns-in_err-write_all-4-clause-prefix g c =
    line_prefix _ _ _ _ _ _ _ (line_more _ _ _ _ _ _ _
    (line_more _ _ _ _ _ _ _
    (line_more _ _ _ _ _ _ _
    (all_left line (g.K.Sink.written c.args.sink.now) (core_lines (moment_of (g.R.Room.opening c.args.room.now) (g.R.Room.history c.args.room.now))))
    refl c.in_ok-write_all.ensures.ok)
    (c.as_bytes.ensures ∙ c.clock_line.ensures ∙ ap (λ (n : ℕ). line (clock_words n)) c.clock.ensures) c.in_ok-write_all-2.ensures.ok)
    (c.as_bytes-2.ensures ∙ c.numbers_line.ensures ∙ ap (λ (n : ℕ × ℕ). line (numbers_words n.0 n.1)) c.numbers-task_number.ensures) c.in_ok-write_all-3.ensures.ok)
    (c.as_bytes-3.ensures ∙ c.core_line.ensures ∙ ap (λ (core : CoreView). line (core_words core)) c.core-core.ensures.view) c.write_all-4.ensures.prefix

pub returns-clause-ok : goal.returns-clause-ok
returns-clause-ok g c =
    on_ok_weaker c.write_all-5.result (λ sent. none_left (g.K.Sink.written c.args.sink.now)
    (part_text core_lines (g.R.Room.opening c.args.room.now) (g.R.Room.history c.args.room.now)) (g.K.Sink.written c.write_all-5.new.sink) (line_more _ _ _ _ _ _ _
    (line_more _ _ _ _ _ _ _
    (line_more _ _ _ _ _ _ _
    (line_more _ _ _ _ _ _ _
    (line_more _ _ _ _ _ _ _
    (all_left line (g.K.Sink.written c.args.sink.now) (core_lines (moment_of (g.R.Room.opening c.args.room.now) (g.R.Room.history c.args.room.now))))
    refl c.in_ok-write_all.ensures.ok)
    (c.as_bytes.ensures ∙ c.clock_line.ensures ∙ ap (λ (n : ℕ). line (clock_words n)) c.clock.ensures) c.in_ok-write_all-2.ensures.ok)
    (c.as_bytes-2.ensures ∙ c.numbers_line.ensures ∙ ap (λ (n : ℕ × ℕ). line (numbers_words n.0 n.1)) c.numbers-task_number.ensures) c.in_ok-write_all-3.ensures.ok)
    (c.as_bytes-3.ensures ∙ c.core_line.ensures ∙ ap (λ (core : CoreView). line (core_words core)) c.core-core.ensures.view) c.in_ok-write_all-4.ensures.ok)
    (c.as_bytes-4.ensures ∙ c.intervals_line.ensures ∙ ap (λ (core : CoreView). line (intervals_words core)) c.core-core.ensures.view) sent)) c.write_all-5.ensures.ok

pub returns-clause-prefix : goal.returns-clause-prefix
returns-clause-prefix g c =
    line_prefix _ _ _ _ _ _ _ (line_more _ _ _ _ _ _ _
    (line_more _ _ _ _ _ _ _
    (line_more _ _ _ _ _ _ _
    (line_more _ _ _ _ _ _ _
    (all_left line (g.K.Sink.written c.args.sink.now) (core_lines (moment_of (g.R.Room.opening c.args.room.now) (g.R.Room.history c.args.room.now))))
    refl c.in_ok-write_all.ensures.ok)
    (c.as_bytes.ensures ∙ c.clock_line.ensures ∙ ap (λ (n : ℕ). line (clock_words n)) c.clock.ensures) c.in_ok-write_all-2.ensures.ok)
    (c.as_bytes-2.ensures ∙ c.numbers_line.ensures ∙ ap (λ (n : ℕ × ℕ). line (numbers_words n.0 n.1)) c.numbers-task_number.ensures) c.in_ok-write_all-3.ensures.ok)
    (c.as_bytes-3.ensures ∙ c.core_line.ensures ∙ ap (λ (core : CoreView). line (core_words core)) c.core-core.ensures.view) c.in_ok-write_all-4.ensures.ok)
    (c.as_bytes-4.ensures ∙ c.intervals_line.ensures ∙ ap (λ (core : CoreView). line (intervals_words core)) c.core-core.ensures.view) c.write_all-5.ensures.prefix
