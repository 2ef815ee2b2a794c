use Rattle.std.proofs.Common.{◌≡◌, [], refl, sym, drop}
use Rattle.std.specs.List.{flat_map}
use Rattle.std.proofs.lemmas.List.{append-nil}
use Rattle.std.proofs.lemmas.Result.{on_ok_weaker}
use Rattle.cs_types.specs.History.{moment_of}
use Rattle.cs_outside.specs.Device.{appended}
use Rattle.scenario_text.specs.Text.{entry_text}
use Rattle.room_report.specs.Report.{report_text, output_from}
use Rattle.cs_outside.proofs.Reached.{reached_start, reached_more, reached_prefix, reached_end}
use Rattle.room_report.proofs.texts.output_from.Goals as goal

pub returns-in_err-write_entries-clause-prefix : goal.returns-in_err-write_entries-clause-prefix
returns-in_err-write_entries-clause-prefix g c =
    let history = g.R.Room.history c.args.room.now in
    let whole = output_from (g.R.Room.opening c.args.room.now) c.args.from history in
    reached_prefix _ _ _ (flat_map entry_text (drop c.args.from history)) (report_text (moment_of (g.R.Room.opening c.args.room.now) history)) _ _ _
    (reached_start (g.K.Sink.written c.args.sink.now) whole whole refl) refl refl c.write_entries.ensures.prefix

pub returns-clause-ok : goal.returns-clause-ok
returns-clause-ok g c =
    let history = g.R.Room.history c.args.room.now in
    let before = g.K.Sink.written c.args.sink.now in
    let mid = g.K.Sink.written c.write_entries.new.sink in
    let now = g.K.Sink.written c.report.new.sink in
    let entries = flat_map entry_text (drop c.args.from history) in
    let shown = report_text (moment_of (g.R.Room.opening c.args.room.now) history) in
    let whole = output_from (g.R.Room.opening c.args.room.now) c.args.from history in
    on_ok_weaker {P = now ≡ appended mid shown} {Q = now ≡ appended before whole} c.report.result (λ sent. reached_end before whole [] now (reached_more before whole shown shown [] shown mid now
    (reached_more before whole whole entries shown entries before mid (reached_start before whole whole refl) refl refl c.in_ok-write_entries.ensures.ok)
    (sym (append-nil shown)) refl sent) refl) c.report.ensures.ok

pub returns-clause-prefix : goal.returns-clause-prefix
returns-clause-prefix g c =
    let history = g.R.Room.history c.args.room.now in
    let shown = report_text (moment_of (g.R.Room.opening c.args.room.now) history) in
    let whole = output_from (g.R.Room.opening c.args.room.now) c.args.from history in
    reached_prefix _ _ _ shown [] _ _ _
    (reached_more _ _ _ (flat_map entry_text (drop c.args.from history)) shown _ _ _ (reached_start (g.K.Sink.written c.args.sink.now) whole whole refl) refl refl c.in_ok-write_entries.ensures.ok)
    (sym (append-nil shown)) refl c.report.ensures.prefix
