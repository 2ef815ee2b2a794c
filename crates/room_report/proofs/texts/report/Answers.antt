use Rattle.std.proofs.Common.{◌≡◌, refl}
use Rattle.std.proofs.lemmas.Result.{on_ok_weaker}
use Rattle.cs_types.specs.History.{moment_of}
use Rattle.cs_outside.specs.Device.{appended}
use Rattle.room_report.specs.Report.{core_lines, cpu_lines, task_lines, ended_lines, guard_lines, report_text}
use Rattle.cs_outside.proofs.Reached.{none_left, line_more, line_prefix, part_more, part_prefix}
use Rattle.room_report.proofs.Left.{after_core, after_siblings, after_tasks, after_ended, done_lines, report_left}
use Rattle.room_report.proofs.texts.report.Goals as goal

pub returns-in_err-write_core-clause-prefix : goal.returns-in_err-write_core-clause-prefix
returns-in_err-write_core-clause-prefix g c =
    part_prefix _ _ (core_lines (moment_of (g.R.Room.opening c.args.room.now) (g.R.Room.history c.args.room.now))) (after_core (moment_of (g.R.Room.opening c.args.room.now) (g.R.Room.history c.args.room.now))) _ _ (report_left (g.K.Sink.written c.args.sink.now) (moment_of (g.R.Room.opening c.args.room.now) (g.R.Room.history c.args.room.now)))
    c.write_core.ensures.prefix

pub returns-in_err-write_siblings-clause-prefix : goal.returns-in_err-write_siblings-clause-prefix
returns-in_err-write_siblings-clause-prefix g c =
    part_prefix _ _ (cpu_lines (moment_of (g.R.Room.opening c.args.room.now) (g.R.Room.history c.args.room.now))) (after_siblings (moment_of (g.R.Room.opening c.args.room.now) (g.R.Room.history c.args.room.now))) _ _ (part_more _ _ (core_lines (moment_of (g.R.Room.opening c.args.room.now) (g.R.Room.history c.args.room.now))) (after_core (moment_of (g.R.Room.opening c.args.room.now) (g.R.Room.history c.args.room.now))) _ _
    (report_left (g.K.Sink.written c.args.sink.now) (moment_of (g.R.Room.opening c.args.room.now) (g.R.Room.history c.args.room.now)))
    c.in_ok-write_core.ensures.ok)
    c.write_siblings.ensures.prefix

pub returns-in_err-write_tasks-clause-prefix : goal.returns-in_err-write_tasks-clause-prefix
returns-in_err-write_tasks-clause-prefix g c =
    part_prefix _ _ (task_lines (moment_of (g.R.Room.opening c.args.room.now) (g.R.Room.history c.args.room.now))) (after_tasks (moment_of (g.R.Room.opening c.args.room.now) (g.R.Room.history c.args.room.now))) _ _ (part_more _ _ (cpu_lines (moment_of (g.R.Room.opening c.args.room.now) (g.R.Room.history c.args.room.now))) (after_siblings (moment_of (g.R.Room.opening c.args.room.now) (g.R.Room.history c.args.room.now))) _ _
    (part_more _ _ (core_lines (moment_of (g.R.Room.opening c.args.room.now) (g.R.Room.history c.args.room.now))) (after_core (moment_of (g.R.Room.opening c.args.room.now) (g.R.Room.history c.args.room.now))) _ _
    (report_left (g.K.Sink.written c.args.sink.now) (moment_of (g.R.Room.opening c.args.room.now) (g.R.Room.history c.args.room.now)))
    c.in_ok-write_core.ensures.ok)
    c.in_ok-write_siblings.ensures.ok)
    c.write_tasks.ensures.prefix

pub returns-in_err-write_ended-clause-prefix : goal.returns-in_err-write_ended-clause-prefix
returns-in_err-write_ended-clause-prefix g c =
    part_prefix _ _ (ended_lines (moment_of (g.R.Room.opening c.args.room.now) (g.R.Room.history c.args.room.now))) (after_ended (moment_of (g.R.Room.opening c.args.room.now) (g.R.Room.history c.args.room.now))) _ _ (part_more _ _ (task_lines (moment_of (g.R.Room.opening c.args.room.now) (g.R.Room.history c.args.room.now))) (after_tasks (moment_of (g.R.Room.opening c.args.room.now) (g.R.Room.history c.args.room.now))) _ _
    (part_more _ _ (cpu_lines (moment_of (g.R.Room.opening c.args.room.now) (g.R.Room.history c.args.room.now))) (after_siblings (moment_of (g.R.Room.opening c.args.room.now) (g.R.Room.history c.args.room.now))) _ _
    (part_more _ _ (core_lines (moment_of (g.R.Room.opening c.args.room.now) (g.R.Room.history c.args.room.now))) (after_core (moment_of (g.R.Room.opening c.args.room.now) (g.R.Room.history c.args.room.now))) _ _
    (report_left (g.K.Sink.written c.args.sink.now) (moment_of (g.R.Room.opening c.args.room.now) (g.R.Room.history c.args.room.now)))
    c.in_ok-write_core.ensures.ok)
    c.in_ok-write_siblings.ensures.ok)
    c.in_ok-write_tasks.ensures.ok)
    c.write_ended.ensures.prefix

pub returns-in_err-write_guards-clause-prefix : goal.returns-in_err-write_guards-clause-prefix
returns-in_err-write_guards-clause-prefix g c =
    part_prefix _ _ (guard_lines (moment_of (g.R.Room.opening c.args.room.now) (g.R.Room.history c.args.room.now))) done_lines _ _ (part_more _ _ (ended_lines (moment_of (g.R.Room.opening c.args.room.now) (g.R.Room.history c.args.room.now))) (after_ended (moment_of (g.R.Room.opening c.args.room.now) (g.R.Room.history c.args.room.now))) _ _
    (part_more _ _ (task_lines (moment_of (g.R.Room.opening c.args.room.now) (g.R.Room.history c.args.room.now))) (after_tasks (moment_of (g.R.Room.opening c.args.room.now) (g.R.Room.history c.args.room.now))) _ _
    (part_more _ _ (cpu_lines (moment_of (g.R.Room.opening c.args.room.now) (g.R.Room.history c.args.room.now))) (after_siblings (moment_of (g.R.Room.opening c.args.room.now) (g.R.Room.history c.args.room.now))) _ _
    (part_more _ _ (core_lines (moment_of (g.R.Room.opening c.args.room.now) (g.R.Room.history c.args.room.now))) (after_core (moment_of (g.R.Room.opening c.args.room.now) (g.R.Room.history c.args.room.now))) _ _
    (report_left (g.K.Sink.written c.args.sink.now) (moment_of (g.R.Room.opening c.args.room.now) (g.R.Room.history c.args.room.now)))
    c.in_ok-write_core.ensures.ok)
    c.in_ok-write_siblings.ensures.ok)
    c.in_ok-write_tasks.ensures.ok)
    c.in_ok-write_ended.ensures.ok)
    c.write_guards.ensures.prefix

pub returns-clause-ok : goal.returns-clause-ok
returns-clause-ok g c =
    on_ok_weaker {Q = g.K.Sink.written c.write_all.new.sink ≡ appended (g.K.Sink.written c.args.sink.now) (report_text (moment_of (g.R.Room.opening c.args.room.now) (g.R.Room.history c.args.room.now)))} c.write_all.result (λ sent. none_left _ _ _ (line_more _ _ _ _ _ _ _
    (part_more _ _ (guard_lines (moment_of (g.R.Room.opening c.args.room.now) (g.R.Room.history c.args.room.now))) done_lines _ _
    (part_more _ _ (ended_lines (moment_of (g.R.Room.opening c.args.room.now) (g.R.Room.history c.args.room.now))) (after_ended (moment_of (g.R.Room.opening c.args.room.now) (g.R.Room.history c.args.room.now))) _ _
    (part_more _ _ (task_lines (moment_of (g.R.Room.opening c.args.room.now) (g.R.Room.history c.args.room.now))) (after_tasks (moment_of (g.R.Room.opening c.args.room.now) (g.R.Room.history c.args.room.now))) _ _
    (part_more _ _ (cpu_lines (moment_of (g.R.Room.opening c.args.room.now) (g.R.Room.history c.args.room.now))) (after_siblings (moment_of (g.R.Room.opening c.args.room.now) (g.R.Room.history c.args.room.now))) _ _
    (part_more _ _ (core_lines (moment_of (g.R.Room.opening c.args.room.now) (g.R.Room.history c.args.room.now))) (after_core (moment_of (g.R.Room.opening c.args.room.now) (g.R.Room.history c.args.room.now))) _ _
    (report_left (g.K.Sink.written c.args.sink.now) (moment_of (g.R.Room.opening c.args.room.now) (g.R.Room.history c.args.room.now)))
    c.in_ok-write_core.ensures.ok)
    c.in_ok-write_siblings.ensures.ok)
    c.in_ok-write_tasks.ensures.ok)
    c.in_ok-write_ended.ensures.ok)
    c.in_ok-write_guards.ensures.ok)
    refl sent)) c.write_all.ensures.ok

pub returns-clause-prefix : goal.returns-clause-prefix
returns-clause-prefix g c =
    line_prefix _ _ _ _ _ _ _ (part_more _ _ (guard_lines (moment_of (g.R.Room.opening c.args.room.now) (g.R.Room.history c.args.room.now))) done_lines _ _
    (part_more _ _ (ended_lines (moment_of (g.R.Room.opening c.args.room.now) (g.R.Room.history c.args.room.now))) (after_ended (moment_of (g.R.Room.opening c.args.room.now) (g.R.Room.history c.args.room.now))) _ _
    (part_more _ _ (task_lines (moment_of (g.R.Room.opening c.args.room.now) (g.R.Room.history c.args.room.now))) (after_tasks (moment_of (g.R.Room.opening c.args.room.now) (g.R.Room.history c.args.room.now))) _ _
    (part_more _ _ (cpu_lines (moment_of (g.R.Room.opening c.args.room.now) (g.R.Room.history c.args.room.now))) (after_siblings (moment_of (g.R.Room.opening c.args.room.now) (g.R.Room.history c.args.room.now))) _ _
    (part_more _ _ (core_lines (moment_of (g.R.Room.opening c.args.room.now) (g.R.Room.history c.args.room.now))) (after_core (moment_of (g.R.Room.opening c.args.room.now) (g.R.Room.history c.args.room.now))) _ _
    (report_left (g.K.Sink.written c.args.sink.now) (moment_of (g.R.Room.opening c.args.room.now) (g.R.Room.history c.args.room.now)))
    c.in_ok-write_core.ensures.ok)
    c.in_ok-write_siblings.ensures.ok)
    c.in_ok-write_tasks.ensures.ok)
    c.in_ok-write_ended.ensures.ok)
    c.in_ok-write_guards.ensures.ok)
    refl c.write_all.ensures.prefix
