use Rattle.std.proofs.Common.{◌≡◌}
use Rattle.std.proofs.lemmas.Result.{on_ok_weaker}
use Rattle.cs_outside.specs.Device.{appended}
use Rattle.times_report.specs.TaskLines.{task_text}
use Rattle.times_report.proofs.Rows.{both_out, both_prefix, first_prefix}
use Rattle.times_report.proofs.task_lines.task_summary.Goals as goal

pub returns-in_err-write_tasks-clause-prefix : goal.returns-in_err-write_tasks-clause-prefix
returns-in_err-write_tasks-clause-prefix g c =
    first_prefix c.args.times.now _ _ _ c.tasks.ensures.rows c.write_tasks.ensures.prefix

pub returns-clause-ok : goal.returns-clause-ok
returns-clause-ok g c =
    on_ok_weaker {Q = g.K.Sink.written c.write_cookies.new.sink ≡ appended (g.K.Sink.written c.args.sink.now) (task_text c.args.times.now)} c.write_cookies.result
    (λ sent. both_out c.args.times.now _ _ _ _ _ c.tasks.ensures.rows c.cookies.ensures.rows c.in_ok-write_tasks.ensures.ok sent) c.write_cookies.ensures.ok

pub returns-clause-prefix : goal.returns-clause-prefix
returns-clause-prefix g c =
    both_prefix c.args.times.now _ _ _ _ _ c.tasks.ensures.rows c.cookies.ensures.rows c.in_ok-write_tasks.ensures.ok c.write_cookies.ensures.prefix
