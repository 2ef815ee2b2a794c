use Rattle.std.proofs.Common.{◌∙◌, refl, arith}
use Rattle.cs_outside.proofs.Reached.{whole_prefix}
use Rattle.times_report.specs.WaitLines.{line_of_waits}
use Rattle.times_report.proofs.Rows.{row_more, row_prefix, rows_out}
use Rattle.times_report.proofs.wait_lines.write_waits.Goals as goal

pub returns-in_err-write_task_waits-clause-prefix : goal.returns-in_err-write_task_waits-clause-prefix
returns-in_err-write_task_waits-clause-prefix g c =
    row_prefix line_of_waits c.args.tasks.now c.loop-pid.pid _ _ _ _ _ _ c.loop-pid-test.true refl c.loop-pid.invariant.left c.write_task_waits.ensures.prefix

pub loop-pid-preserved : goal.loop-pid-preserved
loop-pid-preserved g c =
    record {
      left = row_more line_of_waits c.args.tasks.now c.loop-pid.pid _ _ _ _ _ _ c.loop-pid-test.true refl c.loop-pid.invariant.left c.in_ok-write_task_waits.ensures.ok;
      faultless = c.in_ok-write_task_waits.ensures.faultless ∙ c.loop-pid.invariant.faultless;
    }

pub returns-clause-ok : goal.returns-clause-ok
returns-clause-ok g c = rows_out line_of_waits c.args.tasks.now c.loop-pid.pid _ _ _ (omega (arith, c.loop-pid-test.false)) c.loop-pid.invariant.left

pub returns-clause-prefix : goal.returns-clause-prefix
returns-clause-prefix g c =
    whole_prefix _ _ _ (rows_out line_of_waits c.args.tasks.now c.loop-pid.pid _ _ _ (omega (arith, c.loop-pid-test.false)) c.loop-pid.invariant.left)
