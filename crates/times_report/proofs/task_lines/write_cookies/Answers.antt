use Rattle.std.proofs.Common.{◌∙◌, refl, arith}
use Rattle.cs_outside.proofs.Reached.{whole_prefix}
use Rattle.times_report.specs.TaskLines.{line_of_cookie}
use Rattle.times_report.proofs.Rows.{row_more, row_prefix, rows_out}
use Rattle.times_report.proofs.task_lines.write_cookies.Goals as goal

pub returns-in_err-write_cookie-clause-prefix : goal.returns-in_err-write_cookie-clause-prefix
returns-in_err-write_cookie-clause-prefix g c =
    row_prefix line_of_cookie c.args.cookies.now c.loop-cookie.cookie _ _ _ _ _ _ c.loop-cookie-test.true refl c.loop-cookie.invariant.left c.write_cookie.ensures.prefix

pub loop-cookie-preserved : goal.loop-cookie-preserved
loop-cookie-preserved g c =
    record {
      left = row_more line_of_cookie c.args.cookies.now c.loop-cookie.cookie _ _ _ _ _ _ c.loop-cookie-test.true refl c.loop-cookie.invariant.left c.in_ok-write_cookie.ensures.ok;
      faultless = c.in_ok-write_cookie.ensures.faultless ∙ c.loop-cookie.invariant.faultless;
    }

pub returns-clause-ok : goal.returns-clause-ok
returns-clause-ok g c = rows_out line_of_cookie c.args.cookies.now c.loop-cookie.cookie _ _ _ (omega (arith, c.loop-cookie-test.false)) c.loop-cookie.invariant.left

pub returns-clause-prefix : goal.returns-clause-prefix
returns-clause-prefix g c =
    whole_prefix _ _ _ (rows_out line_of_cookie c.args.cookies.now c.loop-cookie.cookie _ _ _ (omega (arith, c.loop-cookie-test.false)) c.loop-cookie.invariant.left)
