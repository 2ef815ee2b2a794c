use Rattle.std.proofs.Common.{◌∙◌, arith}
use Rattle.cs_outside.proofs.Reached.{line_more, line_prefix, none_left, whole_prefix}
use Rattle.times_report.proofs.Left.{next_left, none_more}
use Rattle.times_report.proofs.texts.write_siblings.Goals as goal

pub returns-in_err-write_all-clause-prefix : goal.returns-in_err-write_all-clause-prefix
returns-in_err-write_all-clause-prefix g c =
    line_prefix _ _ _ _ _ _ _
    (next_left _ _ c.args.siblings.now c.loop-cpu.cpu _ _ c.loop-cpu-test.true c.loop-cpu.invariant.left)
    (c.as_bytes.ensures ∙ c.cpu_line.ensures) c.write_all.ensures.prefix

pub returns-in_err-write_all-2-clause-prefix : goal.returns-in_err-write_all-2-clause-prefix
returns-in_err-write_all-2-clause-prefix g c =
    line_prefix _ _ _ _ _ _ _
    (line_more _ _ _ _ _ _ _
    (next_left _ _ c.args.siblings.now c.loop-cpu.cpu _ _ c.loop-cpu-test.true c.loop-cpu.invariant.left)
    (c.as_bytes.ensures ∙ c.cpu_line.ensures) c.in_ok-write_all.ensures.ok)
    (c.as_bytes-in-loop-cpu.ensures ∙ c.forced_line.ensures) c.write_all-in-loop-cpu.ensures.prefix

pub loop-cpu-preserved : goal.loop-cpu-preserved
loop-cpu-preserved g c =
    record {
      left =
          line_more _ _ _ _ _ _ _
          (line_more _ _ _ _ _ _ _
          (next_left _ _ c.args.siblings.now c.loop-cpu.cpu _ _ c.loop-cpu-test.true c.loop-cpu.invariant.left)
          (c.as_bytes.ensures ∙ c.cpu_line.ensures) c.in_ok-write_all.ensures.ok)
          (c.as_bytes-in-loop-cpu.ensures ∙ c.forced_line.ensures) c.in_ok-write_all-2.ensures.ok;
      faultless = c.in_ok-write_all-2.ensures.faultless ∙ c.in_ok-write_all.ensures.faultless ∙ c.loop-cpu.invariant.faultless;
    }

pub returns-clause-ok : goal.returns-clause-ok
returns-clause-ok g c =
    none_left _ _ _ (none_more _ _ c.args.siblings.now c.loop-cpu.cpu _ (omega (arith, c.loop-cpu-test.false)) c.loop-cpu.invariant.left)

pub returns-clause-prefix : goal.returns-clause-prefix
returns-clause-prefix g c =
    whole_prefix _ _ _ (none_left _ _ _ (none_more _ _ c.args.siblings.now c.loop-cpu.cpu _ (omega (arith, c.loop-cpu-test.false)) c.loop-cpu.invariant.left))
