use Rattle.std.proofs.Common.{◌∙◌, arith}
use Rattle.cs_outside.proofs.Reached.{whole_prefix, none_left, line_more, line_prefix}
use Rattle.segment_text.specs.Cells.{columns}
use Rattle.segment_text.specs.Table.{row_text, tabbed}
use Rattle.segment_text.proofs.Left.{head_out, head_prefix, next_left, no_more}
use Rattle.segment_text.proofs.table.segments.Goals as goal

pub returns-in_err-write_all-clause-prefix : goal.returns-in_err-write_all-clause-prefix
returns-in_err-write_all-clause-prefix g c = head_prefix row_text _ (tabbed columns) c.args.run.now _ _ c.as_bytes.ensures.value c.write_all.ensures.prefix

pub loop-segment-init : goal.loop-segment-init
loop-segment-init g c =
    record {
      left = head_out row_text _ (tabbed columns) c.args.run.now _ _ c.as_bytes.ensures.value c.in_ok-write_all.ensures.ok;
      faultless = c.in_ok-write_all.ensures.faultless;
    }

pub returns-in_err-write_all-2-clause-prefix : goal.returns-in_err-write_all-2-clause-prefix
returns-in_err-write_all-2-clause-prefix g c =
    line_prefix _ _ _ _ _ _ _
    (next_left row_text _ _ c.args.run.now _ _ _ c.segments-segment-items.ensures _ c.loop-segment-test.true c.loop-segment.invariant.left)
    (c.as_bytes-in-loop-segment.ensures ∙ c.row_of.ensures) c.write_all-in-loop-segment.ensures.prefix

pub loop-segment-preserved : goal.loop-segment-preserved
loop-segment-preserved g c =
    record {
      left =
          line_more _ _ _ _ _ _ _
          (next_left row_text _ _ c.args.run.now _ _ _ c.segments-segment-items.ensures _ c.loop-segment-test.true c.loop-segment.invariant.left)
          (c.as_bytes-in-loop-segment.ensures ∙ c.row_of.ensures) c.in_ok-write_all-2.ensures.ok;
      faultless = c.in_ok-write_all-2.ensures.faultless ∙ c.loop-segment.invariant.faultless;
    }

pub returns-clause-ok : goal.returns-clause-ok
returns-clause-ok g c =
    none_left _ _ _ (no_more row_text _ _ c.args.run.now _ _ _ c.segments-segment-items.ensures (omega (arith, c.loop-segment-test.false)) c.loop-segment.invariant.left)

pub returns-clause-prefix : goal.returns-clause-prefix
returns-clause-prefix g c =
    whole_prefix _ _ _
    (none_left _ _ _ (no_more row_text _ _ c.args.run.now _ _ _ c.segments-segment-items.ensures (omega (arith, c.loop-segment-test.false)) c.loop-segment.invariant.left))
