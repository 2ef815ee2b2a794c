use Rattle.std.proofs.Common.{◌∙◌, refl, arith}
use Rattle.cs_outside.proofs.Reached.{whole_prefix, none_left, line_more, line_prefix}
use Rattle.segment_text.specs.Json.{object_line}
use Rattle.segment_text.proofs.Left.{next_left, no_more}
use Rattle.segment_text.proofs.json.segments_json.Goals as goal

pub returns-in_err-write_object-clause-prefix : goal.returns-in_err-write_object-clause-prefix
returns-in_err-write_object-clause-prefix g c =
    line_prefix _ _ _ _ _ _ _
    (next_left object_line _ _ c.args.run.now _ _ _ c.segments-segment-items.ensures _ c.loop-segment-test.true c.loop-segment.invariant.left)
    refl c.write_object.ensures.prefix

pub loop-segment-preserved : goal.loop-segment-preserved
loop-segment-preserved g c =
    record {
      left =
          line_more _ _ _ _ _ _ _
          (next_left object_line _ _ c.args.run.now _ _ _ c.segments-segment-items.ensures _ c.loop-segment-test.true c.loop-segment.invariant.left)
          refl c.in_ok-write_object.ensures.ok;
      faultless = c.in_ok-write_object.ensures.faultless ∙ c.loop-segment.invariant.faultless;
    }

pub returns-clause-ok : goal.returns-clause-ok
returns-clause-ok g c =
    none_left _ _ _ (no_more object_line _ _ c.args.run.now _ _ _ c.segments-segment-items.ensures (omega (arith, c.loop-segment-test.false)) c.loop-segment.invariant.left)

pub returns-clause-prefix : goal.returns-clause-prefix
returns-clause-prefix g c =
    whole_prefix _ _ _
    (none_left _ _ _ (no_more object_line _ _ c.args.run.now _ _ _ c.segments-segment-items.ensures (omega (arith, c.loop-segment-test.false)) c.loop-segment.invariant.left))
