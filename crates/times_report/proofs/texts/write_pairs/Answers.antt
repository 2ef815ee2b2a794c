use Rattle.std.proofs.Common.{◌∙◌, arith}
use Rattle.cs_outside.proofs.Reached.{line_more, line_prefix, none_left, whole_prefix}
use Rattle.times_report.proofs.Left.{next_pair, no_pair}
use Rattle.times_report.proofs.texts.write_pairs.Goals as goal

pub returns-in_err-write_all-clause-prefix : goal.returns-in_err-write_all-clause-prefix
returns-in_err-write_all-clause-prefix g c =
    line_prefix _ _ _ _ _ _ _
    (next_pair c.args.by _ _ c.args.pairs.now c.loop-index.index _ _ c.loop-index-test.true c.loop-index.invariant.left)
    (c.as_bytes.ensures ∙ c.pair_line.ensures) c.write_all.ensures.prefix

pub loop-index-preserved : goal.loop-index-preserved
loop-index-preserved g c =
    record {
      left =
          line_more _ _ _ _ _ _ _
          (next_pair c.args.by _ _ c.args.pairs.now c.loop-index.index _ _ c.loop-index-test.true c.loop-index.invariant.left)
          (c.as_bytes.ensures ∙ c.pair_line.ensures) c.in_ok-write_all.ensures.ok;
      faultless = c.in_ok-write_all.ensures.faultless ∙ c.loop-index.invariant.faultless;
    }

pub returns-clause-ok : goal.returns-clause-ok
returns-clause-ok g c =
    none_left _ _ _ (no_pair c.args.by _ _ c.args.pairs.now c.loop-index.index _ (omega (arith, c.loop-index-test.false)) c.loop-index.invariant.left)

pub returns-clause-prefix : goal.returns-clause-prefix
returns-clause-prefix g c =
    whole_prefix _ _ _ (none_left _ _ _ (no_pair c.args.by _ _ c.args.pairs.now c.loop-index.index _ (omega (arith, c.loop-index-test.false)) c.loop-index.invariant.left))
