use Rattle.std.proofs.Common.{◌∙◌, arith}
use Rattle.cs_outside.proofs.Reached.{none_left, whole_prefix, line_more, line_prefix}
use Rattle.scenario_writer.proofs.Items.{item_left, all_written}
use Rattle.scenario_writer.proofs.scenario.write_lines.Goals as goal

pub returns-in_err-write_all-clause-prefix : goal.returns-in_err-write_all-clause-prefix
returns-in_err-write_all-clause-prefix g c =
    line_prefix _ _ _ _ _ _ _
    (item_left g.T.Lined.words c.args.items.now c.loop-item.item-index c.item-item.result c.item-item.result _ _ _ c.loop-item-test.true c.item-item.is c.loop-item.invariant.left)
    (c.as_bytes.ensures ∙ c.line.ensures) c.write_all.ensures.prefix

pub loop-item-preserved : goal.loop-item-preserved
loop-item-preserved g c = record {
  left = line_more _ _ _ _ _ _ _
      (item_left g.T.Lined.words c.args.items.now c.loop-item.item-index c.item-item.result c.item-item.result _ _ _ c.loop-item-test.true c.item-item.is c.loop-item.invariant.left)
      (c.as_bytes.ensures ∙ c.line.ensures) c.in_ok-write_all.ensures.ok;
  faultless = c.in_ok-write_all.ensures.faultless ∙ c.loop-item.invariant.faultless;
}

pub returns-clause-prefix : goal.returns-clause-prefix
returns-clause-prefix g c =
    whole_prefix _ _ _ (none_left _ _ _ (all_written g.T.Lined.words c.args.items.now c.loop-item.item-index _ _ _ (omega (arith, c.loop-item-test.false)) c.loop-item.invariant.left))
