use Rattle.std.proofs.Common.{sym, ◌∙◌}
use Rattle.trace_check.proofs.Texts.{told_next, told_all}
use Rattle.trace_check.proofs.verdict.told.Goals as goal

pub loop-byte-preserved : goal.loop-byte-preserved
loop-byte-preserved c =
    told_next _ c.loop-byte.byte-index _ _ _ 0 c.loop-byte-test.true c.loop-byte.invariant c.shown.ensures c.in_ok-push.ensures.items

pub returns : goal.returns
returns c =
    told_all c.args.line.now c.before_feed-line.result.now c.min.result c.loop-byte.byte-index c.of.result (sym c.is_empty.ensures ∙ c.if-is_empty.false)
    c.before_feed-line.ensures c.min.ensures c.loop-byte-test.false (c.of.ensures ∙ c.loop-byte.invariant)
