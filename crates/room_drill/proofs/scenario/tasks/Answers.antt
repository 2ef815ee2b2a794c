use Rattle.std.proofs.Common.{◌+◌, ◌-◌, arith}
use Rattle.room_drill.specs.Drill.{drawn_task}
use Rattle.room_drill.proofs.Drawn.{one_drawn, all_drawn}
use Rattle.room_drill.proofs.scenario.tasks.Goals as goal

pub loop-index-preserved : goal.loop-index-preserved
loop-index-preserved c =
    one_drawn drawn_task 1 c.args.count _ _ _ (c.loop-index.index + 1) (c.args.count - c.loop-index.index) (c.args.count - (c.loop-index.index + 1)) _ _ _
    c.loop-index.invariant (omega (arith, c.loop-index-test.true)) c.task.ensures c.in_ok-push.ensures.items

pub returns : goal.returns
returns c =
    all_drawn drawn_task 1 c.args.count _ _ (c.loop-index.index + 1) (c.args.count - c.loop-index.index) _ c.loop-index.invariant (omega (arith, c.loop-index-test.false))
