use Rattle.std.proofs.Common.{◌+◌, ◌-◌, arith}
use Rattle.room_drill.specs.Drill.{drawn_step}
use Rattle.room_drill.proofs.Drawn.{one_drawn, all_drawn}
use Rattle.room_drill.proofs.scenario.steps.Goals as goal

pub loop-preserved : goal.loop-preserved
loop-preserved c =
    one_drawn (λ number. drawn_step) 1 c.args.count _ _ _ (c.loop.counter + 1) (c.args.count - c.loop.counter) (c.args.count - (c.loop.counter + 1)) _ _ _
    c.loop.invariant (omega (arith, c.loop-test.true)) c.step.ensures c.in_ok-push.ensures.items

pub returns : goal.returns
returns c =
    all_drawn (λ number. drawn_step) 1 c.args.count _ _ (c.loop.counter + 1) (c.args.count - c.loop.counter) _ c.loop.invariant (omega (arith, c.loop-test.false))
