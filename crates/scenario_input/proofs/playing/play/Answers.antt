use Rattle.std.proofs.Common.{◌∙◌, arith}
use Rattle.cs_laws.proofs.Histories.{history_more}
use Rattle.scenario_input.proofs.playing.play.Goals as goal

pub loop-step-preserved : goal.loop-step-preserved
loop-step-preserved g c = record {
  history = history_more (g.R.Room.opening c.args.room.now) (g.R.Room.opening c.loop-step.room) c.args.steps.now c.loop-step.step-index _ (g.R.Room.history c.loop-step.room) _ c.apply.result c.loop-step-test.true c.loop-step.invariant.history c.loop-step.invariant.opening c.apply.ensures.entry c.apply.ensures.reply;
  opening = c.apply.ensures.opening ∙ c.loop-step.invariant.opening;
  spare = omega (arith, c.apply.ensures.spare, c.loop-step.invariant.spare);
}
