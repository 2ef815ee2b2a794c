use Rattle.std.proofs.Common.{sym, ◌∙◌, subst, arith}
use Rattle.cs_types.specs.Scenario.{IsPlayable}
use Rattle.cs_types.specs.Room.{Opening}
use Rattle.cs_laws.proofs.Histories.{history_more}
use Rattle.run_times.proofs.Events.{events_more, event_in}
use Rattle.run_segments.proofs.Recorded.{kept_alike}
use Rattle.run_segments.proofs.run.play.Goals as goal

pub before-requires-clause-playable : goal.before-requires-clause-playable
before-requires-clause-playable g c = subst (λ (o : Opening). IsPlayable o.scenario) (sym c.loop-step.invariant.opening) c.requires.playable

pub loop-step-preserved : goal.loop-step-preserved
loop-step-preserved g c =
    let begun = g.R.Room.opening c.args.room.now in
    let opening = g.R.Room.opening c.loop-step.room in
    let past = g.R.Room.history c.loop-step.room in
    record {
      history = history_more begun opening c.args.steps.now c.loop-step.step-index _ past _ c.apply.result c.loop-step-test.true c.loop-step.invariant.history c.loop-step.invariant.opening c.apply.ensures.entry c.apply.ensures.reply;
      opening = c.apply.ensures.opening ∙ c.loop-step.invariant.opening;
      spare = omega (arith, c.apply.ensures.spare, c.loop-step.invariant.spare);
      events = events_more opening _ past _ _ c.apply.ensures.opening c.apply.ensures.entry c.loop-step.invariant.events
          (event_in begun opening _ c.loop-step.invariant.opening (c.requires.events c.loop-step.step-index _ c.loop-step-test.true));
      record_of = kept_alike opening _ past _ _ _ _ c.apply.ensures.opening c.apply.ensures.entry c.in_ok-before.ensures;
    }
