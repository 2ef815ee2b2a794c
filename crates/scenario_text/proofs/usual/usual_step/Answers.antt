use Rattle.std.proofs.Common.{subst}
use Rattle.scenario_text.specs.Reading.{BeginsActor}
use Rattle.scenario_text.proofs.UsualLines.{step_is}
use Rattle.scenario_text.proofs.usual.usual_step.Goals as goal
use Rattle.scenario_text.proofs.usual.usual_step.Goals.{in-Sibling+in_ok-sibling_event-in-Sibling, in-Caller+in_ok-event-in-Caller}

pub returns : goal.returns
returns c =
    let text = c.args.text.now in
    let front = c.in_ok-behind.field-0.now in
    let behind = c.in_ok-actor.text.now in
    elim c.match-actor.branch [
      | in-Sibling+in_ok-sibling_event-in-Sibling w ↦
          let read = w.in_ok-sibling_event-in-Sibling in
          let acts = subst (λ actor. BeginsActor c.args.siblings front actor behind) w.in-Sibling.is c.in_ok-actor.ensures in
          rw (w.actor-is, w.event-is) (step_is c.args.siblings _ read.event text front behind read.rest.now c.in_ok-behind.ensures acts (read.ensures c.args.siblings acts.is))
      | in-Caller+in_ok-event-in-Caller w ↦
          let read = w.in_ok-event-in-Caller in
          let acts = subst (λ actor. BeginsActor c.args.siblings front actor behind) w.in-Caller.is c.in_ok-actor.ensures in
          rw (w.actor-is, w.event-is, w.in-Caller.is) (step_is c.args.siblings _ read.event text front behind read.rest.now c.in_ok-behind.ensures acts (read.ensures _ acts.is))
    ]
