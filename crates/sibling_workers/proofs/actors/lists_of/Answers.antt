use Rattle.std.proofs.Common.{◌∙◌, sym}
use Rattle.sibling_workers.proofs.Workers.{lists_more, lists_same}
use Rattle.sibling_workers.proofs.actors.lists_of.Goals as goal
use Rattle.sibling_workers.proofs.actors.lists_of.Goals.{then-has_step+in_ok-own+in_ok-push, else-has_step}

pub loop-place-preserved : goal.loop-place-preserved
loop-place-preserved c =
    let steps = c.args.steps.now in
    let place = c.loop-place.place in
    let before = c.loop-place.lists.items in
    elim c.if-has_step.branch [
      | then-has_step+in_ok-own+in_ok-push w ↦
          rw w.lists-is
          (lists_more steps place before w.push.new.self.items w.in_ok-own.own c.actor_at-actor.result c.loop-place.invariant
          w.in_ok-push.ensures.items w.in_ok-own.ensures c.actor_at-actor.ensures (sym c.has_step.ensures ∙ w.if-has_step.true))
      | else-has_step w ↦
          rw w.lists-is
          (lists_same steps place before c.actor_at-actor.result c.loop-place.invariant c.actor_at-actor.ensures (sym c.has_step.ensures ∙ w.if-has_step.false))
    ]
