use Rattle.trace_check.proofs.Known.{next_event}
use Rattle.trace_check.proofs.judging.make_step.Goals as goal

pub apply-reply-requires-clause-event : goal.apply-reply-requires-clause-event
apply-reply-requires-clause-event g c =
    next_event (g.R.Room.opening c.args.room.now).scenario.siblings c.args.steps.now c.args.places.now c.in_ok-actor.actor c.in_ok-event.event _
    c.requires.events c.in_ok-event.ensures.next
