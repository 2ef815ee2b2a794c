use Rattle.std.proofs.Common.{length, refl, ap, ◌∙◌, sym}
use Rattle.ptrace_check.specs.Answers.{unload_answer}
use Rattle.ptrace_check.proofs.Seats.{guard_in, past_from}
use Rattle.ptrace_check.proofs.Loads.{unload_drops, unload_keeps, unload_stays, unload_refused, caps-unload, unload_answer-past, unload-past, caps-past}
use Rattle.ptrace_check.proofs.guards.Guards.unload.Goals as goal

pub invariant_of-self-in-Dropped : goal.invariant_of-self-in-Dropped
invariant_of-self-in-Dropped g c =
    rw (c.take_out.ensures.others, c.take_out.ensures.room)
    (unload_keeps c.self.inside.seats.items c.self.inside.active.items _ c.args.index c.in-Some.seat.now c.unload-answer.new.self
    c.in-Some.ensures.item.3.0 c.in-Some.ensures.value c.in-Dropped.ensures.answer c.in-Dropped.ensures.guard c.self.invariant)

pub invariant_of-self-in_default-answer : goal.invariant_of-self-in_default-answer
invariant_of-self-in_default-answer g c =
    rw (unload_stays c.self.inside.seats.items c.self.inside.active.items c.args.index c.in-Some.seat.now c.unload-answer.new.self
    c.in-Some.ensures.item.3.0 c.in-Some.ensures.value c.in_default-answer.ensures.answer c.in_default-answer.ensures.guard)
    c.self.invariant

pub returns-in-Dropped-clause-guards : goal.returns-in-Dropped-clause-guards
returns-in-Dropped-clause-guards g c =
    rw (← c.self.view_is, c.take_out.ensures.others)
    (unload_drops c.self.inside.seats.items c.self.inside.active.items c.args.index c.in-Some.seat.now c.unload-answer.new.self
    c.in-Some.ensures.item.3.0 c.in-Some.ensures.value c.in-Dropped.ensures.answer c.in-Dropped.ensures.guard)

pub returns-in-Dropped-clause-caps : goal.returns-in-Dropped-clause-caps
returns-in-Dropped-clause-caps g c =
    rw (← c.self.view_is)
    (caps-unload c.self.inside.seats.items c.self.inside.active.items c.args.index c.in-Some.seat.now c.unload-answer.new.self
    c.in-Some.ensures.item.3.0 c.in-Some.ensures.value c.unload-answer.ensures.cap)

pub returns-in_default-answer-clause-guards : goal.returns-in_default-answer-clause-guards
returns-in_default-answer-clause-guards g c =
    let seats = c.self.inside.seats.items in
    let active = c.self.inside.active.items in
    rw (← c.self.view_is)
    (unload_stays seats active c.args.index c.in-Some.seat.now c.unload-answer.new.self c.in-Some.ensures.item.3.0 c.in-Some.ensures.value c.in_default-answer.ensures.answer c.in_default-answer.ensures.guard
    ∙ sym (unload_refused seats active c.args.index c.in-Some.seat.now c.in-Some.ensures.item.3.0 c.in-Some.ensures.value c.in_default-answer.ensures.answer))

pub returns-in_default-answer-clause-caps : goal.returns-in_default-answer-clause-caps
returns-in_default-answer-clause-caps g c =
    rw (← c.self.view_is)
    (caps-unload c.self.inside.seats.items c.self.inside.active.items c.args.index c.in-Some.seat.now c.unload-answer.new.self
    c.in-Some.ensures.item.3.0 c.in-Some.ensures.value c.unload-answer.ensures.cap)

pub invariant_of-self : goal.invariant_of-self
invariant_of-self g c = c.self.invariant

pub returns-in_default-clause-answer : goal.returns-in_default-clause-answer
returns-in_default-clause-answer g c =
    let seats = c.self.inside.seats in
    let past = past_from c.args.index (length seats.items) (length seats.items) refl c.in_default.ensures.variant.1 in
    rw (← c.self.view_is) (unload_answer-past seats.items c.self.inside.active.items c.args.index past)

pub returns-in_default-clause-guards : goal.returns-in_default-clause-guards
returns-in_default-clause-guards g c =
    let seats = c.self.inside.seats in
    let past = past_from c.args.index (length seats.items) (length seats.items) refl c.in_default.ensures.variant.1 in
    rw (← c.self.view_is) (unload-past seats.items c.self.inside.active.items c.args.index past)

pub returns-in_default-clause-caps : goal.returns-in_default-clause-caps
returns-in_default-clause-caps g c =
    let seats = c.self.inside.seats in
    let past = past_from c.args.index (length seats.items) (length seats.items) refl c.in_default.ensures.variant.1 in
    rw (← c.self.view_is) (caps-past seats.items c.args.index _ past)

pub returns-in-Dropped-clause-answer : goal.returns-in-Dropped-clause-answer
returns-in-Dropped-clause-answer g c =
    let was = guard_in c.self.inside.seats.items c.self.inside.active.items c.args.index c.in-Some.seat.now c.in-Some.ensures.item.3.0 c.in-Some.ensures.value in
    rw (← c.self.view_is) (c.unload-answer.ensures.answer ∙ ap unload_answer (sym was))

pub returns-in_default-answer-clause-answer : goal.returns-in_default-answer-clause-answer
returns-in_default-answer-clause-answer g c =
    let was = guard_in c.self.inside.seats.items c.self.inside.active.items c.args.index c.in-Some.seat.now c.in-Some.ensures.item.3.0 c.in-Some.ensures.value in
    rw (← c.self.view_is) (c.unload-answer.ensures.answer ∙ ap unload_answer (sym was))
