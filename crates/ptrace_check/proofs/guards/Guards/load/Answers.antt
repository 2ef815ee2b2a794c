use Rattle.std.proofs.Common.{length, refl, ap, ◌∙◌, sym}
use Rattle.ptrace_check.specs.Answers.{load_answer}
use Rattle.ptrace_check.proofs.Seats.{guard_in, past_from, caps-set_alike}
use Rattle.ptrace_check.proofs.Loads.{load_adds, load_keeps, load_stays, load_refused, load_answer-past, load-past, room_to_load}
use Rattle.ptrace_check.proofs.guards.Guards.load.Goals as goal

pub push-requires : goal.push-requires
push-requires g c = record {
  room = room_to_load c.self.inside.seats.items c.self.inside.active.items _ c.args.index c.in-Some.seat.now c.in-Some.ensures.item.3.0 c.in-Some.ensures.value c.in-Loaded.ensures.answer c.self.invariant;
}

pub invariant_of-self-in-Loaded : goal.invariant_of-self-in-Loaded
invariant_of-self-in-Loaded g c =
    let seats = c.self.inside.seats.items in
    let active = c.self.inside.active.items in
    rw (c.push.ensures.items, c.push.ensures.room)
    (load_keeps seats active _ c.args.index c.in-Some.seat.now c.load-answer.new.self c.in-Some.ensures.item.3.0 c.in-Some.ensures.value c.in-Loaded.ensures.answer c.in-Loaded.ensures.guard c.self.invariant)

pub invariant_of-self-in_default-answer : goal.invariant_of-self-in_default-answer
invariant_of-self-in_default-answer g c =
    rw (load_stays c.self.inside.seats.items c.self.inside.active.items c.args.index c.in-Some.seat.now c.load-answer.new.self
    c.in-Some.ensures.item.3.0 c.in-Some.ensures.value c.in_default-answer.ensures.answer c.in_default-answer.ensures.guard)
    c.self.invariant

pub returns-in-Loaded-clause-guards : goal.returns-in-Loaded-clause-guards
returns-in-Loaded-clause-guards g c =
    let seats = c.self.inside.seats.items in
    let active = c.self.inside.active.items in
    rw (← c.self.view_is, c.push.ensures.items)
    (load_adds seats active c.args.index c.in-Some.seat.now c.load-answer.new.self c.in-Some.ensures.item.3.0 c.in-Some.ensures.value c.in-Loaded.ensures.answer c.in-Loaded.ensures.guard)

pub returns-in-Loaded-clause-caps : goal.returns-in-Loaded-clause-caps
returns-in-Loaded-clause-caps g c =
    rw (← c.self.view_is)
    (caps-set_alike c.self.inside.seats.items c.args.index c.in-Some.seat.now c.load-answer.new.self c.in-Some.ensures.value c.load-answer.ensures.cap)

pub returns-in_default-answer-clause-guards : goal.returns-in_default-answer-clause-guards
returns-in_default-answer-clause-guards g c =
    let seats = c.self.inside.seats.items in
    let active = c.self.inside.active.items in
    rw (← c.self.view_is)
    (load_stays seats active c.args.index c.in-Some.seat.now c.load-answer.new.self c.in-Some.ensures.item.3.0 c.in-Some.ensures.value c.in_default-answer.ensures.answer c.in_default-answer.ensures.guard
    ∙ sym (load_refused seats active c.args.index c.in-Some.seat.now c.in-Some.ensures.item.3.0 c.in-Some.ensures.value c.in_default-answer.ensures.answer))

pub returns-in_default-answer-clause-caps : goal.returns-in_default-answer-clause-caps
returns-in_default-answer-clause-caps g c =
    rw (← c.self.view_is)
    (caps-set_alike c.self.inside.seats.items c.args.index c.in-Some.seat.now c.load-answer.new.self c.in-Some.ensures.value c.load-answer.ensures.cap)

pub invariant_of-self : goal.invariant_of-self
invariant_of-self g c = c.self.invariant

pub returns-in_default-clause-answer : goal.returns-in_default-clause-answer
returns-in_default-clause-answer g c =
    let seats = c.self.inside.seats in
    let past = past_from c.args.index (length seats.items) (length seats.items) refl c.in_default.ensures.variant.1 in
    rw (← c.self.view_is) (load_answer-past seats.items c.self.inside.active.items c.args.index past)

pub returns-in_default-clause-guards : goal.returns-in_default-clause-guards
returns-in_default-clause-guards g c =
    let seats = c.self.inside.seats in
    let past = past_from c.args.index (length seats.items) (length seats.items) refl c.in_default.ensures.variant.1 in
    rw (← c.self.view_is) (load-past seats.items c.self.inside.active.items c.args.index past)

pub returns-in_default-clause-caps : goal.returns-in_default-clause-caps
returns-in_default-clause-caps g c = rw (← c.self.view_is) refl

pub returns-in-Loaded-clause-answer : goal.returns-in-Loaded-clause-answer
returns-in-Loaded-clause-answer g c =
    let was = guard_in c.self.inside.seats.items c.self.inside.active.items c.args.index c.in-Some.seat.now c.in-Some.ensures.item.3.0 c.in-Some.ensures.value in
    rw (← c.self.view_is) (c.load-answer.ensures.answer ∙ ap load_answer (sym was))

pub returns-in_default-answer-clause-answer : goal.returns-in_default-answer-clause-answer
returns-in_default-answer-clause-answer g c =
    let was = guard_in c.self.inside.seats.items c.self.inside.active.items c.args.index c.in-Some.seat.now c.in-Some.ensures.item.3.0 c.in-Some.ensures.value in
    rw (← c.self.view_is) (c.load-answer.ensures.answer ∙ ap load_answer (sym was))
