use Rattle.std.proofs.Common.{ℕ, length, refl, ap, ◌∙◌, sym}
use Rattle.std.specs.Prelude.{not}
use Rattle.cs_types.specs.Guards.{GuardState, with_guard, is_bench}
use Rattle.ptrace_check.specs.Answers.{with_answer}
use Rattle.ptrace_check.specs.Inside.{guards_in}
use Rattle.ptrace_check.proofs.Seats.{guard_in, guard_past, past_from, guards_in-set, with_guard-same, teach_answer-in, AreKept-with_guard, place-with_answer, caps-set_alike}
use Rattle.ptrace_check.proofs.guards.Guards.teach.Goals as goal

pub invariant_of-self-2 : goal.invariant_of-self-2
invariant_of-self-2 g c =
    let seats = c.self.inside.seats.items in
    let active = c.self.inside.active.items in
    let i = c.args.index in
    let pair : ℕ × ℕ = (c.args.from, c.args.to) in
    let was = guard_in seats active i c.in-Some.seat.now c.in-Some.ensures.item.3.0 c.in-Some.ensures.value in
    let same = ap (λ (guard : GuardState). guard.place) c.teach.ensures.taught
    ∙ place-with_answer c.teach.result pair c.in-Some.seat.now.guard ∙ ap (λ (guard : GuardState). guard.place) (sym was) in
    rw (guards_in-set seats active i c.teach.new.self)
    (AreKept-with_guard (guards_in seats active) _ i c.teach.new.self.guard same c.self.invariant)

pub returns-clause-taught : goal.returns-clause-taught
returns-clause-taught g c =
    let seats = c.self.inside.seats.items in
    let active = c.self.inside.active.items in
    let i = c.args.index in
    let pair : ℕ × ℕ = (c.args.from, c.args.to) in
    let was = guard_in seats active i c.in-Some.seat.now c.in-Some.ensures.item.3.0 c.in-Some.ensures.value in
    rw (← c.self.view_is)
    (guards_in-set seats active i c.teach.new.self
    ∙ ap (with_guard (guards_in seats active) i) (c.teach.ensures.taught ∙ ap (with_answer c.teach.result pair) (sym was)))

pub returns-clause-caps : goal.returns-clause-caps
returns-clause-caps g c =
    let seats = c.self.inside.seats.items in
    rw (← c.self.view_is)
    (caps-set_alike seats c.args.index c.in-Some.seat.now c.teach.new.self c.in-Some.ensures.value c.teach.ensures.cap)

pub invariant_of-self : goal.invariant_of-self
invariant_of-self g c = c.self.invariant

pub returns-in_default-clause-answer : goal.returns-in_default-clause-answer
returns-in_default-clause-answer g c =
    let seats = c.self.inside.seats in
    let past = past_from c.args.index (length seats.items) (length seats.items) refl c.in_default.ensures.variant.1 in
    rw (← c.self.view_is) (ap (λ (guard : GuardState). not (is_bench guard.place)) (guard_past seats.items c.self.inside.active.items c.args.index past))

pub returns-in_default-clause-taught : goal.returns-in_default-clause-taught
returns-in_default-clause-taught g c =
    rw (← c.self.view_is) (with_guard-same (guards_in c.self.inside.seats.items c.self.inside.active.items) c.args.index)

pub returns-in_default-clause-caps : goal.returns-in_default-clause-caps
returns-in_default-clause-caps g c = rw (← c.self.view_is) refl

pub returns-clause-answer : goal.returns-clause-answer
returns-clause-answer g c =
    rw (← c.self.view_is)
    (teach_answer-in c.self.inside.seats.items c.self.inside.active.items c.args.index c.in-Some.seat.now c.teach.result c.in-Some.ensures.item.3.0 c.in-Some.ensures.value
    c.teach.ensures.answer)
