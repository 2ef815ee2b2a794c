use Rattle.std.proofs.Common.{◌≡◌, ◌∙◌, ap, sym, subst, Bool, cond, true, false, eqb, ℕ, arith, ◌*◌, ◌+◌, length}
use Rattle.std.proofs.lemmas.Bool.{cond-true, eq-eqb}
use Rattle.cs_types.specs.declared.event.Event.TheVariants.{Turn, Resched}
use Rattle.cs_types.specs.declared.reply.Pick.{Pick}
use Rattle.cs_types.specs.declared.reply.Reply.TheVariants.{Picked, Nothing, Offline}
use Rattle.cs_types.specs.Room.{RoomState, SiblingState, sibling_of}
use Rattle.cs_types.specs.Selection.{schedule}
use Rattle.cs_types.specs.Steal.{stolen}
use Rattle.cs_types.specs.Step.{Stepped, step, turn, try_steal, picked, unless_offline}
use Rattle.cookie_steal.specs.declared.steal.Try.{Try}
use Rattle.cookie_steal.specs.declared.steal.Try.TheVariants.{Stole, Missed, NoBalance}
use Rattle.cookie_steal.specs.Tries.{reply_of}
use Rattle.core_lanes.specs.Numbers.{booked, is_fresh_by, with_ended}
use Rattle.core_lanes.proofs.Stays.{lane_at}
use Rattle.core_tasks.specs.State.{beside_of, room_with, state_numbers}
use Rattle.core_tasks.specs.Steps.{numbers_after}
use Rattle.core_tasks.proofs.States.{uncharged, lifted, leaves_all, untouched}
use Rattle.core_events.proofs.Onlines.{when_online, when_offline}
use Rattle.core_events.proofs.Readies.{low_times, turn_as_resched, turn_touches}
use Rattle.std.proofs.Math.Nat.{le-add_right, mul-le-mul_right, le-max_left, le-max_right}
use Rattle.core_events.proofs.Compared.{for_event}
use Rattle.core_events.proofs.events.turn.Goals as goal

pub answer_try-requires : goal.answer_try-requires
answer_try-requires g c = record {
  at = record { cpu = c.requires.cpu; agree = c.requires.ready.sound.agree };
  low = low_times c.args.state.now c.requires.ready.time;
  places = c.requires.ready.spares.places;
  stamp = omega (arith, c.requires.ready.spares.stamps);
  touches = omega (arith, c.requires.ready.spares.touches);
}

-- what a turn does, by whether its sibling is pending
abbrev turn_by : RoomState → Bool → ℕ → Bool → Stepped
turn_by room fresh cpu pending =
    cond pending (picked Picked (schedule room fresh cpu))
    (cond (eqb (sibling_of room cpu).place 0) (record { reply = Nothing; room = room }) (try_steal room cpu (stolen room cpu)))

pub returns-then-not-is_online-clause-makes : goal.returns-then-not-is_online-clause-makes
returns-then-not-is_online-clause-makes g c = leaves_all c.args.state.now (Turn c.args.cpu) Offline (λ intervals. untouched (state_numbers c.args.state.now)) (λ intervals.
    let room = room_with intervals c.args.state.now in
    when_offline room c.args.cpu (turn room (is_fresh_by (state_numbers c.args.state.now)) c.args.cpu)
    (sym (c.is_online.ensures (beside_of intervals c.args.state.now) c.args.state.now.tasks) ∙ c.if-not-is_online.true))

pub returns-then-lane-clause-makes : goal.returns-then-lane-clause-makes
returns-then-lane-clause-makes g c =
    let old = c.args.state.now in
    let cpu = c.args.cpu in
    let fresh = is_fresh_by (state_numbers old) in
    let made = c.resched.ensures.makes in
    record {
      step = λ intervals.
          let room = room_with intervals old in
          let at = lane_at old.core.lanes.items cpu c.index-lane.result.now c.requires.cpu c.index-lane.ensures in
          let pends : (sibling_of room cpu).pending ≡ true = ap (λ (s : SiblingState). s.pending) at ∙ c.if-lane.true in
          let is : picked Picked (schedule room fresh cpu) ≡ turn room fresh cpu = ap (turn_by room fresh cpu) (sym pends) in
          let same : step room fresh (Resched cpu) ≡ step room fresh (Turn cpu) = ap (unless_offline room cpu) is in
          let here = made.step intervals in
          let up = when_online room cpu (picked Picked (schedule room fresh cpu)) (sym (c.is_online.ensures (beside_of intervals old) old.tasks) ∙ c.if-not-is_online.false) in
          let answer : c.resched.result ≡ Picked (schedule room fresh cpu).pick = here.reply ∙ ap (λ (m : Stepped). m.reply) (sym up) in
          record {
            reply = here.reply ∙ ap (λ (m : Stepped). m.reply) same;
            room = subst (λ (m : Stepped). room_with m.room.intervals c.resched.new.state ≡ m.room) same here.room;
            numbers = λ kept. here.numbers kept
                ∙ turn_as_resched room cpu c.resched.result (schedule room fresh cpu).pick _ answer
                ∙ ap (λ (m : Stepped). numbers_after room (Turn cpu) c.resched.result (booked m.room (state_numbers old))) same;
          };
      stays = made.stays;
    }

pub returns-then-lane-eq0-clause-makes : goal.returns-then-lane-eq0-clause-makes
returns-then-lane-eq0-clause-makes g c =
    let old = c.args.state.now in
    let cpu = c.args.cpu in
    let fresh = is_fresh_by (state_numbers old) in
    let at = lane_at old.core.lanes.items cpu c.index-lane.result.now c.requires.cpu c.index-lane.ensures in
    leaves_all old (Turn cpu) Nothing (λ intervals. untouched (state_numbers old)) (λ intervals.
    let room = room_with intervals old in
    let idle : (sibling_of room cpu).pending ≡ false = ap (λ (s : SiblingState). s.pending) at ∙ c.if-lane.false in
    let none : eqb (sibling_of room cpu).place 0 ≡ true = eq-eqb _ _ (ap (λ (s : SiblingState). s.place) at ∙ c.if-lane-eq0.true) in
    sym (cond-true (eqb (sibling_of room cpu).place 0) (record { reply = Nothing; room = room }) (try_steal room cpu (stolen room cpu)) none)
    ∙ ap (turn_by room fresh cpu) (sym idle)
    ∙ when_online room cpu (turn room fresh cpu) (sym (c.is_online.ensures (beside_of intervals old) old.tasks) ∙ c.if-not-is_online.false))

pub returns-clause-makes : goal.returns-clause-makes
returns-clause-makes g c =
    let old = c.args.state.now in
    let cpu = c.args.cpu in
    let fresh = is_fresh_by (state_numbers old) in
    let tried = c.answer_try.ensures.tries.tries in
    record {
      step = λ intervals.
          let room = room_with intervals old in
          let beside = beside_of intervals old in
          let at = lane_at old.core.lanes.items cpu c.index-lane.result.now c.requires.cpu c.index-lane.ensures in
          let idle : (sibling_of room cpu).pending ≡ false = ap (λ (s : SiblingState). s.pending) at ∙ c.if-lane.false in
          let made = ap (turn_by room fresh cpu) (sym idle)
          ∙ when_online room cpu (turn room fresh cpu) (sym (c.is_online.ensures beside old.tasks) ∙ c.if-not-is_online.false) in
          uncharged (record {
            reply = c.answer_try.ensures.tries.answer ∙ tried.reply beside ∙ ap (λ (m : Stepped). m.reply) made;
            room = tried.room beside ∙ ap (λ (m : Stepped). m.room) made;
            numbers = ap (with_ended old.ended.items) tried.numbers ∙ turn_touches room cpu (state_numbers old) c.answer_try.ensures.tries.made
                ∙ ap (λ r. numbers_after room (Turn cpu) r (state_numbers old)) (sym c.answer_try.ensures.tries.answer);
          });
      stays = lifted old (c.answer_try.new.core, c.answer_try.new.table) tried.stays;
    }

pub returns-then-lane-clause-counted : goal.returns-then-lane-clause-counted
returns-then-lane-clause-counted g c =
    let old = c.args.state.now in
    let siblings = length old.core.lanes.items in
    let tasks = length old.tasks.tasks in
    omega (arith, c.resched.ensures.counted, mul-le-mul_right (g.Q.SiblingQueue.most_compared (tasks + 1)) (le-max_left (2 * siblings) (tasks + 4)))

pub returns-clause-counted : goal.returns-clause-counted
returns-clause-counted g c =
    let old = c.args.state.now in
    let tasks = length old.tasks.tasks in
    for_event g.met.Q.SiblingQueue.rises (tasks + 4) old (Turn c.args.cpu) _ _ (le-max_right (2 * length old.core.lanes.items) (tasks + 4)) c.answer_try.ensures.counted

-- a try to steal picks nothing
never : (made : Try) (pick : Pick) → reply_of made ≡ Picked pick → ⊥
never (Stole pid from) pick is = cc
never (Missed from) pick is = cc
never NoBalance pick is = cc

pub returns-clause-scheduled : goal.returns-clause-scheduled
returns-clause-scheduled g c pick is = absurd (never c.answer_try.ensures.tries.made pick (sym c.answer_try.ensures.tries.answer ∙ is))

pub returns-then-lane-clause-scheduled : goal.returns-then-lane-clause-scheduled
returns-then-lane-clause-scheduled g c pick is = c.resched.ensures.scheduled

pub returns-then-lane-eq0-clause-scheduled : goal.returns-then-lane-eq0-clause-scheduled
returns-then-lane-eq0-clause-scheduled g c pick is = absurd (never NoBalance pick is)

-- nor does a sibling that is offline
never_offline : (pick : Pick) → Offline ≡ Picked pick → ⊥
never_offline pick is = cc

pub returns-then-not-is_online-clause-scheduled : goal.returns-then-not-is_online-clause-scheduled
returns-then-not-is_online-clause-scheduled g c pick is = absurd (never_offline pick is)

pub resched-requires : goal.resched-requires
resched-requires g c = c.requires

pub returns-then-not-is_online-clause-counted : goal.returns-then-not-is_online-clause-counted
returns-then-not-is_online-clause-counted g c = le-add_right c.args.comparisons.now _

pub returns-then-lane-eq0-clause-counted : goal.returns-then-lane-eq0-clause-counted
returns-then-lane-eq0-clause-counted g c = le-add_right c.args.comparisons.now _
