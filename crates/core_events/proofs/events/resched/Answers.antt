use Rattle.std.proofs.Common.{◌≡◌, ◌∙◌, ap, sym, subst, ◌*◌, length, arith}
use Rattle.cs_types.specs.declared.event.Event.TheVariants.{Resched}
use Rattle.cs_types.specs.declared.reply.Reply.TheVariants.{Picked, Offline}
use Rattle.cs_types.specs.Selection.{Scheduled, schedule}
use Rattle.cs_types.specs.Step.{picked}
use Rattle.core_lanes.specs.Lanes.{at, beside_after, room_of}
use Rattle.core_lanes.specs.Numbers.{booked, took, is_fresh_by}
use Rattle.core_tasks.specs.declared.state.State.{State}
use Rattle.core_tasks.specs.State.{both, beside_of, room_with, state_numbers}
use Rattle.core_tasks.specs.Steps.{MakesStep, Makes}
use Rattle.core_tasks.proofs.States.{lifted, leaves_all, untouched}
use Rattle.core_events.proofs.Onlines.{when_online, when_offline}
use Rattle.core_events.proofs.Sleeps.{took-resched}
use Rattle.core_events.proofs.Readies.{may_schedule, same_schedule}
use Rattle.core_events.proofs.Compared.{schedule_calls, for_event}
use Rattle.core_events.proofs.events.resched.Goals as goal

pub schedule-requires : goal.schedule-requires
schedule-requires g c = may_schedule c.args.state.now c.args.cpu c.requires.cpu c.requires.ready

pub returns-in-Some-clause-makes : goal.returns-in-Some-clause-makes
returns-in-Some-clause-makes g c =
    let old = c.args.state.now in
    let cpu = c.args.cpu in
    let pick = c.in-Some.pick in
    let schedules = c.in-Some.ensures.schedules in
    let fresh = is_fresh_by (state_numbers old) in
    record {
      step = λ intervals.
          let beside = beside_of intervals old in
          let room = room_with intervals old in
          let made = when_online room cpu (picked Picked (schedule room fresh cpu)) (sym (c.in-Some.ensures.online beside)) in
          let same = same_schedule (state_numbers old) room cpu (c.requires.ready.behind cpu c.requires.cpu) in
          subst (MakesStep intervals old _ (Resched cpu) (Picked pick)) made (record {
            reply = ap Picked (schedules.pick beside ∙ ap (λ (scheduled : Scheduled). scheduled.pick) same);
            room = subst (λ (scheduled : Scheduled). room_of (beside_after (at old.clock beside) scheduled.room) (c.schedule.new.core, c.schedule.new.table) ≡ scheduled.room) same
                (schedules.room beside);
            numbers = λ kept. schedules.numbers beside kept
                ∙ ap (λ (scheduled : Scheduled). took cpu pick (booked scheduled.room (state_numbers old))) same
                ∙ took-resched room cpu pick (booked (schedule room fresh cpu).room (state_numbers old));
          });
      stays = lifted old (c.schedule.new.core, c.schedule.new.table) schedules.stays;
    }

pub returns-in-None-clause-makes : goal.returns-in-None-clause-makes
returns-in-None-clause-makes g c =
    let old = c.args.state.now in
    let cpu = c.args.cpu in
    let fresh = is_fresh_by (state_numbers old) in
    subst (λ (state : State g.row.Q.Denot g.row.G.Denot g.Q.SiblingQueue). Makes old state (Resched cpu) Offline)
    (λ i. record old { core = sym c.in-None.ensures.unchanged.0 i; tasks = sym c.in-None.ensures.unchanged.1 i })
    (leaves_all old (Resched cpu) Offline (λ intervals. untouched (state_numbers old)) (λ intervals.
    let room = room_with intervals old in
    when_offline room cpu (picked Picked (schedule room fresh cpu)) (sym (c.in-None.ensures.online (beside_of intervals old)))))

pub returns-in-Some-clause-counted : goal.returns-in-Some-clause-counted
returns-in-Some-clause-counted g c =
    let old = c.args.state.now in
    let rises = g.met.Q.SiblingQueue.rises in
    for_event rises (2 * length old.core.lanes.items) old (Resched c.args.cpu) _ _ (omega arith) (schedule_calls rises (both old) _ _ c.in-Some.ensures.counted)

pub returns-in-None-clause-counted : goal.returns-in-None-clause-counted
returns-in-None-clause-counted g c =
    let old = c.args.state.now in
    let rises = g.met.Q.SiblingQueue.rises in
    for_event rises (2 * length old.core.lanes.items) old (Resched c.args.cpu) _ _ (omega arith) (schedule_calls rises (both old) _ _ c.in-None.ensures.counted)
