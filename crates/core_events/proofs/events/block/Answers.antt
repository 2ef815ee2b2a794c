use Rattle.std.proofs.Common.{◌≡◌, ◌+◌, ◌<◌, ◌^◌, ap, ◌∙◌, refl, sym, subst, Some, None, ◌*◌, length, arith}
use Rattle.std.proofs.Math.Nat.{le-add_right}
use Rattle.cs_types.specs.declared.event.Event.TheVariants.{Block}
use Rattle.cs_types.specs.declared.reply.Reply.TheVariants.{Slept, Idle, Offline}
use Rattle.cs_types.specs.declared.task.Task.{Task}
use Rattle.cs_types.specs.Room.{RoomState, running_on}
use Rattle.cs_types.specs.Selection.{Scheduled}
use Rattle.cs_types.specs.Accounting.{charge}
use Rattle.cs_types.specs.Queueing.{dequeue}
use Rattle.cs_types.specs.Step.{Stepped, run_idle, block}
use Rattle.cs_laws.proofs.Accounts.{now-charge}
use Rattle.core_lanes.specs.Lanes.{BareCore, AreLow, beside_after, room_of, bare}
use Rattle.core_lanes.specs.Numbers.{Numbers, booked, took, touched, with_ended}
use Rattle.core_lanes.proofs.Stays.{both_stay, found_in, some_beside}
use Rattle.core_tasks.specs.State.{both, beside_of, room_with, state_numbers}
use Rattle.core_tasks.proofs.States.{once_charged, lifted, leaves_all, untouched}
use Rattle.core_events.proofs.Onlines.{there_too, when_running, when_offline}
use Rattle.core_events.proofs.Sleeps.{took-touched}
use Rattle.core_events.proofs.Lows.{HasLow, low_idled, low_dequeued}
use Rattle.core_events.proofs.Readies.{low_times, may_pick, may_touch_after, picked_charged}
use Rattle.core_clock.proofs.Changes.{still_below}
use Rattle.task_table.specs.Table.{Table}
use Rattle.core_lanes.proofs.Counted.{later, and_then, no_more_live}
use Rattle.core_events.proofs.Compared.{schedule_after, for_event, as_many_siblings}
use Rattle.core_lanes.specs.Queued.{IsOf}
use Rattle.core_events.proofs.events.block.Goals as goal

pub run_idle-requires : goal.run_idle-requires
run_idle-requires g c =
    let there = subst (λ (table : Table). IsOf table.tasks c.in-Some.task) (sym c.charge.ensures.table) (there_too c.runner.result c.args.state.now.tasks.tasks c.in-Some.task c.runner.ensures.there c.in-Some.ensures) in
    let slept = c.put_to_sleep.ensures.touches c.in-Some.task there in
    still_below (both_stay c.charge.ensures.charges.stays slept.stays) c.requires.cpu

pub put_to_sleep-requires : goal.put_to_sleep-requires
put_to_sleep-requires g c = record {
  agree = c.charge.ensures.charges.stays.agree c.requires.ready.sound.agree;
  task = c.in-Some.task;
  there = subst (λ (table : Table). IsOf table.tasks c.in-Some.task) (sym c.charge.ensures.table) (there_too c.runner.result c.args.state.now.tasks.tasks c.in-Some.task c.runner.ensures.there c.in-Some.ensures);
  touches =
      subst (λ n. n + 1 < 2 ^ 64) (sym (ap (λ (b : BareCore). b.task_number) c.charge.ensures.core)) (may_pick c.args.state.now c.args.cpu c.requires.cpu c.requires.ready).touches;
}

pub pick_and_balance-requires : goal.pick_and_balance-requires
pick_and_balance-requires g c =
    let there = subst (λ (table : Table). IsOf table.tasks c.in-Some.task) (sym c.charge.ensures.table) (there_too c.runner.result c.args.state.now.tasks.tasks c.in-Some.task c.runner.ensures.there c.in-Some.ensures) in
    let slept = c.put_to_sleep.ensures.touches c.in-Some.task there in
    let old = c.args.state.now in
    let task = c.in-Some.task in
    let first = low_times old c.requires.ready.time in
    let low : task.vtime < 2 ^ 100 = found_in (λ (t : Task). t.vtime < 2 ^ 100) task.spec.pid old.tasks.tasks task first.vtimes (there_too c.runner.result c.args.state.now.tasks.tasks c.in-Some.task c.runner.ensures.there c.in-Some.ensures) in
    let idle = c.run_idle.ensures c.put_to_sleep.new.table in
    let paid_core = c.charge.ensures.core in
    let mid = room_of some_beside (c.charge.new.core, c.charge.new.table) in
    let paid : HasLow mid = subst (λ (table : Table). AreLow (bare c.charge.new.core).siblings table.tasks) (sym c.charge.ensures.table)
    (subst (λ (b : BareCore). AreLow b.siblings old.tasks.tasks) (sym paid_core) first) in
    record {
      cpu = still_below (both_stay c.charge.ensures.charges.stays (both_stay slept.stays (c.run_idle.ensures c.put_to_sleep.new.table).stays)) c.requires.cpu;
      agree = idle.stays.agree (slept.stays.agree (c.charge.ensures.charges.stays.agree c.requires.ready.sound.agree));
      low = subst HasLow
          (sym (idle.room some_beside ∙ ap (λ (r : RoomState). run_idle r c.args.cpu) (slept.room some_beside)))
          (low_idled (dequeue mid task) c.args.cpu (low_dequeued mid task low paid));
      clock = (may_pick old c.args.cpu c.requires.cpu c.requires.ready).clock;
      touches = may_touch_after old c.requires.ready _ _
          (ap (λ (b : BareCore). b.task_number) paid_core) (idle.numbers ∙ slept.numbers);
    }

pub returns-then-not-is_online-clause-makes : goal.returns-then-not-is_online-clause-makes
returns-then-not-is_online-clause-makes g c = leaves_all c.args.state.now (Block c.args.cpu) Offline (λ intervals. untouched (state_numbers c.args.state.now)) (λ intervals.
    let room = room_with intervals c.args.state.now in
    when_offline room c.args.cpu (block room c.args.cpu (running_on room c.args.cpu)) (sym (c.is_online.ensures (beside_of intervals c.args.state.now) c.args.state.now.tasks) ∙ c.if-not-is_online.true))

pub returns-in_default-clause-makes : goal.returns-in_default-clause-makes
returns-in_default-clause-makes g c = leaves_all c.args.state.now (Block c.args.cpu) Idle (λ intervals. untouched (state_numbers c.args.state.now)) (λ intervals.
    let room = room_with intervals c.args.state.now in
    let beside = beside_of intervals c.args.state.now in
    when_running room c.args.cpu (block room c.args.cpu) None (c.in_default.ensures ∙ c.runner.ensures.task beside) (sym (c.is_online.ensures beside c.args.state.now.tasks) ∙ c.if-not-is_online.false))

pub returns-clause-makes : goal.returns-clause-makes
returns-clause-makes g c =
    let there = subst (λ (table : Table). IsOf table.tasks c.in-Some.task) (sym c.charge.ensures.table) (there_too c.runner.result c.args.state.now.tasks.tasks c.in-Some.task c.runner.ensures.there c.in-Some.ensures) in
    let slept = c.put_to_sleep.ensures.touches c.in-Some.task there in
    let old = c.args.state.now in
    let cpu = c.args.cpu in
    let task = c.in-Some.task in
    let idle = c.run_idle.ensures c.put_to_sleep.new.table in
    record {
      step = λ intervals.
          let room = room_with intervals old in
          let beside = beside_of intervals old in
          let paid = beside_after beside (charge room) in
          let gone = run_idle (dequeue (charge room) task) cpu in
          let is : room_of paid (c.run_idle.new.self, c.put_to_sleep.new.table) ≡ gone =
          idle.room paid ∙ ap (λ (r : RoomState). run_idle r cpu) (slept.room paid ∙ ap (λ (r : RoomState). dequeue r task) (c.charge.ensures.charges.room beside)) in
          let scheduled = picked_charged (room_of paid (c.run_idle.new.self, c.put_to_sleep.new.table)) gone cpu (now-charge room) is in
          let up = when_running room cpu (block room cpu) (Some task) (c.in-Some.ensures ∙ c.runner.ensures.task beside) (sym (c.is_online.ensures beside old.tasks) ∙ c.if-not-is_online.false) in
          once_charged (record {
            reply = ap (Slept task.spec.pid) (c.pick_and_balance.ensures.schedules.pick paid ∙ ap (λ (made : Scheduled). made.pick) scheduled) ∙ ap (λ (m : Stepped). m.reply) up;
            room = c.pick_and_balance.ensures.schedules.room paid ∙ ap (λ (made : Scheduled). made.room) scheduled ∙ ap (λ (m : Stepped). m.room) up;
            numbers = λ kept. ap (with_ended old.ended.items) c.pick_and_balance.ensures.schedules.numbers
                ∙ ap (λ (numbers : Numbers). took cpu c.pick_and_balance.result numbers)
                (ap (with_ended old.ended.items) (idle.numbers ∙ slept.numbers) ∙ ap (λ (numbers : Numbers). touched 1 numbers) (c.charge.ensures.charges.numbers beside kept))
                ∙ took-touched room cpu task.spec.pid c.pick_and_balance.result (booked (charge room) (state_numbers old));
          });
      stays = lifted old (c.pick_and_balance.new.core, c.pick_and_balance.new.table)
          (both_stay c.charge.ensures.charges.stays (both_stay slept.stays (both_stay idle.stays c.pick_and_balance.ensures.schedules.stays)));
    }

pub returns-clause-counted : goal.returns-clause-counted
returns-clause-counted g c =
    let there = subst (λ (table : Table). IsOf table.tasks c.in-Some.task) (sym c.charge.ensures.table) (there_too c.runner.result c.args.state.now.tasks.tasks c.in-Some.task c.runner.ensures.there c.in-Some.ensures) in
    let slept = c.put_to_sleep.ensures.touches c.in-Some.task there in
    let rises = g.met.Q.SiblingQueue.rises in
    let old = c.args.state.now in
    let schedules = 2 * length old.core.lanes.items in
    let charged = c.charge.ensures.charges.stays in
    let idle = both_stay charged (both_stay slept.stays (c.run_idle.ensures c.put_to_sleep.new.table).stays) in
    for_event rises (1 + schedules) old (Block c.args.cpu) _ _ (omega arith)
    (and_then 1 schedules (1 + schedules) (both old) _ _ _ refl
    (later rises 1 (c.charge.new.core, c.charge.new.table) (both old) _ _ (no_more_live charged) c.put_to_sleep.ensures.counted)
    (schedule_after rises (c.run_idle.new.self, c.put_to_sleep.new.table) (both old) _ _ (as_many_siblings idle) (no_more_live idle) c.pick_and_balance.ensures.counted))

pub returns-then-not-is_online-clause-counted : goal.returns-then-not-is_online-clause-counted
returns-then-not-is_online-clause-counted g c = le-add_right c.args.comparisons.now _

pub returns-in_default-clause-counted : goal.returns-in_default-clause-counted
returns-in_default-clause-counted g c = le-add_right c.args.comparisons.now _

pub charge-requires : goal.charge-requires
charge-requires g c = record { agree = c.requires.ready.sound.agree; paid = c.requires.ready.paid }
