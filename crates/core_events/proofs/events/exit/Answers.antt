use Rattle.std.proofs.Common.{◌≡◌, ◌+◌, ◌^◌, ◌<◌, ap, ◌∙◌, refl, sym, subst, false, [], Some, None, Bool, ◌*◌, ◌≤◌, length, arith}
use Rattle.std.proofs.Math.Nat.{le-add_right}
use Rattle.cs_types.specs.declared.event.Event.TheVariants.{Exit}
use Rattle.cs_types.specs.declared.reply.Reply.TheVariants.{Ended, HasThreads, Idle, Offline}
use Rattle.cs_types.specs.Room.{RoomState, has_pid, running_on}
use Rattle.cs_types.specs.Selection.{Scheduled, schedule}
use Rattle.cs_types.specs.Accounting.{charge}
use Rattle.cs_types.specs.Step.{Stepped, run_idle, exit, without, has_threads, picked}
use Rattle.cs_laws.proofs.Accounts.{now-charge}
use Rattle.core_lanes.specs.Lanes.{BareCore, AreLow, room_of, bare}
use Rattle.core_lanes.specs.Numbers.{Numbers, booked, took, touched, with_ended}
use Rattle.std.proofs.lemmas.Bool.{cond-true, cond-false}
use Rattle.core_tasks.specs.State.{both, beside_of, room_with, state_numbers}
use Rattle.core_tasks.proofs.States.{once_charged, lifted, leaves_all, untouched, both_stay}
use Rattle.core_events.proofs.Onlines.{there_too, when_running, when_offline}
use Rattle.core_events.proofs.Sleeps.{took-touched}
use Rattle.core_events.proofs.Lows.{HasLow, low_idled, low_without}
use Rattle.core_events.proofs.Readies.{low_times, may_pick, may_touch_after, picked_charged}
use Rattle.core_clock.proofs.Changes.{still_below}
use Rattle.task_table.specs.Table.{Table}
use Rattle.cs_types.specs.declared.task.Task.{Task}
use Rattle.std.proofs.lemmas.List.Filters.{length-filter_both}
use Rattle.std.specs.Prelude.{not}
use Rattle.core_lanes.proofs.Counted.{later, and_then, no_more_live}
use Rattle.core_events.proofs.Compared.{schedule_after, for_event, as_many_siblings}
use Rattle.core_lanes.specs.Queued.{IsOf}
use Rattle.core_lanes.proofs.Stays as core
use Rattle.core_events.proofs.events.exit.Goals as goal

pub run_idle-requires : goal.run_idle-requires
run_idle-requires g c = subst (λ n. c.args.cpu < n) (sym c.end.ensures.touches.stays.siblings) (still_below c.charge.ensures.charges.stays c.requires.cpu)

pub has_threads-requires : goal.has_threads-requires
has_threads-requires g c = there_too c.runner.result c.args.state.now.tasks.tasks c.in-Some.task c.runner.ensures.there c.in-Some.ensures

pub end-requires : goal.end-requires
end-requires g c = record {
  there = subst (λ (table : Table). IsOf table.tasks c.in-Some.task) (sym c.charge.ensures.table) (there_too c.runner.result c.args.state.now.tasks.tasks c.in-Some.task c.runner.ensures.there c.in-Some.ensures);
  sound = (lifted c.args.state.now (c.charge.new.core, c.charge.new.table) c.charge.ensures.charges.stays).sound c.requires.ready.sound;
  alone = λ intervals.
      sym (c.has_threads.ensures (room_of (beside_of intervals c.args.state.now) (c.charge.new.core, c.charge.new.table)) (ap (λ (table : Table). table.tasks) c.charge.ensures.table))
      ∙ c.if-has_threads.false;
  touches = subst (λ n. n + 1 < 2 ^ 64) (sym (ap (λ (b : BareCore). b.task_number) c.charge.ensures.core)) (may_pick c.args.state.now c.args.cpu c.requires.cpu c.requires.ready).touches;
  spare = c.requires.ready.spares.ended;
}

pub pick_and_balance-requires : goal.pick_and_balance-requires
pick_and_balance-requires g c =
    let old = c.args.state.now in
    let task = c.in-Some.task in
    let first = low_times old c.requires.ready.time in
    let ended = c.end.new.self in
    let idle = c.run_idle.ensures ended.tasks in
    let paid_core = c.charge.ensures.core in
    let mid = room_with [] (record old { core = c.charge.new.core; tasks = c.charge.new.table }) in
    let paid : HasLow mid = subst (λ (table : Table). AreLow (bare c.charge.new.core).siblings table.tasks) (sym c.charge.ensures.table)
    (subst (λ (b : BareCore). AreLow b.siblings old.tasks.tasks) (sym paid_core) first) in
    let sound = c.end.ensures.touches.stays.sound ((lifted old (c.charge.new.core, c.charge.new.table) c.charge.ensures.charges.stays).sound c.requires.ready.sound) in
    record {
      cpu = still_below (c.run_idle.ensures c.end.new.self.tasks).stays (subst (λ n. c.args.cpu < n) (sym c.end.ensures.touches.stays.siblings) (still_below c.charge.ensures.charges.stays c.requires.cpu));
      agree = idle.stays.agree sound.agree;
      low = subst HasLow
          (sym (idle.room (beside_of [] ended) ∙ ap (λ (r : RoomState). run_idle r c.args.cpu) (c.end.ensures.touches.room [])))
          (low_idled (without mid task) c.args.cpu (low_without mid task paid));
      clock = subst (λ n. n < 2 ^ 56) (sym (ap (λ (r : RoomState). r.clock) (c.end.ensures.touches.room []))) (may_pick old c.args.cpu c.requires.cpu c.requires.ready).clock;
      touches = may_touch_after old c.requires.ready _ _
          (ap (λ (b : BareCore). b.task_number) paid_core) (ap (with_ended ended.ended.items) idle.numbers ∙ c.end.ensures.touches.numbers);
    }

pub returns-then-not-is_online-clause-makes : goal.returns-then-not-is_online-clause-makes
returns-then-not-is_online-clause-makes g c = leaves_all c.args.state.now (Exit c.args.cpu) Offline (λ intervals. untouched (state_numbers c.args.state.now)) (λ intervals.
    let room = room_with intervals c.args.state.now in
    when_offline room c.args.cpu (exit room c.args.cpu (running_on room c.args.cpu)) (sym (c.is_online.ensures (beside_of intervals c.args.state.now) c.args.state.now.tasks) ∙ c.if-not-is_online.true))

pub returns-in_default-clause-makes : goal.returns-in_default-clause-makes
returns-in_default-clause-makes g c = leaves_all c.args.state.now (Exit c.args.cpu) Idle (λ intervals. untouched (state_numbers c.args.state.now)) (λ intervals.
    let room = room_with intervals c.args.state.now in
    let beside = beside_of intervals c.args.state.now in
    when_running room c.args.cpu (exit room c.args.cpu) None (c.in_default.ensures ∙ c.runner.ensures.task beside) (sym (c.is_online.ensures beside c.args.state.now.tasks) ∙ c.if-not-is_online.false))

pub returns-then-has_threads-clause-makes : goal.returns-then-has_threads-clause-makes
returns-then-has_threads-clause-makes g c = leaves_all c.args.state.now (Exit c.args.cpu) HasThreads (λ intervals. untouched (state_numbers c.args.state.now)) (λ intervals.
    let room = room_with intervals c.args.state.now in
    let beside = beside_of intervals c.args.state.now in
    let task = c.in-Some.task in
    let leads = sym (c.has_threads.ensures room refl) ∙ c.if-has_threads.true in
    let goes : Stepped = picked (Ended task.spec.pid) (schedule (run_idle (without (charge room) task) c.args.cpu) false c.args.cpu) in
    sym (cond-true (has_threads room task) (record { reply = HasThreads; room = room }) goes leads)
    ∙ when_running room c.args.cpu (exit room c.args.cpu) (Some task) (c.in-Some.ensures ∙ c.runner.ensures.task beside) (sym (c.is_online.ensures beside c.args.state.now.tasks) ∙ c.if-not-is_online.false))

pub returns-clause-makes : goal.returns-clause-makes
returns-clause-makes g c =
    let old = c.args.state.now in
    let cpu = c.args.cpu in
    let task = c.in-Some.task in
    let ended = c.end.new.self in
    let idle = c.run_idle.ensures ended.tasks in
    record {
      step = λ intervals.
          let room = room_with intervals old in
          let beside = beside_of intervals old in
          let alone = sym (c.has_threads.ensures room refl) ∙ c.if-has_threads.false in
          let goes : Stepped = picked (Ended task.spec.pid) (schedule (run_idle (without (charge room) task) cpu) false cpu) in
          let stays : Stepped = record { reply = HasThreads; room = room } in
          let up = sym (cond-false (has_threads room task) stays goes alone)
          ∙ when_running room cpu (exit room cpu) (Some task) (c.in-Some.ensures ∙ c.runner.ensures.task beside) (sym (c.is_online.ensures beside old.tasks) ∙ c.if-not-is_online.false) in
          let after = (charge room).intervals in
          let paid = beside_of after ended in
          let gone = run_idle (without (charge room) task) cpu in
          let is : room_of paid (c.run_idle.new.self, ended.tasks) ≡ gone =
          idle.room paid ∙ ap (λ (r : RoomState). run_idle r cpu) (c.end.ensures.touches.room after ∙ ap (λ (r : RoomState). without r task) (c.charge.ensures.charges.room beside)) in
          let clock : ended.clock ≡ old.clock = ap (λ (r : RoomState). r.clock) (c.end.ensures.touches.room after) in
          let scheduled = picked_charged (room_of paid (c.run_idle.new.self, ended.tasks)) gone cpu (now-charge room) is in
          once_charged (record {
            reply = ap (Ended task.spec.pid) (c.pick_and_balance.ensures.schedules.pick paid ∙ ap (λ (made : Scheduled). made.pick) scheduled) ∙ ap (λ (m : Stepped). m.reply) up;
            room = c.pick_and_balance.ensures.schedules.room paid ∙ ap (λ (made : Scheduled). made.room) scheduled ∙ ap (λ (m : Stepped). m.room) up;
            numbers = λ kept. ap (with_ended ended.ended.items) c.pick_and_balance.ensures.schedules.numbers
                ∙ ap (λ (numbers : Numbers). took cpu c.pick_and_balance.result numbers)
                (ap (with_ended ended.ended.items) idle.numbers ∙ c.end.ensures.touches.numbers ∙ ap (λ (numbers : Numbers). touched 1 numbers) (c.charge.ensures.charges.numbers beside kept))
                ∙ took-touched room cpu task.spec.pid c.pick_and_balance.result (booked (charge room) (state_numbers old));
          });
      stays = both_stay (lifted old (c.charge.new.core, c.charge.new.table) c.charge.ensures.charges.stays)
          (both_stay c.end.ensures.touches.stays
          (lifted ended (c.pick_and_balance.new.core, c.pick_and_balance.new.table) (core.both_stay idle.stays c.pick_and_balance.ensures.schedules.stays)));
    }

pub returns-clause-counted : goal.returns-clause-counted
returns-clause-counted g c =
    let rises = g.met.Q.SiblingQueue.rises in
    let old = c.args.state.now in
    let schedules = 2 * length old.core.lanes.items in
    let charged = c.charge.ensures.charges.stays in
    let ended = c.end.new.self in
    let idle = (c.run_idle.ensures ended.tasks).stays in
    let gone : Task → Bool = λ other. not (has_pid c.in-Some.task.spec.pid other) in
    let fewer : length ended.tasks.tasks ≤ length old.tasks.tasks =
    omega (arith, ap (λ (r : RoomState). length r.tasks) (c.end.ensures.touches.room []), length-filter_both gone (λ other. not (gone other)) (λ other. refl) c.charge.new.table.tasks, no_more_live charged) in
    for_event rises (2 + schedules) old (Exit c.args.cpu) _ _ (omega arith)
    (and_then 2 schedules (2 + schedules) (both old) _ _ _ refl
    (later rises 2 (c.charge.new.core, c.charge.new.table) (both old) _ _ (no_more_live charged) c.end.ensures.counted)
    (schedule_after rises (c.run_idle.new.self, ended.tasks) (both old) _ _
    (as_many_siblings idle ∙ c.end.ensures.touches.stays.siblings ∙ as_many_siblings charged) fewer c.pick_and_balance.ensures.counted))

pub returns-then-not-is_online-clause-counted : goal.returns-then-not-is_online-clause-counted
returns-then-not-is_online-clause-counted g c = le-add_right c.args.comparisons.now _

pub returns-in_default-clause-counted : goal.returns-in_default-clause-counted
returns-in_default-clause-counted g c = le-add_right c.args.comparisons.now _

pub returns-then-has_threads-clause-counted : goal.returns-then-has_threads-clause-counted
returns-then-has_threads-clause-counted g c = le-add_right c.args.comparisons.now _

pub charge-requires : goal.charge-requires
charge-requires g c = record { agree = c.requires.ready.sound.agree; paid = c.requires.ready.paid }
