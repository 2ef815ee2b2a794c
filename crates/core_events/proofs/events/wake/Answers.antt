use Rattle.std.proofs.Common.{◌≡◌, ◌<◌, ◌^◌, ◌∙◌, ap, sym, subst, refl, arith}
use Rattle.std.proofs.lemmas.Bool.{cond-false, cond_both, cond-true}
use Rattle.std.specs.Prelude.{Some}
use Rattle.cs_types.specs.declared.task.Task.{Task}
use Rattle.cs_types.specs.declared.reply.Reply.TheVariants.{Woken, NoTask, Awake}
use Rattle.cs_types.specs.Room.{RoomState, is_online, lowest_online}
use Rattle.cs_types.specs.Queueing.{moved_to, rehomed, queue_at_home}
use Rattle.cs_types.specs.Step.{Stepped, wake}
use Rattle.cs_laws.proofs.Tasks.{found_again}
use Rattle.core_lanes.specs.Lanes.{room_of}
use Rattle.core_lanes.proofs.Stays.{found_in, some_beside}
use Rattle.core_tasks.specs.State.{beside_of, both, room_with, state_numbers}
use Rattle.core_tasks.proofs.States.{uncharged, lifted, leaves_all, untouched}
use Rattle.core_events.proofs.Readies.{low_times}
use Rattle.core_tasks.proofs.Known.{fits_found}
use Rattle.core_events.proofs.Wakes.{may_wake}
use Rattle.cs_types.specs.declared.event.Event.TheVariants.{Wake}
use Rattle.core_lanes.specs.Numbers.{with_ended}
use Rattle.core_events.proofs.Compared.{for_event}
use Rattle.core_events.proofs.events.wake.Goals as goal

pub rehome-requires : goal.rehome-requires
rehome-requires g c =
    let low = low_times c.args.state.now c.requires.ready.time in
    let found = sym c.in-Some.ensures.task in
    record {
      home = (fits_found (both c.args.state.now) c.args.pid c.in-Some.task.now c.requires.ready.sound.agree found).home;
      vtime = found_in (λ (t : Task). t.vtime < 2 ^ 100) c.args.pid c.args.state.now.tasks.tasks c.in-Some.task.now low.vtimes found;
      leasts = low.leasts;
    }

-- a task at another home is the same but for its home and its virtual time
kept : (room : RoomState) (task : Task) → let at = rehomed room task in at ≡ record task { home = at.home; vtime = at.vtime }
kept room task =
    cond_both (is_online room task.home) task (moved_to room (lowest_online room) task) (λ (t : Task). t ≡ record task { home = t.home; vtime = t.vtime }) (λ _. refl) (λ _. refl)

pub wake_at_home-requires : goal.wake_at_home-requires
wake_at_home-requires g c =
    let state = c.args.state.now in
    let task = c.in-Some.task.now in
    let is = subst (λ (t : Task). t ≡ record task { home = t.home; vtime = t.vtime }) (sym (c.rehome.ensures.rehomed some_beside state.tasks)) (kept (room_of some_beside (both state)) task) in
    let fit = fits_found (both state) c.args.pid task c.requires.ready.sound.agree (sym c.in-Some.ensures.task) in
    may_wake state.clock (both state) c.rehome.new.task task c.requires.ready.sound.agree (found_again c.args.pid state.tasks.tasks task (sym c.in-Some.ensures.task)) c.if-task.false
    (is ∙ (λ i. record task { home = c.rehome.new.task.home; queued = (sym is i).queued; vtime = c.rehome.new.task.vtime })) c.rehome.ensures.within fit.policy
    c.requires.ready.time.clock (omega (arith, c.requires.ready.spares.stamps)) (omega (arith, c.requires.ready.spares.touches))

pub returns-clause-makes : goal.returns-clause-makes
returns-clause-makes g c =
    let old = c.args.state.now in
    let task = c.in-Some.task.now in
    let queued = c.wake_at_home.ensures.touches in
    record {
      step = λ intervals.
          let room = room_with intervals old in
          let beside = beside_of intervals old in
          let made : Task → Stepped = λ moved. record { reply = Woken moved.home; room = queue_at_home room moved } in
          let is : made c.rehome.new.task ≡ wake room (Some task) =
          ap made (c.rehome.ensures.rehomed beside old.tasks) ∙ sym (cond-false task.queued _ (made (rehomed room task)) c.if-task.false) in
          uncharged (record {
            reply = ap (λ (m : Stepped). m.reply) is ∙ ap (λ found. (wake room found).reply) c.in-Some.ensures.task;
            room = queued.room beside ∙ ap (λ (m : Stepped). m.room) is ∙ ap (λ found. (wake room found).room) c.in-Some.ensures.task;
            numbers = ap (with_ended old.ended.items) queued.numbers;
          });
      stays = lifted old (c.wake_at_home.new.core, c.wake_at_home.new.table) queued.stays;
    }

pub returns-in_default-clause-makes : goal.returns-in_default-clause-makes
returns-in_default-clause-makes g c = leaves_all c.args.state.now (Wake c.args.pid) NoTask (λ intervals. untouched (state_numbers c.args.state.now)) (λ intervals.
    ap (wake (room_with intervals c.args.state.now)) c.in_default.ensures.task)

pub returns-then-task-clause-makes : goal.returns-then-task-clause-makes
returns-then-task-clause-makes g c = leaves_all c.args.state.now (Wake c.args.pid) Awake (λ intervals. untouched (state_numbers c.args.state.now)) (λ intervals.
    let room = room_with intervals c.args.state.now in
    sym (cond-true c.in-Some.task.now.queued (record { reply = Awake; room = room }) _ c.if-task.true) ∙ ap (wake room) c.in-Some.ensures.task)

pub returns-clause-counted : goal.returns-clause-counted
returns-clause-counted g c = for_event g.met.Q.SiblingQueue.rises 1 c.args.state.now (Wake c.args.pid) _ _ (omega arith) c.wake_at_home.ensures.counted
