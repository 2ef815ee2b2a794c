use Rattle.std.proofs.Common.{◌≡◌, refl, ap, ◌∙◌, sym, subst, ◌<◌, length, arith, [], ◌+◌, ◌≤◌}
use Rattle.std.proofs.lemmas.Bool.{cond-false, cond-true}
use Rattle.std.specs.Prelude.{Some}
use Rattle.cs_types.specs.declared.reply.Reply.TheVariants.{Child, NoCaller, Refused}
use Rattle.cs_types.specs.declared.task.Task.{Task}
use Rattle.cs_types.specs.Scenario.{IsPolicy}
use Rattle.cs_types.specs.Room.{RoomState}
use Rattle.cs_types.specs.Queueing.{queue_at_home}
use Rattle.cs_types.specs.Step.{Stepped, fork, child_at_home, child_of, with_child}
use Rattle.core_lanes.specs.Numbers.{Numbers, touched, with_ended}
use Rattle.core_lanes.proofs.Stays.{some_beside}
use Rattle.core_tasks.specs.State.{beside_of, both, room_with, state_numbers}
use Rattle.core_tasks.proofs.States.{uncharged, lifted, leaves_all, untouched, both_stay}
use Rattle.core_tasks.proofs.Known.{fits_found}
use Rattle.core_events.proofs.Wakes.{may_wake}
use Rattle.cs_types.specs.declared.event.Event.TheVariants.{Fork}
use Rattle.cs_types.specs.declared.reply.Errno.TheVariants.{Eagain}
use Rattle.core_tasks.specs.declared.state.State.{State}
use Rattle.core_tasks.specs.Steps.{Makes}
use Rattle.cs_types.proofs.Inserted.{length-inserted}
use Rattle.core_events.proofs.events.fork.Goals as goal

pub child_at_home-task-requires : goal.child_at_home-task-requires
child_at_home-task-requires g c =
    let makes = c.in-Ok.ensures in
    let born = makes.2 in
    let fit = fits_found (both c.args.state.now) c.args.caller makes.0 c.requires.ready.sound.agree makes.1 in
    let after = c.make_child.new.self in
    subst (λ (task : Task). task.home < length after.core.lanes.items) (sym born.is)
    (subst (λ count. makes.0.home < count) (sym born.stays.siblings) fit.home)

-- the child at home is the child but for its home and its virtual time
pub wake_at_home-requires : goal.wake_at_home-requires
wake_at_home-requires g c =
    let makes = c.in-Ok.ensures in
    let born = makes.2 in
    let after = c.make_child.new.self in
    let fit = fits_found (both c.args.state.now) c.args.caller makes.0 c.requires.ready.sound.agree makes.1 in
    let child = c.in-Ok.child in
    let is : c.child_at_home-task.result ≡ record child { home = c.child_at_home-task.result.home; vtime = c.child_at_home-task.result.vtime } =
    subst (λ (t : Task). t ≡ record child { home = t.home; vtime = t.vtime }) (sym (c.child_at_home-task.ensures.child_at_home some_beside after.tasks)) refl in
    may_wake after.clock (both after) c.child_at_home-task.result child (born.stays.sound c.requires.ready.sound).agree born.there (ap (λ (task : Task). task.queued) born.is)
    (is ∙ (λ i. record child { home = c.child_at_home-task.result.home; queued = (sym is i).queued; vtime = c.child_at_home-task.result.vtime }))
    c.child_at_home-task.ensures.within (subst (λ (task : Task). IsPolicy task.spec.policy) (sym born.is) fit.policy)
    (omega (arith, ap (λ (room : RoomState). room.clock) (born.room []), c.requires.ready.time.clock))
    (omega (arith, ap (λ (room : RoomState). room.next_stamp) (born.room []), c.requires.ready.spares.stamps))
    (omega (arith, ap (λ (numbers : Numbers). numbers.task) born.numbers, c.requires.ready.spares.touches))

pub returns-in-Ok-clause-makes : goal.returns-in-Ok-clause-makes
returns-in-Ok-clause-makes g c =
    let old = c.args.state.now in
    let after = c.make_child.new.self in
    let makes = c.in-Ok.ensures in
    let born = makes.2 in
    let child = c.in-Ok.child in
    let queued = c.wake_at_home.ensures.touches in
    record {
      step = λ intervals.
          let room = room_with intervals old in
          let beside = beside_of intervals after in
          let made : Task → Stepped = λ task. record { reply = Child task.spec.pid; room = queue_at_home (with_child room task) (child_at_home room task) } in
          let is : made child ≡ fork room c.args.thread (Some makes.0) =
          ap made born.is ∙ sym (cond-false _ _ (made (child_of makes.0 c.args.thread room.next_pid)) born.allowed) in
          let whole = is ∙ ap (fork room c.args.thread) (sym makes.1) in
          uncharged (record {
            reply = ap (λ (m : Stepped). m.reply) whole;
            room = queued.room beside
                ∙ ap (λ (now : RoomState). queue_at_home now c.child_at_home-task.result) (born.room intervals)
                ∙ ap (queue_at_home (with_child room child))
                (c.child_at_home-task.ensures.child_at_home beside after.tasks ∙ ap (λ (now : RoomState). child_at_home now child) (born.room intervals))
                ∙ ap (λ (m : Stepped). m.room) whole;
            numbers = ap (with_ended after.ended.items) queued.numbers ∙ ap (λ (numbers : Numbers). touched 1 numbers) born.numbers;
          });
      stays = both_stay born.stays (lifted after (c.wake_at_home.new.core, c.wake_at_home.new.table) queued.stays);
    }

pub returns-in-Err-NoCaller-clause-makes : goal.returns-in-Err-NoCaller-clause-makes
returns-in-Err-NoCaller-clause-makes g c =
    let old = c.args.state.now in
    let makes = rw c.in-Err-NoCaller.field-0-is at c.in-Err-NoCaller.ensures in
    subst (λ (new : State _ _ _). Makes old new (Fork c.args.caller c.args.thread) NoCaller) (sym makes.1)
    (leaves_all old (Fork c.args.caller c.args.thread) NoCaller (λ intervals. untouched (state_numbers old)) (λ intervals.
    ap (fork (room_with intervals old) c.args.thread) (sym makes.0)))

pub returns-in-Err-Eagain-clause-makes : goal.returns-in-Err-Eagain-clause-makes
returns-in-Err-Eagain-clause-makes g c =
    let old = c.args.state.now in
    let makes = rw c.in-Err-Eagain.field-0-is at c.in-Err-Eagain.ensures in
    subst (λ (new : State _ _ _). Makes old new (Fork c.args.caller c.args.thread) (Refused Eagain)) (sym makes.3)
    (leaves_all old (Fork c.args.caller c.args.thread) (Refused Eagain) (λ intervals. untouched (state_numbers old)) (λ intervals.
    let room = room_with intervals old in
    sym (cond-true _ (record { reply = Refused Eagain; room = room }) _ makes.2) ∙ ap (fork room c.args.thread) (sym makes.1)))

pub returns-in-Ok-clause-counted : goal.returns-in-Ok-clause-counted
returns-in-Ok-clause-counted g c =
    let old = c.args.state.now in
    let tasks = length old.tasks.tasks in
    let few : length c.make_child.new.self.tasks.tasks ≤ tasks + 1 = omega (arith, ap (λ (r : RoomState). length r.tasks) (c.in-Ok.ensures.2.room []), length-inserted c.in-Ok.child old.tasks.tasks) in
    omega (arith, c.wake_at_home.ensures.counted, g.met.Q.SiblingQueue.rises (length c.make_child.new.self.tasks.tasks) (tasks + 1) few)
