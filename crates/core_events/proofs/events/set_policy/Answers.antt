use Rattle.std.proofs.Common.{◌≡◌, ◌+◌, ◌∙◌, ap, sym, cond, Bool, true, false, refl, subst, arith}
use Rattle.std.specs.Prelude.{Option, Some}
use Rattle.cs_types.specs.declared.task.Task.{Task}
use Rattle.cs_types.specs.Room.{with_task}
use Rattle.cs_types.specs.Step.{with_policy, set_policy, requeue}
use Rattle.cs_types.specs.Touches.{policy_touches}
use Rattle.core_lanes.specs.Lanes.{Knows, KnowsApart}
use Rattle.core_lanes.specs.Numbers.{Numbers, with_ended}
use Rattle.core_tasks.specs.State.{beside_of, both, room_with, state_numbers}
use Rattle.core_tasks.proofs.States.{uncharged, lifted, leaves_all, untouched}
use Rattle.core_tasks.proofs.Known.{fits_found, knows_as}
use Rattle.cs_types.specs.declared.event.Event.TheVariants.{SetSched}
use Rattle.cs_types.specs.declared.reply.Reply.TheVariants.{NoTask}
use Rattle.core_events.proofs.Compared.{for_event}
use Rattle.core_events.proofs.events.set_policy.Goals as goal

-- the numbers once the touches of a change of policy came, where the task was found
found_numbers : (numbers : Numbers) (task : Task) (found : Option Task) (queued : Bool) → Some task ≡ found → task.queued ≡ queued →
    record numbers { task = numbers.task + cond queued 2 0 } ≡ record numbers { task = numbers.task + policy_touches found }
found_numbers numbers task found queued is so =
    ap (λ b. let after : Numbers = record numbers { task = numbers.task + cond b 2 0 } in after) (sym so)
    ∙ ap (λ one. let after : Numbers = record numbers { task = numbers.task + policy_touches one } in after) is

pub requeue-requires : goal.requeue-requires
requeue-requires g c =
    let old = c.args.state.now in
    let task = c.in-Some.task in
    let fit = fits_found (both old) c.args.pid task c.requires.ready.sound.agree (sym c.in-Some.ensures.task) in
    record {
      knows = subst (KnowsApart (both old)) (sym c.with_policy-changed.ensures)
          (knows_as (both old) (with_policy c.args.policy task) task c.requires.ready.sound.agree refl refl c.in-Some.ensures.there (record { home = fit.home; policy = c.requires.event.1 }));
      clock = c.requires.ready.time.clock;
      stamp = omega (arith, c.requires.ready.spares.stamps);
      touches = omega (arith, c.requires.ready.spares.touches);
    }

pub change-requires : goal.change-requires
change-requires g c =
    let old = c.args.state.now in
    let task = c.in-Some.task in
    let fit = fits_found (both old) c.args.pid task c.requires.ready.sound.agree (sym c.in-Some.ensures.task) in
    let asleep : task.queued ≡ false = c.if-task.false in
    subst (Knows (both old)) (sym c.with_policy-changed.ensures)
    (record {
      known = knows_as (both old) (with_policy c.args.policy task) task c.requires.ready.sound.agree refl refl c.in-Some.ensures.there (record { home = fit.home; policy = c.requires.event.1 });
      stamp = λ queued. let bad : false ≡ true = sym asleep ∙ queued in absurd cc;
    })

pub returns-else-task-clause-makes : goal.returns-else-task-clause-makes
returns-else-task-clause-makes g c =
    let old = c.args.state.now in
    record {
      step = λ intervals.
          let room = room_with intervals old in
          let beside = beside_of intervals old in
          let task = c.in-Some.task in
          let changed = with_policy c.args.policy task in
          uncharged (record {
            reply = ap (λ found. (set_policy room c.args.policy found).reply) c.in-Some.ensures.task;
            room = c.change.ensures.changes.room beside ∙ ap (with_task room) c.with_policy-changed.ensures
                ∙ ap (λ b. cond b (requeue room changed) (with_task room changed)) (sym c.if-task.false)
                ∙ ap (λ found. (set_policy room c.args.policy found).room) c.in-Some.ensures.task;
            numbers = ap (with_ended old.ended.items) c.change.ensures.changes.numbers ∙ untouched (state_numbers old)
                ∙ found_numbers (state_numbers old) task _ false c.in-Some.ensures.task c.if-task.false;
          });
      stays = lifted old (c.change.new.self, c.change.new.table) c.change.ensures.changes.stays;
    }

pub returns-then-task-clause-makes : goal.returns-then-task-clause-makes
returns-then-task-clause-makes g c =
    let old = c.args.state.now in
    record {
      step = λ intervals.
          let room = room_with intervals old in
          let beside = beside_of intervals old in
          let task = c.in-Some.task in
          let changed = with_policy c.args.policy task in
          uncharged (record {
            reply = ap (λ found. (set_policy room c.args.policy found).reply) c.in-Some.ensures.task;
            room = c.requeue.ensures.touches.room beside ∙ ap (requeue room) c.with_policy-changed.ensures
                ∙ ap (λ b. cond b (requeue room changed) (with_task room changed)) (sym c.if-task.true)
                ∙ ap (λ found. (set_policy room c.args.policy found).room) c.in-Some.ensures.task;
            numbers = ap (with_ended old.ended.items) c.requeue.ensures.touches.numbers
                ∙ found_numbers (state_numbers old) task _ true c.in-Some.ensures.task c.if-task.true;
          });
      stays = lifted old (c.requeue.new.core, c.requeue.new.table) c.requeue.ensures.touches.stays;
    }

pub returns-in_default-clause-makes : goal.returns-in_default-clause-makes
returns-in_default-clause-makes g c = leaves_all c.args.state.now (SetSched c.args.pid c.args.policy) NoTask (λ intervals. untouched (state_numbers c.args.state.now)) (λ intervals.
    ap (set_policy (room_with intervals c.args.state.now) c.args.policy) c.in_default.ensures.task)

pub returns-then-task-clause-counted : goal.returns-then-task-clause-counted
returns-then-task-clause-counted g c = for_event g.met.Q.SiblingQueue.rises 3 c.args.state.now (SetSched c.args.pid c.args.policy) _ _ (omega arith) c.requeue.ensures.counted

pub returns-else-task-clause-counted : goal.returns-else-task-clause-counted
returns-else-task-clause-counted g c = for_event g.met.Q.SiblingQueue.rises 2 c.args.state.now (SetSched c.args.pid c.args.policy) _ _ (omega arith) c.change.ensures.counted
