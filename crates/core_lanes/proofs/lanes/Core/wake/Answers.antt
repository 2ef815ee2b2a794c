use Rattle.std.proofs.Common.{◌≡◌, ◌<◌, ◌≤◌, ◌+◌, ◌*◌, ◌^◌, arith, refl, sym, subst, ap, ◌∙◌, length, map, true, cond}
use Rattle.std.proofs.lemmas.List.{length-map}
use Rattle.cs_types.specs.declared.task.Task.{Task}
use Rattle.cs_types.specs.Room.{has_pid}
use Rattle.cs_laws.proofs.Spots.{replaced_by}
use Rattle.task_table.specs.Table.{Table}
use Rattle.core_lanes.specs.declared.queue.SiblingQueue.{Ghosts}
use Rattle.core_lanes.specs.declared.lanes.Core.{Core}
use Rattle.core_lanes.specs.Queued.{IsOf, HasOwnStamp}
use Rattle.core_lanes.specs.Lanes.{BareCore, AreHeldBut, Knows, MayWake}
use Rattle.core_lanes.specs.Numbers.{touched}
use Rattle.core_lanes.proofs.Lists.{is_there, is_it}
use Rattle.core_lanes.proofs.Queues.{others-absent, others-replaced, off_asleep}
use Rattle.core_lanes.proofs.Replaced.{is_of, own_stamp, changes_replaced}
use Rattle.core_lanes.proofs.Stays.{both_stay, stamp_next, stamped_later}
use Rattle.core_lanes.proofs.Timed.{timed_is}
use Rattle.core_lanes.proofs.lanes.Core.wake.Given.{Over}
use Rattle.core_lanes.proofs.lanes.Core.wake.Goals as goal

-- the core with the stamp after this
abbrev later : {Q : Type 0} {g : Ghosts Q} → Core Q g → Core Q g
later core = record core { next_stamp = core.next_stamp + 1 }

-- the task as the table has it once it is queued
abbrev woken : {Q : Type 0} {g : Ghosts Q} → Core Q g → Task → Task
woken core task = record task { queued = true; stamp = core.next_stamp }

module _ {Q : Type 0} {g : Ghosts Q} (core : Core Q g) (before after : Table) (task : Task) (may : MayWake (core, before) task)
    (given : after ≡ record before { tasks = map (λ (t : Task). cond (has_pid task.spec.pid t) (record t { home = task.home; queued = true; vtime = task.vtime; deadline = task.deadline; stamp = core.next_stamp }) t) before.tasks }) where
  changed : after ≡ record before { tasks = map (replaced_by (woken core task)) before.tasks }
  changed =
      let apart = may.may.knows.apart in
      given
      ∙ (λ i. record before { tasks = timed_is (λ (t : Task). record t { home = task.home; queued = true; vtime = task.vtime; deadline = task.deadline; stamp = core.next_stamp }) task.spec.pid before.tasks apart.old apart.agree.table.rising apart.there refl i })
      ∙ (λ i. record before { tasks = map (replaced_by (woken core (sym may.is i))) before.tasks })

  there : IsOf after.tasks (woken core task)
  there = subst (λ (t : Table). IsOf t.tasks (woken core task)) (sym changed) (is_of (woken core task) may.may.knows.apart.old before.tasks may.may.knows.apart.there)

  knows : Knows (later core, before) (woken core task)
  knows =
      let known = may.may.knows in
      let next : core.next_stamp ≤ core.next_stamp + 1 = omega arith in
      record {
        known = record {
          apart = record {
            agree = (stamped_later core (later core) before refl next).agree known.apart.agree;
            old = known.apart.old;
            there = known.apart.there;
            fits = record { home = known.apart.fits.home; policy = known.apart.fits.policy };
          };
          cookie = known.cookie;
        };
        stamp = λ queued. stamp_next core.next_stamp before.tasks (woken core task) refl known.apart.agree.stamped;
      }

  own : HasOwnStamp after.tasks (woken core task)
  own = subst (λ (t : Table). HasOwnStamp t.tasks (woken core task)) (sym changed)
      (own_stamp (woken core task) may.may.knows.apart.old before.tasks may.may.knows.apart.there (knows.stamp refl).own)

  held : AreHeldBut task.spec.pid (core, after)
  held =
      let apart = may.may.knows.apart in
      subst (λ (t : Table). AreHeldBut task.spec.pid (core, t)) (sym changed) (λ cpu queue at.
      subst (λ qs. g.holds queue before.limit qs)
      (sym (others-replaced (woken core task) before.tasks cpu ∙ others-absent task.spec.pid cpu before.tasks apart.old apart.agree.table.rising apart.there (off_asleep apart.old cpu may.asleep)))
      (apart.agree.held cpu queue at))

pub unwrap-queued-requires : goal.unwrap-queued-requires
unwrap-queued-requires g c =
    is_there c.find.result _ (c.find.ensures.task ∙ there c.args.self.now c.args.table.now c.queue_up.new.self c.args.task.now c.requires c.queue_up.ensures.queued)

-- the one that was found is the task, once it is queued
found_woken : (g : Over) (c : goal.After-put-arg-2-1 g) → woken c.args.self.now c.args.task.now ≡ c.unwrap-queued.result.now
found_woken g c =
    is_it c.find.result c.unwrap-queued.result (woken c.args.self.now c.args.task.now) c.unwrap-queued.ensures
    (c.find.ensures.task ∙ there c.args.self.now c.args.table.now c.queue_up.new.self c.args.task.now c.requires c.queue_up.ensures.queued)

pub put-requires-clause-home : goal.put-requires-clause-home
put-requires-clause-home g c =
    let core = c.args.self.now in
    let after = c.queue_up.new.self in
    let task = c.args.task.now in
    let given = c.queue_up.ensures.queued in
    let is = found_woken g c in
    record {
      table = c.queue_up.ensures.sound;
      there = subst (IsOf after.tasks) is (there core c.args.table.now after task c.requires given);
      home = subst (λ (t : Task). t.home < length core.lanes.items) is c.requires.may.knows.apart.fits.home;
      held = subst (λ (t : Task). AreHeldBut t.spec.pid (core, after)) is (held core c.args.table.now after task c.requires given);
    }

pub put-requires-clause-stamp : goal.put-requires-clause-stamp
put-requires-clause-stamp g c queued =
    subst (HasOwnStamp c.queue_up.new.self.tasks) (found_woken g c)
    (own c.args.self.now c.args.table.now c.queue_up.new.self c.args.task.now c.requires c.queue_up.ensures.queued)

pub returns-clause-touches : goal.returns-clause-touches
returns-clause-touches g c =
    let core = c.args.self.now in
    let before = c.args.table.now in
    let after = c.queue_up.new.self in
    let task = c.args.task.now in
    let given = c.queue_up.ensures.queued in
    let now = woken core task in
    let known = knows core before after task c.requires given in
    let is = changed core before after task c.requires given in
    let woke = changes_replaced (later core) c.put.new.self before after now known c.put.ensures.queues.bare is c.queue_up.ensures.sound c.put.ensures.queues.held in
    let touch = c.touch.ensures after in
    let next : core.next_stamp ≤ core.next_stamp + 1 = omega arith in
    record {
      room = λ beside. touch.room beside ∙ woke.room beside;
      numbers = touch.numbers ∙ ap (touched 1) woke.numbers;
      stays = both_stay (stamped_later core (later core) before refl next) (both_stay woke.stays touch.stays);
    }

pub touch-requires : goal.touch-requires
touch-requires g c = subst (λ n. n + 1 < 2 ^ 64) (sym (ap (λ (b : BareCore). b.task_number) c.put.ensures.queues.bare)) c.requires.may.touches

pub returns-clause-counted : goal.returns-clause-counted
returns-clause-counted g c =
    subst (λ n. c.put.new.comparisons ≤ c.args.comparisons.now + 1 * g.Q.SiblingQueue.most_compared n)
    (ap (λ (table : Table). length table.tasks) c.queue_up.ensures.queued ∙ length-map _ _) c.put.ensures.counted
