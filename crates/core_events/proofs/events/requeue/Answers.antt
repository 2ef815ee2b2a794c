use Rattle.std.proofs.Common.{ℕ, ◌∙◌, ap, sym, refl, subst, arith, false, Some}
use Rattle.cs_types.specs.declared.task.Task.{Task}
use Rattle.cs_types.specs.Room.{RoomState, SiblingState, flag}
use Rattle.core_lanes.specs.Queued.{IsOf}
use Rattle.cs_types.specs.Selection.{is_run}
use Rattle.cs_types.specs.Queueing.{dequeue, queue_at_home}
use Rattle.core_lanes.specs.Lanes.{at, room_of}
use Rattle.core_lanes.specs.Numbers.{Numbers, numbers_of, touched}
use Rattle.core_lanes.proofs.Stays.{both_stay, lane_at, some_beside}
use Rattle.core_lanes.proofs.Replaced.{is_of}
use Rattle.core_events.proofs.Wakes.{may_wake}
use Rattle.core_clock.proofs.Changes.{still_below}
use Rattle.core_lanes.proofs.Counted.{later, no_more_live}
use Rattle.core_events.proofs.events.requeue.Goals as goal

pub wake_at_home-requires : goal.wake_at_home-requires
wake_at_home-requires g c =
    let task = c.args.task in
    let apart = c.requires.knows.apart in
    let asleep : Task = record task { queued = false } in
    let there = is_of asleep apart.old c.args.table.now.tasks apart.there in
    may_wake c.args.now (c.dequeue.new.self, c.dequeue.new.table) task asleep (c.dequeue.ensures.touches.stays.agree apart.agree)
    (subst (λ (room : RoomState). IsOf room.tasks asleep) (sym (c.dequeue.ensures.touches.room some_beside)) there) refl refl
    (still_below c.dequeue.ensures.touches.stays apart.fits.home) apart.fits.policy c.requires.clock
    (omega (arith, ap (λ (room : RoomState). room.next_stamp) (c.dequeue.ensures.touches.room some_beside), c.requires.stamp))
    (omega (arith, ap (λ (numbers : Numbers). numbers.task) c.dequeue.ensures.touches.numbers, c.requires.touches))

pub flag-requires : goal.flag-requires
flag-requires g c = still_below (both_stay c.dequeue.ensures.touches.stays c.wake_at_home.ensures.touches.stays) c.requires.knows.apart.fits.home

pub returns-clause-touches : goal.returns-clause-touches
returns-clause-touches g c =
    let task = c.args.task in
    let raised = c.flag.ensures c.wake_at_home.new.table in
    record {
      room = λ beside.
          let here = at c.args.now beside in
          let room = room_of here (c.args.core.now, c.args.table.now) in
          let lane = lane_at c.args.core.now.lanes.items task.home c.index.result.now c.requires.knows.apart.fits.home c.index.ensures in
          let runs = c.runs-runs.ensures ∙ ap (λ (s : SiblingState). is_run s.run (Some task.spec.pid)) (sym lane) in
          raised.room here
          ∙ ap (λ (now : RoomState). flag now task.home c.runs-runs.result)
          (c.wake_at_home.ensures.touches.room beside ∙ ap (λ (now : RoomState). queue_at_home now task) (c.dequeue.ensures.touches.room here))
          ∙ ap (flag (queue_at_home (dequeue room task) task) task.home) runs;
      numbers = raised.numbers ∙ c.wake_at_home.ensures.touches.numbers ∙ ap (touched 1) c.dequeue.ensures.touches.numbers
          ∙ ap (λ (n : ℕ). let numbers : Numbers = record (numbers_of (c.args.core.now, c.args.table.now)) { task = n } in numbers) (omega arith);
      stays = both_stay c.dequeue.ensures.touches.stays (both_stay c.wake_at_home.ensures.touches.stays raised.stays);
    }

pub returns-clause-counted : goal.returns-clause-counted
returns-clause-counted g c =
    omega (
      arith,
      c.dequeue.ensures.counted,
      later g.met.Q.SiblingQueue.rises 1 (c.dequeue.new.self, c.dequeue.new.table) (c.args.core.now, c.args.table.now) _ _ (no_more_live c.dequeue.ensures.touches.stays) c.wake_at_home.ensures.counted,
    )
