use Rattle.std.proofs.Common.{ℕ, ◌≡◌, ◌+◌, ◌*◌, ◌<◌, ◌≤◌, ◌^◌, true, ap, ◌∙◌, refl, subst, sym, arith}
use Rattle.std.specs.Prelude.{length}
use Rattle.cs_types.specs.declared.task.Task.{Task}
use Rattle.cs_types.specs.Room.{RoomState, flag}
use Rattle.cs_types.specs.Queueing.{moved_to, moved, enqueue}
use Rattle.cs_types.specs.Steal.{set_place}
use Rattle.core_lanes.specs.Lanes.{room_of, IsFit, KnowsApart}
use Rattle.core_lanes.specs.Numbers.{Numbers, numbers_of, touched}
use Rattle.core_lanes.specs.Changes.{Kept}
use Rattle.core_lanes.proofs.Stays.{some_beside, both_stay, found_in}
use Rattle.core_lanes.proofs.Counted.{as_many_live}
use Rattle.cookie_steal.proofs.Steals.{is_left}
use Rattle.cookie_steal.proofs.steal.steal.Goals as goal

pub moved_to-moved-requires-clause-can : goal.moved_to-moved-requires-clause-can
moved_to-moved-requires-clause-can g c =
    let pid = c.args.task.spec.pid in
    let tasks = c.args.table.now.tasks in
    record {
      home = (found_in (IsFit (length c.args.core.now.lanes.items)) pid tasks c.args.task c.requires.may.at.agree.tasks c.requires.there).home;
      vtime = found_in (λ (task : Task). task.vtime < 2 ^ 100) pid tasks c.args.task c.requires.may.low.vtimes c.requires.there;
      leasts = c.requires.may.low.leasts;
    }

pub enqueue-requires : goal.enqueue-requires
enqueue-requires g c = record {
  knows =
      let core = c.args.core.now in
      let table = c.args.table.now in
      let task = c.args.task in
      let fit = found_in (IsFit (length core.lanes.items)) task.spec.pid table.tasks task c.requires.may.at.agree.tasks c.requires.there in
      let many : length c.touch.new.self.lanes.items ≡ length core.lanes.items = ap (λ (kept : Kept). kept.siblings) (c.touch.ensures table).stays.kept in
      let knows : KnowsApart (c.touch.new.self, table) (moved_to (room_of some_beside (core, table)) c.args.thief task) =
      record {
        apart = record { agree = (c.touch.ensures table).stays.agree c.requires.may.at.agree; old = task; there = c.requires.there; fits = record { home = subst (λ n. c.args.thief < n) (sym many) c.requires.may.at.cpu; policy = fit.policy } };
        cookie = refl;
      } in
      subst (KnowsApart (c.touch.new.self, table)) (sym (c.moved_to-moved.ensures some_beside table)) knows;
  stamp =
      let same : c.touch.new.self.next_stamp ≡ c.args.core.now.next_stamp = ap (λ (room : RoomState). room.next_stamp) ((c.touch.ensures c.args.table.now).room some_beside) in
      omega (arith, same, c.requires.may.stamp);
  touches = omega (arith, ap (λ (numbers : Numbers). numbers.task) (c.touch.ensures c.args.table.now).numbers, c.requires.may.touches);
}

pub set_place-requires : goal.set_place-requires
set_place-requires g c =
    let stays = both_stay (c.touch.ensures c.args.table.now).stays c.enqueue.ensures.touches.stays in
    omega (arith, c.requires.may.at.cpu, ap (λ (kept : Kept). kept.siblings) stays.kept)

pub flag-requires : goal.flag-requires
flag-requires g c =
    let stays = both_stay (c.touch.ensures c.args.table.now).stays (both_stay c.enqueue.ensures.touches.stays (c.set_place.ensures c.enqueue.new.table).stays) in
    omega (arith, c.requires.may.at.cpu, ap (λ (kept : Kept). kept.siblings) stays.kept)

pub is_left_idle-idles-requires : goal.is_left_idle-idles-requires
is_left_idle-idles-requires g c =
    let table = c.enqueue.new.table in
    let stays = both_stay (c.touch.ensures c.args.table.now).stays (both_stay c.enqueue.ensures.touches.stays (both_stay (c.set_place.ensures table).stays (c.flag.ensures table).stays)) in
    record { cpu = omega (arith, c.requires.source.within, ap (λ (kept : Kept). kept.siblings) stays.kept); agree = stays.agree c.requires.may.at.agree }

pub flag-requires-2 : goal.flag-requires-2
flag-requires-2 g c =
    let table = c.enqueue.new.table in
    let stays = both_stay (c.touch.ensures c.args.table.now).stays (both_stay c.enqueue.ensures.touches.stays (both_stay (c.set_place.ensures table).stays (c.flag.ensures table).stays)) in
    omega (arith, c.requires.source.within, ap (λ (kept : Kept). kept.siblings) stays.kept)

pub returns-clause-touches : goal.returns-clause-touches
returns-clause-touches g c =
    let table = c.args.table.now in
    let touch = c.touch.ensures table in
    let place = c.set_place.ensures c.enqueue.new.table in
    let raised = c.flag.ensures c.enqueue.new.table in
    let last = c.flag-2.ensures c.enqueue.new.table in
    record {
      room = λ beside.
          let room = room_of beside (c.args.core.now, table) in
          let thief = c.args.thief in
          let at : RoomState → RoomState = λ now. flag (set_place now thief 0) thief true in
          let after = at (moved room thief c.args.task) in
          let mid : room_of beside (c.flag.new.self, c.enqueue.new.table) ≡ after =
          raised.room beside
          ∙ ap (λ (now : RoomState). flag now thief true) (place.room beside)
          ∙ ap at (c.enqueue.ensures.touches.room beside)
          ∙ ap (λ (now : RoomState). at (enqueue now c.moved_to-moved.result)) (touch.room beside)
          ∙ ap (λ (task : Task). at (enqueue room task)) (c.moved_to-moved.ensures beside table) in
          last.room beside
          ∙ ap (flag (room_of beside (c.flag.new.self, c.enqueue.new.table)) c.args.source) (c.is_left_idle-idles.ensures.idle beside)
          ∙ ap (λ (now : RoomState). flag now c.args.source (is_left now c.args.source)) mid
          ∙ ap (λ (source : ℕ). flag after source (is_left after source)) (c.requires.source.is beside);
      numbers =
          last.numbers ∙ raised.numbers ∙ place.numbers ∙ c.enqueue.ensures.touches.numbers ∙ ap (touched 1) touch.numbers
          ∙ ap (λ (n : ℕ). let numbers : Numbers = record (numbers_of (c.args.core.now, c.args.table.now)) { task = n } in numbers) (omega arith);
      stays = both_stay touch.stays (both_stay c.enqueue.ensures.touches.stays (both_stay place.stays (both_stay raised.stays last.stays)));
    }

pub returns-clause-counted : goal.returns-clause-counted
returns-clause-counted g c =
    let many = as_many_live (c.touch.new.self, c.args.table.now) (c.enqueue.new.self, c.enqueue.new.table) c.enqueue.ensures.touches.stays.kept in
    let idles = subst (λ n. c.is_left_idle-idles.new.comparisons ≤ c.enqueue.new.comparisons + 1 * g.Q.SiblingQueue.most_compared n) many c.is_left_idle-idles.ensures.counted in
    omega (arith, c.enqueue.ensures.counted, idles)
