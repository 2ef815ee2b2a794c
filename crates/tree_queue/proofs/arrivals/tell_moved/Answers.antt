use Rattle.std.proofs.Common.{◌≡◌, ◌+◌, ◌-◌, map, length, take, drop, refl, sym, ap, ◌∙◌, subst, length-drop, length-take-le, arith}
use Rattle.std.proofs.lemmas.List.{length-map}
use Rattle.core_lanes.specs.Queued.{queued_among, mover_of}
use Rattle.tree_queue.specs.Arrivals.{BeginsBelow}
use Rattle.tree_queue.proofs.Begins.{begins_later, room_run, length_run, now_is, begins_run}
use Rattle.tree_queue.proofs.arrivals.tell_moved.Goals as goal

pub loop-place-init : goal.loop-place-init
loop-place-init c = record {
  each = refl;
  within = omega arith;
  below = begins_later (map mover_of (queued_among c.args.table.now.tasks c.args.cpu)) c.args.base (c.args.base + 0) c.args.before c.args.movers.now (omega arith) c.requires.lower;
}

pub copy_behind-requires : goal.copy_behind-requires
copy_behind-requires c =
    let queued = queued_among c.args.table.now.tasks c.args.cpu in
    let was = c.loop-place in
    let rest = take (length c.args.moved.now - was.place) (drop was.place c.args.moved.now) in
    let there = c.count_there-there.ensures in
    let room = room_run (map mover_of queued) (c.args.base + was.place) was.told was.movers was.invariant.below
    (omega (arith, was.invariant.each, c.requires.each, length-map queued mover_of)) rest c.count_there-there.result there.within there.there in
    omega (arith, room, length-take-le c.count_there-there.result rest there.within)

pub loop-place-preserved : goal.loop-place-preserved
loop-place-preserved c =
    let queued = queued_among c.args.table.now.tasks c.args.cpu in
    let all = map mover_of queued in
    let was = c.loop-place in
    let rest = take (length c.args.moved.now - was.place) (drop was.place c.args.moved.now) in
    let there = c.count_there-there.ensures in
    let places : length was.movers ≡ length all = omega (arith, was.invariant.each, c.requires.each, length-map queued mover_of) in
    let is = c.copy_behind.ensures ∙ now_is all (c.args.base + was.place) was.told was.movers was.invariant.below places rest c.count_there-there.result there.within there.there in
    record {
      each = ap length is ∙ length_run all (c.args.base + was.place) was.told was.movers was.invariant.below places rest c.count_there-there.result there.within there.there ∙ was.invariant.each;
      within = omega (arith, c.min-place.ensures);
      below = subst (BeginsBelow all (c.args.base + c.min-place.result) (was.told + c.count_there-there.result)) (sym is)
          (begins_run all (c.args.base + was.place) was.told was.movers was.invariant.below places rest c.count_there-there.result there.within there.there
          (c.args.base + c.min-place.result) (omega (arith, c.min-place.ensures, there.within, length-take-le (length c.args.moved.now - was.place) (drop was.place c.args.moved.now), length-drop was.place c.args.moved.now)));
    }

pub returns-clause-below : goal.returns-clause-below
returns-clause-below c =
    begins_later (map mover_of (queued_among c.args.table.now.tasks c.args.cpu)) (c.args.base + c.loop-place.place) _ c.loop-place.told c.loop-place.movers (omega (arith, c.loop-place.invariant.within)) c.loop-place.invariant.below
