use Rattle.std.proofs.Common.{◌≡◌, ◌+◌, map, length, take, take_all, ap, ◌∙◌, subst, arith}
use Rattle.std.proofs.lemmas.Bool.{eqb-true}
use Rattle.std.proofs.lemmas.List.{length-map}
use Rattle.core_lanes.specs.Queued.{queued_among, mover_of}
use Rattle.tree_queue.specs.Arrivals.{AreAmong, BeginsBelow}
use Rattle.tree_queue.proofs.Told.{none_below, told_all}
use Rattle.tree_queue.proofs.arrivals.Arrivals.tell.Goals as goal

pub tell_entries-told-requires-clause-below : goal.tell_entries-told-requires-clause-below
tell_entries-told-requires-clause-below c =
    record { within = omega arith; below = none_below (map mover_of (queued_among c.args.table.now.tasks c.args.cpu)) 0 }

pub tell_entries-told-requires-2-clause-below : goal.tell_entries-told-requires-2-clause-below
tell_entries-told-requires-2-clause-below c =
    let all = map mover_of (queued_among c.args.table.now.tasks c.args.cpu) in
    let past : c.args.self.now.base + length c.moved-moved.result.now ≡ c.in-Some.past = omega (arith, c.in-Some.ensures.1) in
    subst (λ above. BeginsBelow all above c.tell_moved-told.result c.tell_moved-told.new.movers) past c.tell_moved-told.ensures.below

pub returns-clause-told : goal.returns-clause-told
returns-clause-told c told =
    let queued = queued_among c.args.table.now.tasks c.args.cpu in
    let all = map mover_of queued in
    let movers = c.tell_entries-told-2.new.movers in
    let many : length movers ≡ c.args.count =
    omega (arith, c.tell_entries-told-2.ensures.each, c.tell_moved-told.ensures.each, c.tell_entries-told.ensures.each, c.requires.each) in
    let same : c.tell_entries-told-2.result ≡ length movers = omega (arith, eqb-true c.tell_entries-told-2.result c.args.count told, many) in
    let whole = ap (λ n. take n movers) same ∙ take_all (length movers) movers (omega arith) in
    told_all all movers (subst (AreAmong all) whole c.tell_entries-told-2.ensures.below.below.among)
    (omega (arith, many, c.requires.count, length-map queued mover_of))
