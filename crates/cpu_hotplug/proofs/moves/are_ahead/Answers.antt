use Rattle.std.proofs.Common.{ap, sym, subst, arith}
use Rattle.std.proofs.lemmas.Bool.{leb-true}
use Rattle.cs_types.specs.Room.{SiblingState, sibling_of}
use Rattle.core_lanes.specs.Queued.{queued_among}
use Rattle.core_lanes.specs.Lanes.{room_of}
use Rattle.core_lanes.proofs.Stays.{lane_at}
use Rattle.core_lanes.proofs.Counted.{of_one}
use Rattle.cpu_hotplug.specs.Leaves.{NoneBehind}
use Rattle.cpu_hotplug.proofs.Moving.{ahead_some, ahead_none}
use Rattle.cpu_hotplug.proofs.moves.are_ahead.Goals as goal

pub returns-in-Some-clause-ahead : goal.returns-in-Some-clause-ahead
returns-in-Some-clause-ahead g c below beside =
    let lane = c.index-lane.result.now in
    let tasks = queued_among c.args.table.now.tasks c.args.cpu in
    let is = lane_at c.args.core.now.lanes.items c.args.cpu lane c.requires.cpu c.index-lane.ensures in
    subst (λ n. NoneBehind n tasks) (ap (λ (sibling : SiblingState). sibling.least) (sym is))
    (ahead_some lane.least c.in-Some.smallest tasks (sym c.in-Some.ensures.answer) (leb-true lane.least c.in-Some.smallest below))

pub returns-in-None-clause-ahead : goal.returns-in-None-clause-ahead
returns-in-None-clause-ahead g c is beside =
    let tasks = queued_among c.args.table.now.tasks c.args.cpu in
    ahead_none (sibling_of (room_of beside (c.args.core.now, c.args.table.now)) c.args.cpu).least tasks (sym c.in-None.ensures.answer)

pub returns-in-Some-clause-counted : goal.returns-in-Some-clause-counted
returns-in-Some-clause-counted g c =
    omega (arith, c.smallest_vtime.ensures.counted, of_one g.Q.SiblingQueue.most_compared g.met.Q.SiblingQueue.rises c.args.table.now.tasks c.args.cpu)

pub returns-in-None-clause-counted : goal.returns-in-None-clause-counted
returns-in-None-clause-counted g c =
    omega (arith, c.smallest_vtime.ensures.counted, of_one g.Q.SiblingQueue.most_compared g.met.Q.SiblingQueue.rises c.args.table.now.tasks c.args.cpu)
