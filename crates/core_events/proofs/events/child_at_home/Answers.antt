use Rattle.std.proofs.Common.{ℕ, ap, sym, ◌∙◌}
use Rattle.cs_types.specs.declared.task.Task.{Task}
use Rattle.cs_types.specs.Room.{SiblingState, sibling_of}
use Rattle.core_lanes.specs.Lanes.{room_of}
use Rattle.core_lanes.proofs.Stays.{lane_at}
use Rattle.core_events.proofs.events.child_at_home.Goals as goal

pub returns-clause-child_at_home : goal.returns-clause-child_at_home
returns-clause-child_at_home g c beside table =
    let room = room_of beside (c.args.core.now, table) in
    let lane = lane_at c.args.core.now.lanes.items c.online_home-home.result c.index.result.now c.online_home-home.ensures.within c.index.ensures in
    ap (λ (n : ℕ). let child : Task = record c.args.child { home = c.online_home-home.result; vtime = n } in child) (ap (λ (sibling : SiblingState). sibling.least) (sym lane))
    ∙ ap (λ (cpu : ℕ). let child : Task = record c.args.child { home = cpu; vtime = (sibling_of room cpu).least } in child) (c.online_home-home.ensures.home beside table)

pub returns-clause-within : goal.returns-clause-within
returns-clause-within g c = c.online_home-home.ensures.within
