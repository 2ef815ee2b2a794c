use Rattle.std.proofs.Common.{◌<◌, ◌^◌, subst, arith}
use Rattle.std.proofs.lemmas.List.{length-map}
use Rattle.cs_types.specs.Room.{SiblingState, absent}
use Rattle.core_lanes.specs.Lanes.{lane_state}
use Rattle.core_lanes.proofs.Stays.{lane_at}
use Rattle.core_lanes.proofs.lanes.Core.moved_to.Goals as goal

pub overflow_add-result : goal.overflow_add-result
overflow_add-result g c =
    let lanes = c.args.self.now.lanes.items in
    let lane = c.index-2.result.now in
    let low : lane.least < 2 ^ 100 =
    subst (λ (sibling : SiblingState). sibling.least < 2 ^ 100) (lane_at lanes c.args.cpu lane c.requires.cpu c.index-2.ensures)
    (c.requires.can.leasts c.args.cpu absent (omega (arith, length-map lanes lane_state, c.requires.cpu))) in
    omega (arith, low, c.requires.can.vtime, c.saturating_sub-ahead.ensures)
