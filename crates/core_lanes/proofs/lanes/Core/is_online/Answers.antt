use Rattle.std.proofs.Common.{ap, sym}
use Rattle.cs_types.specs.Room.{SiblingState}
use Rattle.core_lanes.proofs.Stays.{lane_at}
use Rattle.core_lanes.proofs.lanes.Core.is_online.Goals as goal

pub returns : goal.returns
returns g c beside table = sym (ap (λ (s : SiblingState). s.online) (lane_at c.args.self.now.lanes.items c.args.cpu c.index.result.now c.requires c.index.ensures))
