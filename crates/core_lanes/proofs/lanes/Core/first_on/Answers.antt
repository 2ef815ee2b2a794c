use Rattle.core_lanes.proofs.Stays.{queue_at, policies_of}
use Rattle.core_lanes.proofs.lanes.Core.first_on.Goals as goal

pub first-requires : goal.first-requires
first-requires g c =
    let lane = c.index.result.now in
    record {
      policies = policies_of (c.args.self.now, c.args.table.now) c.requires.agree;
      holds = c.requires.agree.held c.args.cpu lane.queue (queue_at c.args.self.now.lanes.items c.args.cpu lane c.requires.cpu c.index.ensures);
    }
