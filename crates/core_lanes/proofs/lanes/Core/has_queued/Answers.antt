use Rattle.std.proofs.Common.{◌∙◌, ap, sym, ltb}
use Rattle.core_lanes.specs.Queued.{queued_among}
use Rattle.core_lanes.proofs.Stays.{queue_at}
use Rattle.core_lanes.proofs.Lists.{is_some-first_of}
use Rattle.core_lanes.proofs.lanes.Core.has_queued.Goals as goal

pub count-requires : goal.count-requires
count-requires g c =
    let lane = c.index.result.now in
    c.requires.agree.held c.args.cpu lane.queue (queue_at c.args.self.now.lanes.items c.args.cpu lane c.requires.cpu c.index.ensures)

pub returns : goal.returns
returns g c beside = ap (ltb 0) c.count.ensures ∙ sym (is_some-first_of (queued_among c.args.table.now.tasks c.args.cpu))
