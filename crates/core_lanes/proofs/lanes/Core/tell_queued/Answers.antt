use Rattle.std.proofs.Common.{arith}
use Rattle.std.specs.Prelude.{◌==◌, ◌&&◌}
use Rattle.std.proofs.lemmas.List.Sums.{length-filter, count_by-le-length}
use Rattle.cs_types.specs.declared.task.Task.{Task}
use Rattle.core_lanes.proofs.Stays.{queue_at}
use Rattle.core_lanes.proofs.lanes.Core.tell_queued.Goals as goal

pub tell_into-requires : goal.tell_into-requires
tell_into-requires g c =
    let tasks = c.args.table.now.tasks in
    let leaving = c.args.cpu in
    let lane = c.index.result.now in
    record {
      each = c.requires.each;
      few = omega (
        arith,
        c.requires.agree.agree.table.few,
        c.requires.agree.agree.few_tasks,
        length-filter (λ (task : Task). task.queued && (task.home == leaving)) tasks,
        count_by-le-length (λ (task : Task). task.queued && (task.home == leaving)) tasks,
      );
      holds = c.requires.agree.agree.held leaving lane.queue (queue_at c.args.self.now.lanes.items leaving lane c.requires.agree.cpu c.index.ensures);
    }
