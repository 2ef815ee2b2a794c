use Rattle.std.proofs.Common.{arith, refl}
use Rattle.core_lanes.specs.Queued.{queued_at, others}
use Rattle.core_lanes.proofs.Stays.{queue_at}
use Rattle.core_lanes.proofs.Queues.{others-absent}
use Rattle.core_lanes.proofs.AtHome.{changes_asleep, changes_home}
use Rattle.core_lanes.proofs.Counted.{of_one}
use Rattle.core_lanes.proofs.lanes.Core.put.Goals as goal

pub put-requires : goal.put-requires
put-requires g c =
    let home = c.args.task.now.home in
    let lane = c.index_mut.result.now in
    record {
      table = c.requires.home.table;
      there = c.requires.home.there;
      queued = c.if-task.true;
      home = refl;
      stamp = c.requires.stamp c.if-task.true;
      holds = c.requires.home.held home lane.queue (queue_at c.args.self.now.lanes.items home lane c.requires.home.home c.index_mut.ensures.value);
    }

pub returns-then-task-clause-queues : goal.returns-then-task-clause-queues
returns-then-task-clause-queues g c =
    let task = c.args.task.now in
    let tasks = c.args.table.now.tasks in
    changes_home c.args.self.now c.args.table.now task (λ cpu. others task.spec.pid (queued_at tasks cpu)) (queued_at tasks)
    (λ cpu off. others-absent task.spec.pid cpu tasks task c.requires.home.table.rising c.requires.home.there off) c.requires.home.held
    _ c.index_mut.result.now c.put.new.self c.index_mut.ensures.value refl refl c.put.ensures.holds

pub returns-else-task-clause-queues : goal.returns-else-task-clause-queues
returns-else-task-clause-queues g c =
    let task = c.args.task.now in
    let tasks = c.args.table.now.tasks in
    changes_asleep c.args.self.now c.args.table.now task (λ cpu. others task.spec.pid (queued_at tasks cpu)) (queued_at tasks)
    (λ cpu off. others-absent task.spec.pid cpu tasks task c.requires.home.table.rising c.requires.home.there off) c.requires.home.held c.if-task.false

pub returns-then-task-clause-counted : goal.returns-then-task-clause-counted
returns-then-task-clause-counted g c =
    omega (arith, c.put.ensures.counted, of_one g.Q.SiblingQueue.most_compared g.met.Q.SiblingQueue.rises c.args.table.now.tasks c.args.task.now.home)
