use Rattle.std.proofs.Common.{arith, refl, sym}
use Rattle.core_lanes.specs.Queued.{queued_at, others}
use Rattle.core_lanes.proofs.Queues.{others-absent}
use Rattle.core_lanes.proofs.AtHome.{queued_home, changes_asleep, changes_home}
use Rattle.core_lanes.proofs.Counted.{of_one}
use Rattle.core_lanes.proofs.lanes.Core.take.Goals as goal

pub take-requires : goal.take-requires
take-requires g c = queued_home c.args.self.now c.args.table.now c.args.task.now c.index_mut.result.now c.requires c.index_mut.ensures.value c.if-task.true

pub returns-then-task-clause-queues : goal.returns-then-task-clause-queues
returns-then-task-clause-queues g c =
    let task = c.args.task.now in
    let tasks = c.args.table.now.tasks in
    changes_home c.args.self.now c.args.table.now task (queued_at tasks) (λ cpu. others task.spec.pid (queued_at tasks cpu))
    (λ cpu off. sym (others-absent task.spec.pid cpu tasks task c.requires.table.rising c.requires.there off)) c.requires.held
    _ c.index_mut.result.now c.take.new.self c.index_mut.ensures.value refl refl c.take.ensures.holds

pub returns-else-task-clause-queues : goal.returns-else-task-clause-queues
returns-else-task-clause-queues g c =
    let task = c.args.task.now in
    let tasks = c.args.table.now.tasks in
    changes_asleep c.args.self.now c.args.table.now task (queued_at tasks) (λ cpu. others task.spec.pid (queued_at tasks cpu))
    (λ cpu off. sym (others-absent task.spec.pid cpu tasks task c.requires.table.rising c.requires.there off)) c.requires.held c.if-task.false

pub returns-then-task-clause-counted : goal.returns-then-task-clause-counted
returns-then-task-clause-counted g c =
    omega (arith, c.take.ensures.counted, of_one g.Q.SiblingQueue.most_compared g.met.Q.SiblingQueue.rises c.args.table.now.tasks c.args.task.now.home)
