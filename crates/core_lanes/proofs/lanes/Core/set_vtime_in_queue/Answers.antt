use Rattle.std.proofs.Common.{arith, refl, sym}
use Rattle.core_lanes.specs.Queued.{queued_at, given_vtime}
use Rattle.core_lanes.proofs.Replaced.{queued_at-replaced}
use Rattle.core_lanes.proofs.AtHome.{queued_home, changes_asleep, changes_home}
use Rattle.core_lanes.proofs.Counted.{of_one}
use Rattle.core_lanes.proofs.lanes.Core.set_vtime_in_queue.Goals as goal

pub set_vtime-requires : goal.set_vtime-requires
set_vtime-requires g c = record { there = queued_home c.args.self.now c.args.table.now c.args.task.now c.index_mut.result.now c.requires.home c.index_mut.ensures.value c.if-task.true; fair = c.requires.fair }

pub returns-then-task-clause-queues : goal.returns-then-task-clause-queues
returns-then-task-clause-queues g c =
    let task = c.args.task.now in
    let tasks = c.args.table.now.tasks in
    changes_home c.args.self.now c.args.table.now task (queued_at tasks) (queued_at (given_vtime task c.args.vtime tasks))
    (λ cpu off. sym (queued_at-replaced (record task { vtime = c.args.vtime }) task tasks cpu c.requires.home.table.rising c.requires.home.there off off)) c.requires.home.held
    _ c.index_mut.result.now c.set_vtime.new.self c.index_mut.ensures.value refl refl c.set_vtime.ensures.holds

pub returns-else-task-clause-queues : goal.returns-else-task-clause-queues
returns-else-task-clause-queues g c =
    let task = c.args.task.now in
    let tasks = c.args.table.now.tasks in
    changes_asleep c.args.self.now c.args.table.now task (queued_at tasks) (queued_at (given_vtime task c.args.vtime tasks))
    (λ cpu off. sym (queued_at-replaced (record task { vtime = c.args.vtime }) task tasks cpu c.requires.home.table.rising c.requires.home.there off off)) c.requires.home.held c.if-task.false

pub returns-then-task-clause-counted : goal.returns-then-task-clause-counted
returns-then-task-clause-counted g c =
    omega (arith, c.set_vtime.ensures.counted, of_one g.Q.SiblingQueue.most_compared g.met.Q.SiblingQueue.rises c.args.table.now.tasks c.args.task.now.home)
