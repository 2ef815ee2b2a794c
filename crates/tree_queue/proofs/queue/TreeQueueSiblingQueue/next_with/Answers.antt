use Rattle.std.proofs.Common.{sym, ◌∙◌, arith}
use Rattle.cs_types.specs.Order.{first_of}
use Rattle.cs_types.specs.Queue.{queued_of}
use Rattle.core_lanes.specs.Queued.{queued_among, with_cookie, behind}
use Rattle.tree_queue.proofs.Tasks.{ranked, low_priority}
use Rattle.core_lanes.proofs.Queues.{none_of, found_queued}
use Rattle.tree_queue.proofs.Asked.{low_among, next_behind, found_behind}
use Rattle.tree_queue.proofs.Compared.{few_of_all}
use Rattle.tree_queue.proofs.queue.TreeQueueSiblingQueue.next_with.Goals as goal

pub next_of-requires : goal.next_of-requires
next_of-requires g c = ranked c.args.task.now c.queued_of.ensures

pub returns-in_err-next_of : goal.returns-in_err-next_of
returns-in_err-next_of g c = record {
  answer =
      let task = c.args.task.now in
      let tasks = c.args.table.now.tasks in
      let queued = queued_among tasks c.args._cpu in
      let low = low_among tasks c.args._cpu c.requires.find.search.policies in
      c.from_residual.ensures
      ∙ none_of queued_of (first_of (behind task (with_cookie task.cookie queued)))
      (sym c.in_err-next_of.was
      ∙ c.next_of.ensures.model queued task c.requires.find.search.holds.trees.spots low c.queued_of.ensures (low_priority task.spec.policy c.requires.policy) c.requires.find.cookie
      ∙ next_behind queued task);
  counted = omega (arith, c.next_of.ensures.counted, few_of_all (queued_among c.args.table.now.tasks c.args._cpu) c.requires.find.search.holds.trees);
}

pub returns : goal.returns
returns g c = record {
  answer =
      let task = c.args.task.now in
      let tasks = c.args.table.now.tasks in
      let queued = queued_among tasks c.args._cpu in
      let low = low_among tasks c.args._cpu c.requires.find.search.policies in
      c.task_of.ensures.task
      ∙ found_queued tasks c.in_ok-next_of.field-0 (first_of (behind task (with_cookie task.cookie queued))) (found_behind tasks c.args._cpu task c.task_of.ensures.sound.rising)
      (sym c.in_ok-next_of.was
      ∙ c.next_of.ensures.model queued task c.requires.find.search.holds.trees.spots low c.queued_of.ensures (low_priority task.spec.policy c.requires.policy) c.requires.find.cookie
      ∙ next_behind queued task);
  counted = omega (arith, c.next_of.ensures.counted, few_of_all (queued_among c.args.table.now.tasks c.args._cpu) c.requires.find.search.holds.trees);
}
