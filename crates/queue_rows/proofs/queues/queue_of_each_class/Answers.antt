use Rattle.std.specs.FinMap.{get-empty, get-insert}
use Rattle.cs_types.specs.Queue.{seat_cmp}
use Rattle.cs_types.proofs.Queues.{seat_total}
use Rattle.queue_rows.proofs.queues.queue_of_each_class.Goals as goal

pub enqueue-requires-clause-free : goal.enqueue-requires-clause-free
enqueue-requires-clause-free g c = rw (c.reserve.ensures.tasks, c.empty-queue.ensures.tasks) (get-empty seat_cmp _)

-- another seat than those of the earlier tasks
pub enqueue-requires-2-clause-free : goal.enqueue-requires-2-clause-free
enqueue-requires-2-clause-free g c =
    rw (c.queued-2.ensures.is, c.enqueue.ensures.tasks, c.queued.ensures.is, c.reserve.ensures.tasks, c.empty-queue.ensures.tasks, get-insert seat_total)
    (get-empty seat_cmp _)

pub enqueue-requires-3-clause-free : goal.enqueue-requires-3-clause-free
enqueue-requires-3-clause-free g c =
    rw (
      c.queued-3.ensures.is,
      c.enqueue-2.ensures.tasks,
      c.queued-2.ensures.is,
      c.enqueue.ensures.tasks,
      c.queued.ensures.is,
      c.reserve.ensures.tasks,
      c.empty-queue.ensures.tasks,
      get-insert seat_total,
      get-insert seat_total,
    )
    (get-empty seat_cmp _)

pub enqueue-requires-4-clause-free : goal.enqueue-requires-4-clause-free
enqueue-requires-4-clause-free g c =
    rw (
      c.queued-4.ensures.is,
      c.enqueue-3.ensures.tasks,
      c.queued-3.ensures.is,
      c.enqueue-2.ensures.tasks,
      c.queued-2.ensures.is,
      c.enqueue.ensures.tasks,
      c.queued.ensures.is,
      c.reserve.ensures.tasks,
      c.empty-queue.ensures.tasks,
      get-insert seat_total,
      get-insert seat_total,
      get-insert seat_total,
    )
    (get-empty seat_cmp _)
