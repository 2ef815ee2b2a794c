use Rattle.std.specs.FinMap.{get-empty, get-insert}
use Rattle.cs_types.specs.Queue.{key_cmp}
use Rattle.cs_types.proofs.Queues.{key_total}
use Rattle.queue_rows.proofs.queues.put_two.Goals as goal

pub put-requires-clause-free : goal.put-requires-clause-free
put-requires-clause-free g c = rw (c.reserve.ensures.members, c.requires) (get-empty key_cmp (20, 1))

-- another key than the first task's
pub put-requires-2-clause-free : goal.put-requires-2-clause-free
put-requires-2-clause-free g c =
    rw (c.put.ensures.members, c.reserve.ensures.members, c.requires, get-insert key_total) (get-empty key_cmp (10, 2))
