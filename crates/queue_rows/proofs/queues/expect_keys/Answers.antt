use Rattle.std.specs.FinMap.{get-empty, get-insert}
use Rattle.order_tree.specs.Order.{key_cmp}
use Rattle.order_tree.proofs.Keys.{key_total}
use Rattle.queue_rows.proofs.queues.expect_keys.Goals as goal

pub insert-requires-clause-free : goal.insert-requires-clause-free
insert-requires-clause-free g c = rw (c.reserve.ensures.members, c.empty-tree.ensures.members) (get-empty key_cmp _)

-- another key than the first
pub insert-requires-2-clause-free : goal.insert-requires-2-clause-free
insert-requires-2-clause-free g c =
    rw (c.insert.ensures.members, c.key-low.ensures, c.key-high.ensures, c.reserve.ensures.members, c.empty-tree.ensures.members, get-insert key_total)
    (get-empty key_cmp _)
