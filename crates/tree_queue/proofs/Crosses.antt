-- A queue with trees may go to another thread. That is said apart, and of a tree first, since a `search` that goes down from a machine through all its trees runs out of steps.
use Rattle.std.proofs.Crossing as std
use denote.Param.Send.{IsSend, sendable}
use Rattle.order_tree.proofs.tree.Tree.TheLaws.TheKnot as tree
use Rattle.order_tree.specs.contracts.order.Closed as Closed
use Rattle.order_tree.specs.contracts.order.OrderTree as OrderTree
use Rattle.order_tree.specs.contracts.recent.RecentTree as RecentTree
use Rattle.tree_queue.specs.contracts.queue.TreeQueue as TreeQueue

OrderTree-send : IsSend (OrderTree.the_row Closed.the_row)
OrderTree-send = search (sendable, std.crosses, tree.crosses) depth 40 fits 20000

RecentTree-send : IsSend (RecentTree.the_row Closed.the_row)
RecentTree-send = search (sendable, std.crosses, OrderTree-send) depth 40 fits 20000

pub TreeQueue-send : IsSend TreeQueue.the_row
TreeQueue-send = search (sendable, std.crosses, RecentTree-send) depth 40 fits 20000
