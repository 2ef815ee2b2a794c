use Rattle.cs_outside.proofs.pair_guard.PairGuard.TheSendSync as guard
use denote.Param.Send.{sendable}
use Rattle.core_events.proofs.Crosses.{CoreRoom-send}
use Rattle.tree_queue.proofs.Crosses.{TreeQueue-send}
use Rattle.coresched.proofs.execute.Goals as goal

-- the machine may go to another thread
pub run-requires-send-R : goal.run-requires-send-R
run-requires-send-R g c κs within = search (sendable, CoreRoom-send, TreeQueue-send, guard.the_send) depth 40
