-- A machine over trees may go to another thread where its guards may.
use denote.RattleType.{RattleType}
use denote.Param.Send.{IsSend}
use Rattle.core_lanes.specs.declared.queue.SiblingQueue as SiblingQueue
use Rattle.cs_outside.specs.declared.guard.Guard as Guard
use Rattle.core_events.specs.contracts.room.CoreRoom as CoreRoom
use Rattle.core_events.proofs.Crosses.{CoreRoom-send}
use Rattle.tree_queue.specs.contracts.queue.TreeQueue as TreeQueue
use Rattle.tree_queue.proofs.Crosses.{TreeQueue-send}

module _ (G : RattleType) (g : SiblingQueue.Ghosts TreeQueue.the_row.Denot) (g' : Guard.Ghosts G.Denot) where
  pub CoreState-send : IsSend G → IsSend (CoreRoom.the_row TreeQueue.the_row G g g')
  CoreState-send s = CoreRoom-send TreeQueue.the_row G g g' TreeQueue-send s
