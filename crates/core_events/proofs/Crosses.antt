-- A machine may go to another thread where its queues and its guards may. It is said by its fields, since a `search` does not find it through the snapshot.
use Rattle.std.proofs.Crossing as std
use denote.RattleType.{RattleType}
use denote.Struct.Declared.{shape}
use denote.Param.Send.{IsSend, struct_send, recorded_send, view_send, sendable}
use Rattle.bounded_list.proofs.list.BoundedList.TheSendSync as list
use Rattle.cs_types.specs.contracts.reply.Entry as Entry
use Rattle.core_lanes.specs.declared.queue.SiblingQueue as SiblingQueue
use Rattle.cs_outside.specs.declared.guard.Guard as Guard
use Rattle.core_tasks.proofs.state.State.TheSendSync as state
use Rattle.core_events.specs.contracts.room.CoreRoom as CoreRoom
use Rattle.core_events.specs.contracts.room.CoreRoom.TheInside as Inside

module _ (Q : RattleType) (G : RattleType) (g : SiblingQueue.Ghosts Q.Denot) (g' : Guard.Ghosts G.Denot) where
  pub CoreRoom-send : IsSend Q → IsSend G → IsSend (CoreRoom.the_row Q G g g')
  CoreRoom-send q s =
      view_send _ _ _ _ _
      (recorded_send (Inside.the_field Q G g g').row _ _ (Inside.the_type Q G g g').to_one
      (struct_send (shape (Inside.the_type Q G g g'))
      (search std.crosses, (search sendable, (search sendable, (state.the_field_send Q G g g' q s, (list.the_send Entry.the_row (search (sendable, std.crosses) depth 40 fits 20000), tt)))))))
