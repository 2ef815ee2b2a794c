use Rattle.std.proofs.Common.{◌≡◌, ◌++◌, map}
use Rattle.core_lanes.specs.Queued.{queued_among, mover_of}
use Rattle.plain_room.proofs.walk.tell.Given as goal

abbrev pub invariant-loop-task : goal.invariant-loop-task
invariant-loop-task l = record {
  told : l.movers.items ++ map mover_of (queued_among l.task-iterator l.cpu) ≡ l.initial.movers.items ++ map mover_of (queued_among l.table.tasks l.cpu);
}
