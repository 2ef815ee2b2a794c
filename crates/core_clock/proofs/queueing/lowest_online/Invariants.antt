use Rattle.std.proofs.Common.{◌≡◌, None}
use Rattle.std.specs.Prelude.{find}
use Rattle.std.specs.List.{range_with_len}
use Rattle.cs_types.specs.Room.{is_online}
use Rattle.task_table.specs.Table.{Table}
use Rattle.core_lanes.specs.Lanes.{Beside, room_of}
use Rattle.core_clock.proofs.queueing.lowest_online.Given as goal

abbrev pub invariant-loop-cpu : goal.invariant-loop-cpu
invariant-loop-cpu g l = record {
  none : (beside : Beside) (table : Table) → find (is_online (room_of beside (l.core, table))) (range_with_len 0 l.cpu) ≡ None;
}
