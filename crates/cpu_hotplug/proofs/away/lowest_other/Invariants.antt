use Rattle.std.proofs.Common.{◌≡◌, ℕ, Bool, None}
use Rattle.std.specs.Prelude.{find, ◌&&◌, not, ◌==◌}
use Rattle.std.specs.List.{range_with_len}
use Rattle.cs_types.specs.Room.{RoomState, is_online}
use Rattle.task_table.specs.Table.{Table}
use Rattle.core_lanes.specs.Lanes.{Beside, room_of}
use Rattle.cpu_hotplug.proofs.away.lowest_other.Given as goal

-- whether a sibling is online and another than this one
abbrev pub is_other : RoomState → ℕ → ℕ → Bool
is_other room cpu other = is_online room other && not (other == cpu)

abbrev pub invariant-loop-other : goal.invariant-loop-other
invariant-loop-other g l = record {
  none : (beside : Beside) (table : Table) → find (is_other (room_of beside (l.core, table)) l.cpu) (range_with_len 0 l.other) ≡ None;
}
