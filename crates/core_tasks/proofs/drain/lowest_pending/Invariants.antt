use Rattle.std.proofs.Common.{◌≡◌, ◌-◌}
use Rattle.std.specs.Prelude.{filter}
use Rattle.std.specs.List.{range_with_len}
use Rattle.cs_types.specs.Drain.{lowest, pending}
use Rattle.task_table.specs.Table.{Table}
use Rattle.core_lanes.specs.Lanes.{Beside, room_of}
use Rattle.core_tasks.proofs.Pending.{waits, due}
use Rattle.core_tasks.proofs.drain.lowest_pending.Given as goal

abbrev pub invariant-loop-cpu : goal.invariant-loop-cpu
invariant-loop-cpu g l = record {
  from_here : (beside : Beside) (table : Table) → let room = room_of beside (l.fn.core, table) in
      lowest (filter (waits room l.fn.has_waiting) (pending room)) ≡ lowest (filter (due room l.fn.has_waiting) (range_with_len l.cpu (l.cpu-end - l.cpu)));
}
