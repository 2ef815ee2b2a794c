use Rattle.std.proofs.Common.{◌≡◌, ℕ, take}
use Rattle.cs_types.specs.Room.{asleep_tasks}
use Rattle.task_table.specs.Table.{total_in, IsSound as IsTable}
use Rattle.core_tasks.proofs.start.asleep_tasks.Given as goal

abbrev pub invariant-loop-spec : goal.invariant-loop-spec
invariant-loop-spec l = record {
  sound : IsTable l.tasks;
  tasks : l.tasks.tasks ≡ asleep_tasks (take l.spec-index l.specs);
  limit : l.tasks.limit ≡ l.limit;
  totals : (pid : ℕ) → total_in l.tasks pid ≡ 0;
}
