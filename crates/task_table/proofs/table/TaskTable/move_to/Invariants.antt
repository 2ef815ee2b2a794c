use Rattle.std.proofs.Common.{◌≡◌, ◌+◌}
use Rattle.task_table.specs.Moves.{with_first_moved}
use Rattle.task_table.proofs.table.TaskTable.move_to.Given as goal

abbrev pub invariant-loop-pid : goal.invariant-loop-pid
invariant-loop-pid l = record {
  moved : l.self ≡ record l.fn.self { tasks = with_first_moved l.pid-index l.pids l.home l.from l.to l.first l.fn.self.tasks };
  stamp : l.stamp ≡ l.first + l.pid-index;
}
