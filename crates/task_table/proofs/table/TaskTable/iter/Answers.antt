use Rattle.std.proofs.Common.{◌∙◌}
use Rattle.task_table.proofs.Walks.{all_members}
use Rattle.task_table.proofs.table.TaskTable.iter.Goals as goal

pub returns-clause-tasks : goal.returns-clause-tasks
returns-clause-tasks c = c.members.ensures.members ∙ all_members c.args.self.now.tasks
