use Rattle.task_table.proofs.Grouped.{at_split, gap_split}
use Rattle.task_table.proofs.table.TaskTable.position_from.Goals as goal

pub returns-in-Ok : goal.returns-in-Ok
returns-in-Ok c = at_split c.args.pid c.in-Ok.position c.args.self.now.tasks c.in-Ok.ensures.position

pub returns-in-Err : goal.returns-in-Err
returns-in-Err c = gap_split c.args.pid c.in-Err.position c.args.self.now.tasks c.in-Err.ensures.position
