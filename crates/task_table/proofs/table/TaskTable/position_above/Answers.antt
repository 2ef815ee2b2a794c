use Rattle.std.proofs.Common.{arith}
use Rattle.task_table.proofs.Kept.{kept_of, kept_length, position_within}
use Rattle.task_table.proofs.Walks.{above_at}
use Rattle.task_table.proofs.table.TaskTable.position_above.Goals as goal

pub overflow_add-result : goal.overflow_add-result
overflow_add-result c =
    let kept = kept_of _ _ _ _ _ _ _ c.self.view_is c.self.invariant in
    omega (arith, position_within kept c.args.pid c.in-Some.position c.in-Some.ensures, kept_length kept, kept.sound.few, kept.sound.limit)

pub returns-in-Some : goal.returns-in-Some
returns-in-Some c = above_at c.args.pid c.in-Some.position c.args.self.now.tasks c.in-Some.ensures

pub returns-in-None : goal.returns-in-None
returns-in-None c =
    let kept = kept_of _ _ _ _ _ _ _ c.self.view_is c.self.invariant in
    c.position_above.ensures c.args.self.now.tasks (rw c.deref.ensures.value kept.index) kept.sound.rising
