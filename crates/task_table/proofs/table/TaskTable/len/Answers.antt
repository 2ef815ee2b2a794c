use Rattle.std.proofs.Common.{arith}
use Rattle.task_table.proofs.Kept.{kept_length}
use Rattle.task_table.proofs.table.TaskTable.len.Goals as goal

pub overflow_cast-result : goal.overflow_cast-result
overflow_cast-result c =
    omega (arith, c.len.ensures, kept_length c.self.invariant, c.self.invariant.sound.few, c.self.invariant.sound.limit)
