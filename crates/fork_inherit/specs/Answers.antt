-- Answers: the outcomes of a fork and of an end.
use Rattle.std.specs.Prelude.{ℕ, Option, Some, None, Result, Ok, Err, if◌then◌else◌}
use Rattle.cs_types.specs.declared.task.Task.{Task}
use Rattle.cs_types.specs.Room.{RoomState}
use Rattle.cs_types.specs.Step.{may_not_fork, has_threads}
use Rattle.task_table.specs.Table.{Table}
use Rattle.fork_inherit.specs.declared.forking.ForkFault.{ForkFault}
use Rattle.fork_inherit.specs.declared.forking.ForkFault.TheVariants.{NoCaller, Eagain}
use Rattle.fork_inherit.specs.declared.ending.HasThreads.{HasThreads}

-- There is no such caller, or it may not fork. Else it has a child (`copy_process`, kernel/fork.c).
abbrev pub fork_answer : Table → Option Task → Result (Unit {0}) ForkFault
fork_answer table None = Err NoCaller
fork_answer table (Some caller) =
    if may_not_fork table.limit table.tasks caller then Err Eagain else Ok tt

-- The task leads others, or it ends, and is given with what it was charged (`do_exit`, kernel/exit.c).
abbrev pub end_answer : RoomState → Task → ℕ → Result (Task × ℕ) HasThreads
end_answer room task forced = if has_threads room task then Err (record {}) else Ok (task, forced)
