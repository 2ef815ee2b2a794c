-- The tasks that a group names.
use Rattle.std.specs.Prelude.{ℕ, Bool, true, ◌==◌, ◌&&◌, nat_lt, List, filter}
use Rattle.cs_types.specs.declared.task.Task.{Task}
use Rattle.task_table.specs.declared.group.Group.{Group}
use Rattle.task_table.specs.declared.group.Group.TheVariants.{All, Threads, Process}

-- whether the task is of the group
abbrev pub is_in_group : Group → Task → Bool
is_in_group All task = true
is_in_group (Threads leader) task = task.spec.tgid == leader
is_in_group (Process number) task = task.spec.pgid == number

-- the tasks of the group with a pid above this one
abbrev pub group_above : Group → ℕ → List Task → List Task
group_above group after tasks = filter (λ task. is_in_group group task && nat_lt after task.spec.pid) tasks
