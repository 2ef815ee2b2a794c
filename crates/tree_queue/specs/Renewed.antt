-- Renewed: the rank and the stamp of a task by its pid, once all tasks of a queue moved.
use Rattle.std.specs.Prelude.{ℕ, List, find, if◌then◌else◌}
use Rattle.std.specs.Option.{option_map_or}
use Rattle.cs_types.specs.declared.task.Task.{Task}
use Rattle.cs_types.specs.Order.{is_fair}
use Rattle.cs_types.specs.Queue.{Key}
use Rattle.cs_types.specs.Room.{has_pid}

-- what those of the task of a list with this pid become: a fair task has its virtual time, and another keeps its rank
abbrev pub key_in : List Task → ℕ → Key → Key
key_in tasks pid place =
    option_map_or (λ task. (if is_fair task then task.vtime else place.0, task.stamp)) (find (has_pid pid) tasks) place
