-- Spotted: what the queue of some tasks holds of them.
use Rattle.std.specs.Prelude.{◌==◌, Bool, not, List, map, filter}
use Rattle.std.specs.FinMap.{from_entries}
use Rattle.cs_types.specs.declared.queue.Queued.{Queued}
use Rattle.cs_types.specs.Queue.{Spots, spot_of}

-- whether a task has a cookie
abbrev pub has_cookie : Queued → Bool
has_cookie task = not (task.cookie == 0)

-- those of the tasks that have a cookie, by their spots
abbrev pub spotted : List Queued → Spots
spotted tasks = from_entries (map (λ task. (spot_of task, task.pid)) (filter has_cookie tasks))
