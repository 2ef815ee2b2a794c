-- Moves: tasks move to another sibling, one after another.
use Rattle.std.specs.Prelude.{ℕ, zero, suc, ◌+◌, ◌-◌, ◌%◌, ◌^◌, if◌then◌else◌, List, map, slice_index_or}
use Rattle.cs_types.specs.declared.task.Task.{Task}
use Rattle.cs_types.specs.Room.{has_pid}

-- The task is at home on a sibling, with a stamp. Its virtual time is as far ahead of the second one as it was of the
-- first, or the second itself if it was below the first, modulo 2^128.
abbrev pub moved_by : ℕ → ℕ → ℕ → ℕ → Task → Task
moved_by home from to stamp task = record task { home = home; vtime = (to + (task.vtime - from)) % 2 ^ 128; stamp = stamp }

-- the tasks once the one with the pid moved so
abbrev pub with_moved : ℕ → ℕ → ℕ → ℕ → ℕ → List Task → List Task
with_moved pid home from to stamp tasks = map (λ task. if has_pid pid task then moved_by home from to stamp task else task) tasks

-- and once the first ones of these did, as many as the count says, one after another, the first with the stamp, and
-- each later one with the next
abbrev pub with_first_moved : ℕ → List ℕ → ℕ → ℕ → ℕ → ℕ → List Task → List Task
with_first_moved zero pids home from to first tasks = tasks
with_first_moved (suc count) pids home from to first tasks =
    with_moved (slice_index_or pids count 0) home from to (first + count) (with_first_moved count pids home from to first tasks)
