-- Kinds: how many tasks of each kind, and with cookies of each lot, a queue has.
use Rattle.std.specs.Prelude.{◌≡◌, ℕ, ◌+◌, ◌%◌, ◌<◌, ◌==◌, List, length, count_by, if◌then◌else◌}
use Rattle.std.specs.List.{slice_index_or}
use Rattle.cs_types.specs.declared.queue.Queued.{Queued}
use Rattle.cs_types.specs.Order.{real_time_class}

-- a task's kind: its class, and after the classes the rank of a real-time task
abbrev pub kind_of : Queued → ℕ
kind_of task = if task.class == real_time_class then 4 + task.rank else task.class

-- the lot of a task's cookie: its last byte
abbrev pub lot_of : Queued → ℕ
lot_of task = task.cookie % 256

-- how many of the tasks have this number
abbrev pub count_of : (Queued → ℕ) → ℕ → List Queued → ℕ
count_of number one tasks = count_by (λ task. number task == one) tasks

-- These are the counts of the tasks by a number of each, of which there are this many.
pub record AreCounted (number : Queued → ℕ) (numbers : ℕ) (counts : List ℕ) (tasks : List Queued) : Type 0 where
  pub many : length counts ≡ numbers
  pub each : (one : ℕ) → one < numbers → slice_index_or counts one 0 ≡ count_of number one tasks
