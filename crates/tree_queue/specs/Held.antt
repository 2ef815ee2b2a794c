-- Held: when a run queue holds some tasks.
use Rattle.std.specs.Prelude.{◌≡◌, ◌≢◌, ℕ, ◌+◌, ◌≤◌, ◌==◌, Bool, false, if◌then◌else◌, Option, Some, List, [], ◌∷◌, length, map, find}
use Rattle.std.specs.List.{AllByRecursion}
use Rattle.std.specs.FinMap.{from_entries}
use Rattle.std.specs.Option.{option_map, option_map_or}
use Rattle.std.specs.Ordering.{is_lt}
use Rattle.cs_types.specs.declared.queue.Queued.{Queued}
use Rattle.cs_types.specs.declared.task.Task.{Task}
use Rattle.cs_types.specs.Order.{foremost}
use Rattle.cs_types.specs.Queue.{Seats, RunQueued, seat_cmp, seat_of, queued_of}
use Rattle.cs_types.specs.Room.{has_pid}
use Rattle.cookie_queue.specs.Spotted.{spotted}
use Rattle.tree_queue.specs.Kinds.{kind_of, lot_of, AreCounted}

-- the tasks by their seats
abbrev pub seated : List Queued → Seats
seated tasks = from_entries (map (λ task. (seat_of task, task.pid)) tasks)

-- two tasks have two pids and two stamps
abbrev pub AreApart : Queued → Queued → Type 0
AreApart a b = (a.pid ≢ b.pid) × (a.stamp ≢ b.stamp)

-- and so do any two of the list
abbrev pub AreDistinct : List Queued → Type 0
AreDistinct [] = Unit {0}
AreDistinct (task ∷ tasks) = AllByRecursion (AreApart task) tasks × AreDistinct tasks

-- It has these tasks by their seats, and those with a cookie by their spots, no two are one, and it can take this
-- number in all.
pub record Holds (run : RunQueued) (most : ℕ) (tasks : List Queued) : Type 0 where
  pub seats : run.tasks ≡ seated tasks
  pub spots : run.cookies ≡ spotted tasks
  pub distinct : AreDistinct tasks
  pub room : most ≤ run.spare + length tasks

-- whether a task stands before another, by their seats
abbrev pub is_before : Queued → Queued → Bool
is_before task other = is_lt (seat_cmp (seat_of task) (seat_of other))

-- the earlier of a task and another, if there is one
abbrev pub earlier : Queued → Option Queued → Queued
earlier task other = option_map_or (λ kept. if is_before kept task then kept else task) other task

-- the first task of a list
abbrev pub first_among : List Queued → Option Queued
first_among tasks = foremost is_before tasks

-- whether the task, if there is one, has this pid
abbrev pub is_of : ℕ → Option Queued → Bool
is_of pid first = option_map_or (λ task. task.pid == pid) first false

-- the task with this cookie, if it has this pid
abbrev pub given_cookie : ℕ → ℕ → Queued → Queued
given_cookie pid cookie task = if task.pid == pid then record task { cookie = cookie } else task

-- a table has this as a queued task
abbrev pub IsIn : List Task → Queued → Type 0
IsIn tasks queued = option_map queued_of (find (has_pid queued.pid) tasks) ≡ Some queued

-- the same for each task but this one
abbrev pub IsInBut : List Task → Queued → Queued → Type 0
IsInBut tasks task queued = (queued.pid ≡ task.pid → queued ≡ task) × (queued.pid ≢ task.pid → IsIn tasks queued)

-- a run queue holds the tasks, this is the first of them, and these are their counts by kind and by lot
pub record Keeps (run : RunQueued) (first : Option Queued) (kinds lots : List ℕ) (most : ℕ) (tasks : List Queued) : Type 0 where
  pub trees : Holds run most tasks
  pub first_is : first ≡ first_among tasks
  pub by_kind : AreCounted kind_of 104 kinds tasks
  pub by_lot : AreCounted lot_of 256 lots tasks
