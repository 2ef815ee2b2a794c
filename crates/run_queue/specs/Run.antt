-- Run: how a run queue is stored, and what always holds of it.
use Rattle.std.specs.Prelude.{◌≡◌, ◌≢◌, ◌+◌, ◌≤◌, ◌==◌, if◌then◌else◌, IsTrue}
use Rattle.std.specs.FinMap.{contains_key, insert, remove, len}
use Rattle.cs_types.specs.declared.queue.Queued.{Queued}
use Rattle.cs_types.specs.Queue.{RunQueued, Seats, Spot, Spots, spot_of}
use Rattle.run_queue.specs.declared.queue.RunQueue.TheInside.{Inside}

-- what contracts see of it
abbrev pub run_of : {A : Type 0} → Inside A → RunQueued
run_of run = record { tasks = run.classes.tasks; cookies = run.cookies.tasks; spare = run.classes.spare }

-- the tasks with cookies but for this one, which stands among them if it has a cookie (`sched_core_dequeue`)
abbrev pub without : Queued → Spots → Spots
without task cookies = if task.cookie == 0 then cookies else remove cookies (spot_of task)

-- and with this one, if it has a cookie (`sched_core_enqueue`)
abbrev pub including : Queued → Spots → Spots
including task cookies = if task.cookie == 0 then cookies else insert cookies (spot_of task) task.pid

-- Each task with a cookie is one of the tasks, its cookie is not 0, and it has no other.
pub record IsTied (tasks : Seats) (cookies : Spots) : Type 0 where
  pub seated : (spot : Spot) → IsTrue (contains_key cookies spot) → IsTrue (contains_key tasks spot.1)
  pub cookie : (spot : Spot) → IsTrue (contains_key cookies spot) → spot.0 ≢ 0
  pub one : (spot other : Spot) → IsTrue (contains_key cookies spot) → IsTrue (contains_key cookies other) → spot.1 ≡ other.1 → spot.0 ≡ other.0

-- There is a place for the cookie of each task that there may be.
pub record IsSound {A : Type 0} (run : Inside A) : Type 0 where
  pub fits : run.classes.spare + len run.classes.tasks ≤ run.cookies.spare + len run.cookies.tasks
  pub tied : IsTied run.classes.tasks run.cookies.tasks
