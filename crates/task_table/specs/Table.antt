-- A table of tasks, as its callers see it.
use Rattle.std.specs.Prelude.{◌≡◌, ℕ, ◌<◌, ◌^◌, ◌+◌, ◌==◌, ◌≤◌, List, [], ◌∷◌, length, find, sum_by, None, is_some, Result, Ok, Err, if◌then◌else◌}
use Rattle.cs_types.specs.declared.task.Task.{Task}
use Rattle.cs_types.specs.declared.task.TaskSpec.{TaskSpec}
use Rattle.cs_types.specs.Room.{has_pid}
use Rattle.task_table.specs.declared.fault.AddFault.{AddFault}
use Rattle.task_table.specs.declared.fault.AddFault.TheVariants.{Twice, Full}

-- the living tasks by rising pid, what each was charged for forced idle by its pid, in ns, and how many tasks there may
-- be
pub record Table : Type 0 where
  pub tasks : List Task
  pub totals : List (ℕ × ℕ)
  pub limit : ℕ

-- what a task was charged, of totals by pid: 0 if it is not among them
abbrev pub total_among : List (ℕ × ℕ) → ℕ → ℕ
total_among totals pid = sum_by (λ total. if total.0 == pid then total.1 else 0) totals

-- what a task of the table was charged
abbrev pub total_in : Table → ℕ → ℕ
total_in table pid = total_among table.totals pid

-- a task's pid
abbrev pub pid_of : Task → ℕ
pid_of task = task.spec.pid

-- each pid is above the one before it, and the first is this one or above
abbrev pub RisesFrom : ℕ → List Task → Type 0
RisesFrom low [] = Unit {0}
RisesFrom low (task ∷ rest) = (low ≤ task.spec.pid) × RisesFrom (task.spec.pid + 1) rest

-- the pids rise, so no two tasks have one pid
abbrev pub Rises : List Task → Type 0
Rises tasks = RisesFrom 0 tasks

-- what holds of each table
pub record IsSound (table : Table) : Type 0 where
  pub rising : Rises table.tasks
  pub known : (pid : ℕ) → find (has_pid pid) table.tasks ≡ None → total_in table pid ≡ 0
  pub few : length table.tasks ≤ table.limit
  pub limit : table.limit < 2 ^ 16

-- what an addition answers: that a task has the pid, else that the table is full
abbrev pub add_answer : Table → TaskSpec → Result (Unit {0}) AddFault
add_answer table spec =
    if is_some (find (has_pid spec.pid) table.tasks) then Err (Twice spec.pid)
    else (if length table.tasks == table.limit then Err (Full table.limit) else Ok tt)
