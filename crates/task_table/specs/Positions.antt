-- Where a task stands among tasks that rise by pid. No public clause cites this module.
use Rattle.std.specs.Prelude.{◌≡◌, ℕ, zero, suc, ◌+◌, ◌<◌, List, [], ◌∷◌, map}
use Rattle.cs_types.specs.declared.task.Task.{Task}
use Rattle.task_table.specs.declared.entry.Entry.{Entry}
use Rattle.task_table.specs.Table.{pid_of, RisesFrom}

-- there is an entry for each task, in the tasks' order
abbrev pub IsIndexOf : List Entry → List Task → Type 0
IsIndexOf entries tasks = map (λ entry. entry.pid) entries ≡ map pid_of tasks

-- the task at the position has the pid, those before it have a lower one, and those after it rise from above it
abbrev pub IsAt : ℕ → ℕ → List Task → Type 0
IsAt pid position [] = ⊥
IsAt pid zero (task ∷ rest) = (task.spec.pid ≡ pid) × RisesFrom (pid + 1) rest
IsAt pid (suc position) (task ∷ rest) = (task.spec.pid < pid) × IsAt pid position rest

-- the tasks before the position have a pid below the one number, and those from it on rise from the other
abbrev pub IsSplit : ℕ → ℕ → ℕ → List Task → Type 0
IsSplit below from zero tasks = RisesFrom from tasks
IsSplit below from (suc position) [] = ⊥
IsSplit below from (suc position) (task ∷ rest) = (task.spec.pid < below) × IsSplit below from position rest

-- the tasks before the position have a lower pid, and those from it on a higher one
abbrev pub IsGap : ℕ → ℕ → List Task → Type 0
IsGap pid position tasks = IsSplit pid (pid + 1) position tasks

-- the tasks before the position have no higher pid, and those from it on have a higher one
abbrev pub IsAbove : ℕ → ℕ → List Task → Type 0
IsAbove pid position tasks = IsSplit (pid + 1) (pid + 1) position tasks
