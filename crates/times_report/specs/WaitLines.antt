-- WaitLines: what is told of the waits of the tasks of a run, line by line. All times are in ns.
use Rattle.std.specs.Prelude.{ℕ, nat_lt, if◌then◌else◌, List, [], ◌∷◌, codes, decimal}
use Rattle.std.specs.List.{flat_map, enumerate_from}
use Rattle.wait_times.specs.declared.rows.TaskWaits.{TaskWaits}
use Rattle.scenario_text.specs.Words.{Word}

-- `waits` PID `count` N `longest` T `sum` T: how often the task waited from a wake to its run, for how long at most,
-- and in all
abbrev pub wait_words : ℕ → TaskWaits → List Word
wait_words pid waits =
    codes "waits" ∷ decimal pid ∷ codes "count" ∷ decimal waits.count ∷ codes "longest" ∷ decimal waits.longest
    ∷ codes "sum" ∷ decimal waits.sum ∷ []

-- the line of a task that waited, by its pid and its waits
abbrev pub line_of_waits : ℕ × TaskWaits → List (List Word)
line_of_waits task = if nat_lt 0 task.1.count then wait_words task.0 task.1 ∷ [] else []

-- the lines of the tasks that waited, by rising pid
abbrev pub wait_lines : List TaskWaits → List (List Word)
wait_lines tasks = flat_map line_of_waits (enumerate_from 0 tasks)
