-- TaskLines: what is told of the tasks and the cookies of a run, line by line. All times are in ns.
use Rattle.std.specs.Prelude.{ℕ, nat_lt, ◌||◌, if◌then◌else◌, List, [], ◌∷◌, ◌++◌, codes, decimal}
use Rattle.std.specs.List.{flat_map, enumerate_from}
use Rattle.task_times.specs.declared.doing_times.DoingTimes.{DoingTimes}
use Rattle.task_times.specs.declared.times.TaskTimes.{TaskTimes}
use Rattle.task_times.specs.declared.times.CookieTimes.{CookieTimes}
use Rattle.task_times.specs.TaskSums.{TaskSums, lived, had}
use Rattle.scenario_text.specs.Words.{Word}
use Rattle.scenario_text.specs.Text.{line}

-- ---- the words of a line

-- `ran` T `waited` T `slept` T: for how long something ran, waited and slept
abbrev pub doing_words : DoingTimes → List Word
doing_words times = codes "ran" ∷ decimal times.ran ∷ codes "waited" ∷ decimal times.waited ∷ codes "slept" ∷ decimal times.slept ∷ []

-- `task` PID `ran` T `waited` T `slept` T `charged` T `cookie` C: for how long a sibling ran the task, it was queued
-- and none ran it, and it was not queued; what it was charged for forced idle; and the cookie for which that counts, 0
-- for none
abbrev pub task_words : ℕ → TaskTimes → List Word
task_words pid times =
    codes "task" ∷ decimal pid ∷ doing_words times.by_doing ++ codes "charged" ∷ decimal times.charged ∷ codes "cookie" ∷ decimal times.cookie ∷ []

-- `cookie` C `ran` T `waited` T `slept` T `charged` T: the same for the tasks that had the cookie, 0 for none, added
-- over these tasks; and what the tasks that count for it were charged
abbrev pub cookie_words : ℕ → CookieTimes → List Word
cookie_words cookie times =
    codes "cookie" ∷ decimal cookie ∷ doing_words times.by_doing ++ codes "charged" ∷ decimal times.charged ∷ []

-- ---- the lines

-- the line of a task that lived for some time or was charged something, by its pid and its times
abbrev pub line_of_task : ℕ × TaskTimes → List (List Word)
line_of_task task = if nat_lt 0 (lived task.1) || nat_lt 0 task.1.charged then task_words task.0 task.1 ∷ [] else []

-- the line of a cookie that some task had for some time or to which something was charged, by its number and its times
abbrev pub line_of_cookie : ℕ × CookieTimes → List (List Word)
line_of_cookie cookie = if nat_lt 0 (had cookie.1) || nat_lt 0 cookie.1.charged then cookie_words cookie.0 cookie.1 ∷ [] else []

-- the lines of the tasks, by rising pid, and those of the cookies, by rising number
abbrev pub lines_of_tasks : List TaskTimes → List (List Word)
lines_of_tasks tasks = flat_map line_of_task (enumerate_from 0 tasks)

abbrev pub lines_of_cookies : List CookieTimes → List (List Word)
lines_of_cookies cookies = flat_map line_of_cookie (enumerate_from 0 cookies)

abbrev pub task_lines : TaskSums → List (List Word)
task_lines sums = lines_of_tasks sums.tasks ++ lines_of_cookies sums.cookies

-- the text, each line with its line feed
abbrev pub task_text : TaskSums → List ℕ
task_text sums = flat_map line (task_lines sums)
