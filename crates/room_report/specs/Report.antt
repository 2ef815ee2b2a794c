-- The report of a run: what a machine shows at its last moment, line by line. The output of a run: the line of each
-- entry, and then the report.
use Rattle.std.specs.Prelude.{ℕ, Bool, true, false, List, [], ◌∷◌, ◌++◌, length, map, drop, codes, decimal}
use Rattle.std.specs.List.{flat_map, filter_map, range_with_len}
use Rattle.std.specs.Option.{option_map}
use Rattle.cs_types.specs.declared.view.CoreView.{CoreView}
use Rattle.cs_types.specs.declared.view.CpuView.{CpuView}
use Rattle.cs_types.specs.declared.view.TaskView.{TaskView}
use Rattle.cs_types.specs.declared.view.EndView.{EndView}
use Rattle.cs_types.specs.declared.view.GuardPlace.{GuardPlace}
use Rattle.cs_types.specs.declared.view.GuardPlace.TheVariants.{Bench, Active, Dropped}
use Rattle.cs_types.specs.declared.view.GuardView.{GuardView}
use Rattle.cs_types.specs.Room.{Opening}
use Rattle.cs_types.specs.Touches.{task_number, pick_number}
use Rattle.cs_types.specs.History.{History, Moment, moment_of}
use Rattle.cs_types.specs.View.{core_view, cpu_view, task_view, end_view, guard_view}
use Rattle.scenario_text.specs.Words.{Word, run_word}
use Rattle.scenario_text.specs.Text.{line, entry_text}

-- ---- the words of a line

-- `clock` T: the clock, in ns
abbrev pub clock_words : ℕ → List Word
clock_words clock = codes "clock" ∷ decimal clock ∷ []

-- `numbers` TASKNUMBER PICKNUMBER
abbrev pub numbers_words : ℕ → ℕ → List Word
numbers_words task pick = codes "numbers" ∷ decimal task ∷ decimal pick ∷ []

-- `core` COOKIE `forced` COUNT `occupation` COUNT
abbrev pub core_words : CoreView → List Word
core_words core =
    codes "core" ∷ decimal core.cookie ∷ codes "forced" ∷ decimal core.forced
    ∷ codes "occupation" ∷ decimal core.occupation ∷ []

-- `intervals` N: how many intervals of forced idle were recorded
abbrev pub intervals_words : CoreView → List Word
intervals_words core = codes "intervals" ∷ decimal core.intervals ∷ []

abbrev pub online_word : Bool → Word
online_word true = codes "online"
online_word false = codes "offline"

-- `cpu` I `online` `runs` RUN `number` M: the sibling's number, what it runs, and its own number
abbrev pub cpu_words : ℕ → CpuView → List Word
cpu_words cpu view =
    codes "cpu" ∷ decimal cpu ∷ online_word view.online ∷ codes "runs" ∷ run_word view.run
    ∷ codes "number" ∷ decimal view.number ∷ []

abbrev pub queued_word : Bool → Word
queued_word true = codes "queued"
queued_word false = codes "asleep"

-- `task` PID `cpu` HOME `queued` `cookie` COOKIE `forced` T `vtime` V: what it was charged and its virtual time, in ns
abbrev pub task_words : TaskView → List Word
task_words task =
    codes "task" ∷ decimal task.pid ∷ codes "cpu" ∷ decimal task.cpu ∷ queued_word task.queued
    ∷ codes "cookie" ∷ decimal task.cookie ∷ codes "forced" ∷ decimal task.forced
    ∷ codes "vtime" ∷ decimal task.vtime ∷ []

-- `ended` PID `forced` T: what it was charged, in ns
abbrev pub ended_words : EndView → List Word
ended_words task = codes "ended" ∷ decimal task.pid ∷ codes "forced" ∷ decimal task.forced ∷ []

abbrev pub place_word : GuardPlace → Word
place_word Bench = codes "bench"
place_word Active = codes "active"
place_word Dropped = codes "dropped"

-- `guard` N `bench` `asked` COUNT: the guard's number, where it is, and how often it was asked
abbrev pub guard_words : ℕ → GuardView → List Word
guard_words index guard =
    codes "guard" ∷ decimal index ∷ place_word guard.place ∷ codes "asked" ∷ decimal guard.asked ∷ []

-- ---- the lines

-- what is shown of the whole core
abbrev pub core_lines : Moment → List (List Word)
core_lines moment =
    (codes "report" ∷ [])
    ∷ clock_words moment.room.clock
    ∷ numbers_words (task_number moment.ledger) (pick_number moment.ledger)
    ∷ core_words (core_view moment)
    ∷ intervals_words (core_view moment) ∷ []

-- each sibling, from 0 on
abbrev pub cpu_lines : Moment → List (List Word)
cpu_lines moment =
    filter_map (λ cpu. option_map (cpu_words cpu) (cpu_view moment cpu)) (range_with_len 0 (length moment.room.siblings))

-- each living task, by rising pid
abbrev pub task_lines : Moment → List (List Word)
task_lines moment = map (λ task. task_words (task_view moment.room task)) moment.room.tasks

-- each task that ended, in the order of the ends
abbrev pub ended_lines : Moment → List (List Word)
ended_lines moment = map (λ pid. ended_words (end_view moment.room pid)) moment.room.ended

-- each guard that was handed in, from 0 on
abbrev pub guard_lines : Moment → List (List Word)
guard_lines moment =
    filter_map (λ index. option_map (guard_words index) (guard_view moment.room.guards index)) (range_with_len 0 (length moment.room.guards.all))

abbrev pub report_lines : Moment → List (List Word)
report_lines moment =
    core_lines moment ++ cpu_lines moment ++ task_lines moment ++ ended_lines moment ++ guard_lines moment
    ++ (codes "done" ∷ []) ∷ []

-- ---- the texts

-- these lines, each with its line feed
abbrev pub lines_text : List (List Word) → List ℕ
lines_text lines = flat_map line lines

-- a part of the report: what these lines are at the moment after this history
abbrev pub part_text : (Moment → List (List Word)) → Opening → History → List ℕ
part_text lines opening history = lines_text (lines (moment_of opening history))

abbrev pub report_text : Moment → List ℕ
report_text moment = lines_text (report_lines moment)

-- the line of each entry, and the report of the moment after them
abbrev pub output_text : Opening → History → List ℕ
output_text opening history = flat_map entry_text history ++ report_text (moment_of opening history)

-- what of it stands behind the lines of the first entries, as many as this
abbrev pub output_from : Opening → ℕ → History → List ℕ
output_from opening from history = flat_map entry_text (drop from history) ++ report_text (moment_of opening history)
