-- Living: what a task does at a moment, which tasks of a cookie do the same, and for which cookie a task counts.
use Rattle.std.specs.Prelude.{ℕ, Bool, true, false, ◌==◌, ◌&&◌, ◌||◌, if◌then◌else◌, List, [], ◌∷◌, ◌++◌, filter, find, reverse, Option, Some, None, is_some}
use Rattle.std.specs.List.{list_any}
use Rattle.std.specs.Option.{option_map, option_map_or, option_and_then, option_to_list}
use Rattle.cs_types.specs.declared.task.Task.{Task}
use Rattle.cs_types.specs.declared.event.Event.{Event}
use Rattle.cs_types.specs.declared.event.Event.TheVariants.{Exit}
use Rattle.cs_types.specs.declared.reply.Entry.{Entry}
use Rattle.cs_types.specs.Room.{Opening, RoomState, has_pid, task_of, running_on, is_online}
use Rattle.cs_types.specs.Step.{has_threads}
use Rattle.cs_types.specs.Time.{is_running}
use Rattle.cs_types.specs.View.{forced_of}
use Rattle.cs_types.specs.History.{History, Moment, beginning, next, fold_of}
use Rattle.task_times.specs.declared.doing.TaskDoing.{TaskDoing}
use Rattle.task_times.specs.declared.doing.TaskDoing.TheVariants.{Runs, Waits, Sleeps}

-- what a living task does: it runs if a sibling runs it; else it waits if it is queued, and sleeps if it is not
abbrev pub doing_of : RoomState → Task → TaskDoing
doing_of room task = if is_running room task then Runs else (if task.queued then Waits else Sleeps)

-- whether a task with a pid lives
abbrev pub lives : ℕ → RoomState → Bool
lives pid room = is_some (task_of room pid)

-- what the task with a pid does, none if no living task has it
abbrev pub doing_at : RoomState → ℕ → Option TaskDoing
doing_at room pid = option_map (doing_of room) (task_of room pid)

abbrev pub runs : TaskDoing → Bool
runs Runs = true
runs doing = false

abbrev pub waits : TaskDoing → Bool
waits Waits = true
waits doing = false

abbrev pub sleeps : TaskDoing → Bool
sleeps Sleeps = true
sleeps doing = false

-- the living tasks that have a cookie, 0 for none
abbrev pub holders : ℕ → RoomState → List Task
holders cookie room = filter (λ task. task.cookie == cookie) room.tasks

-- those of them that do what the test says
abbrev pub doers : (TaskDoing → Bool) → ℕ → RoomState → List Task
doers does cookie room = filter (λ task. (task.cookie == cookie) && does (doing_of room task)) room.tasks

-- whether a task with a pid lives in a room or ended before it
abbrev pub is_known : RoomState → ℕ → Bool
is_known room pid = lives pid room || list_any (λ other. other == pid) room.ended

-- what a task was charged for forced idle, whether it lives or ended
abbrev pub charged_in : RoomState → ℕ → ℕ
charged_in room pid = if is_known room pid then forced_of room pid else 0

-- ---- the cookie for which a task counts

-- the task that an event is to end: at an exit what the sibling runs, if it is online
abbrev pub leaver : RoomState → Event → Option Task
leaver room (Exit cpu) = if is_online room cpu then running_on room cpu else None
leaver room event = None

-- the task that an event ends: the one that it is to end, if that leads no others
abbrev pub ended_by : RoomState → Event → Option Task
ended_by room event = option_and_then (λ task. if has_threads room task then None else Some task) (leaver room event)

-- the tasks that these entries were to end, made from a moment on, each as it was before its exit
abbrev pub leavers_from : Moment → List Entry → List Task
leavers_from moment [] = []
leavers_from moment (entry ∷ entries) = option_to_list (leaver moment.room entry.event) ++ leavers_from (next moment entry) entries

-- those of a history, the oldest first
abbrev pub leavers_of : Opening → History → List Task
leavers_of opening history = leavers_from (beginning opening) history

-- the cookie that a task had when it was to end: of these the last with the pid, 0 if there is none
abbrev pub left_with : List Task → ℕ → ℕ
left_with leavers pid = option_map_or (λ task. task.cookie) (find (has_pid pid) (reverse leavers)) 0

-- The cookie for which a task counts: for one that lives the cookie that it has, for one that ended the cookie that it
-- had when it was last to end. An exit can be refused, so a task may be to end more than once; after the one that ends
-- it no other is.
abbrev pub cookie_at : Opening → History → ℕ → ℕ
cookie_at opening history pid =
    option_map_or (λ task. task.cookie) (task_of (fold_of opening history) pid) (left_with (leavers_of opening history) pid)
