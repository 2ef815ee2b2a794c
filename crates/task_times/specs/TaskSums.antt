-- TaskSums: what each task and the tasks of each cookie did and for how long, and what they were charged.
use Rattle.std.specs.Prelude.{ℕ, ◌+◌, ◌*◌, ◌==◌, Bool, false, if◌then◌else◌, List, length, map, filter, sum_by, Option, Some}
use Rattle.std.specs.List.{range_with_len}
use Rattle.std.specs.Option.{option_map_or}
use Rattle.cs_types.specs.declared.task.Task.{Task}
use Rattle.cs_types.specs.Room.{Opening, RoomState}
use Rattle.cs_types.specs.History.{History, fold_of}
use Rattle.cs_types.specs.View.{forced_of}
use Rattle.run_times.specs.Times.{Span, spans_of, time_in}
use Rattle.task_times.specs.declared.doing.TaskDoing.{TaskDoing}
use Rattle.task_times.specs.declared.times.TaskTimes.{TaskTimes}
use Rattle.task_times.specs.declared.times.CookieTimes.{CookieTimes}
use Rattle.task_times.specs.Living.{doing_at, doers, charged_in, leavers_of, left_with, cookie_at}
use Rattle.task_times.specs.DoingTimes.{doing_times, all_times, with_time, with_each}

-- ---- a task

-- whether the task with a pid lives in a room and does what the test says
abbrev pub does_so : (TaskDoing → Bool) → ℕ → RoomState → Bool
does_so does pid room = option_map_or does (doing_at room pid) false

-- the times of the task with a pid in these spans, beside what it was charged and the cookie for which it counts
abbrev pub task_times : ℕ → ℕ → List Span → ℕ → TaskTimes
task_times charged cookie spans pid =
    record {
      by_doing = doing_times (λ does. time_in (does_so does pid) spans);
      charged = charged;
      cookie = cookie;
    }

-- all that a task did
abbrev pub lived : TaskTimes → ℕ
lived times = all_times times.by_doing

-- ---- the tasks of a cookie

-- the time of these spans, each as often as the number that its room has
abbrev pub time_by : (RoomState → ℕ) → List Span → ℕ
time_by number spans = sum_by (λ span. span.time * number span.room) spans

-- the time in which tasks that had a cookie did so, added over these tasks
abbrev pub time_of : (TaskDoing → Bool) → ℕ → List Span → ℕ
time_of does cookie spans = time_by (λ room. length (doers does cookie room)) spans

-- the times of the tasks of a cookie in these spans, beside what was charged to it
abbrev pub cookie_times : ℕ → List Span → ℕ → CookieTimes
cookie_times charged spans cookie =
    record { by_doing = doing_times (λ does. time_of does cookie spans); charged = charged }

-- what these tasks were charged, all together
abbrev pub all_charged : List TaskTimes → ℕ
all_charged tasks = sum_by (λ times. times.charged) tasks

-- what was charged to a cookie: what those of these tasks that count for it were charged
abbrev pub charged_to : List TaskTimes → ℕ → ℕ
charged_to tasks cookie = all_charged (filter (λ times. times.cookie == cookie) tasks)

-- all that the tasks of a cookie did
abbrev pub had : CookieTimes → ℕ
had times = all_times times.by_doing

-- ---- a run

-- what is told of the tasks of a run
pub record TaskSums : Type 0 where
  -- how many entries they were opened for
  pub entries : ℕ
  -- the times of each task, by its pid
  pub tasks : List TaskTimes
  -- the times of the tasks of each cookie, by its number
  pub cookies : List CookieTimes

-- how many pids and cookies there can be with this many entries: a pid of a scenario is at most 9999, and an entry
-- makes one more at most
abbrev pub pids_for : ℕ → ℕ
pids_for entries = entries + 10000

abbrev pub cookies_for : ℕ → ℕ
cookies_for entries = entries + 1

-- the rows of the tasks in these spans, by what each was charged and the cookie for which it counts
abbrev pub rows_in : ℕ → (ℕ → ℕ) → (ℕ → ℕ) → List Span → List TaskTimes
rows_in entries charged cookie spans =
    map (λ pid. task_times (charged pid) (cookie pid) spans pid) (range_with_len 0 (pids_for entries))

-- the rows of the cookies in these spans, by what was charged to each
abbrev pub parts_in : ℕ → (ℕ → ℕ) → List Span → List CookieTimes
parts_in entries charged spans =
    map (λ cookie. cookie_times (charged cookie) spans cookie) (range_with_len 0 (cookies_for entries))

-- the sums of a history that goes on: what is charged, and the cookies of the living, are told at its end
abbrev pub sums_so_far : ℕ → Opening → History → TaskSums
sums_so_far entries opening history =
    let spans = spans_of opening history in
    record {
      entries = entries;
      tasks = rows_in entries (λ pid. 0) (left_with (leavers_of opening history)) spans;
      cookies = parts_in entries (λ cookie. 0) spans;
    }

-- the sums of a history at its end
abbrev pub sums_of : ℕ → Opening → History → TaskSums
sums_of entries opening history =
    let spans = spans_of opening history in
    let tasks = rows_in entries (charged_in (fold_of opening history)) (cookie_at opening history) spans in
    record {
      entries = entries;
      tasks = tasks;
      cookies = parts_in entries (charged_to tasks) spans;
    }

-- ---- one span more

-- the times of a task with one span more, by what it does in that
abbrev pub with_span : Option TaskDoing → ℕ → TaskTimes → TaskTimes
with_span doing time times = record times { by_doing = with_time doing time times.by_doing }

-- the times of a cookie with one span more of one task, by what that does in it
abbrev pub with_one : TaskDoing → ℕ → CookieTimes → CookieTimes
with_one doing time times = record times { by_doing = with_time (Some doing) time times.by_doing }

-- the times of a cookie with one span more, by how many of its tasks do what in that
abbrev pub with_doers : RoomState → ℕ → ℕ → CookieTimes → CookieTimes
with_doers room cookie time times = record times { by_doing = with_each (λ does. time * length (doers does cookie room)) times.by_doing }

-- ---- what tasks are charged

-- the times of a task with the cookie for which it counts
abbrev pub counted_for : ℕ → TaskTimes → TaskTimes
counted_for cookie times = record times { cookie = cookie }

-- the times of a task with what it was charged
abbrev pub with_charge : ℕ → TaskTimes → TaskTimes
with_charge charged times = record times { charged = charged }

-- the times of a task, with what it was charged in a room, if that is to be noted
abbrev pub charged_where : Bool → RoomState → ℕ → TaskTimes → TaskTimes
charged_where told room pid times = if told then with_charge (forced_of room pid) times else times

-- the times of a task, with what it was charged and the cookie that it has if it lives
abbrev pub charged_living : Option Task → RoomState → ℕ → TaskTimes → TaskTimes
charged_living found room pid times =
    option_map_or (λ task. with_charge (forced_of room pid) (counted_for task.cookie times)) found times

-- the times of a cookie with this much more charged to it
abbrev pub charged_more : ℕ → CookieTimes → CookieTimes
charged_more charged times = record times { charged = times.charged + charged }
