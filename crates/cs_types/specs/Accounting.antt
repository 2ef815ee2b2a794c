-- Accounting: the intervals in which siblings are forced idle, who is charged for them, and how much
-- (`__sched_core_account_forceidle`, kernel/sched/core_sched.c). There is no running total: there is what an auditor
-- would write down, interval by interval.
use Rattle.std.specs.Prelude.{ℕ, ◌-◌, ◌*◌, ◌/◌, Bool, ◌==◌, ◌||◌, nat_lt, if◌then◌else◌, List, ◌++◌, length, filter, sum_by, Option, Some, None}
use Rattle.std.specs.List.{list_any, filter_map}
use Rattle.std.specs.Option.{option_map, option_and_then, option_to_list}
use Rattle.cs_types.specs.Room.{RoomState, Interval, task_of, sibling_of, online, to_run}

-- ---- intervals

-- what an interval charges each task that it charges: its time, or, if the count or the occupation is above 1, its time
-- times the count, shared among the siblings that had a task, rounded down
abbrev pub share : Interval → ℕ
share interval =
    let delta = interval.to - interval.from in
    if nat_lt 1 interval.count || nat_lt 1 interval.occupation
    then delta * interval.count / interval.occupation
    else delta

-- what an interval charges in all: its share, for each task that it charges
abbrev pub charged_time : Interval → ℕ
charged_time interval = length interval.charged * share interval

-- its forced-idle time: its time, for each sibling that was forced idle in it
abbrev pub forced_time : Interval → ℕ
forced_time interval = (interval.to - interval.from) * interval.count

-- whether an interval charges the task with the pid
abbrev pub charges : ℕ → Interval → Bool
charges pid interval = list_any (λ charged. charged == pid) interval.charged

-- a task's total: the sum of the shares of the intervals that charge it (`core_forceidle_sum`)
unfoldable pub total_of : ℕ → List Interval → ℕ
total_of pid intervals = sum_by share (filter (charges pid) intervals)

-- ---- what is charged

-- who is charged for a sibling: what it is to run, if that is a task (`core_pick`, `rq->curr`; that a task without a
-- cookie is charged too is the rule since 6.0, and not yet 5.19's)
abbrev pub charged_on : RoomState → ℕ → Option ℕ
charged_on room cpu = option_map (λ task. task.spec.pid) (option_and_then (task_of room) (to_run (sibling_of room cpu)))

-- who is charged: of each online sibling, by rising sibling
unfoldable pub charged : RoomState → List ℕ
charged room = filter_map (charged_on room) (online room)

-- the interval from its start up to now, of a room in which one is open; none if no time has passed
abbrev pub up_to_now : RoomState → Option ℕ → Option Interval
up_to_now room None = None
up_to_now room (Some start) =
    if room.clock == start
    then None
    else Some (record { from = start; to = room.clock; count = room.forced; occupation = room.occupation; charged = charged room })

-- the open interval up to now; none if none is open or no time has passed
abbrev pub open_interval : RoomState → Option Interval
open_interval room = up_to_now room room.started

-- ---- the charge

-- A charge: the open interval is recorded up to now, and goes on from now (`__sched_core_account_forceidle`).
abbrev pub charge : RoomState → RoomState
charge room =
    record room {
      intervals = room.intervals ++ option_to_list (open_interval room);
      started = option_map (λ start. room.clock) room.started;
    }

-- No interval of forced idle is open, and the forced-idle count and the occupation are 0. One that was open is not
-- charged here (the beginning of `pick_next_task`, kernel/sched/core.c).
abbrev pub without_interval : RoomState → RoomState
without_interval room = record room { forced = 0; occupation = 0; started = None }
