-- The room: the state of the core and its tasks, and how it starts. Each part names the kernel's field, or says that it
-- is this project's.
use Rattle.std.specs.Prelude.{ℕ, ◌+◌, max, Bool, true, false, ◌==◌, ◌&&◌, ◌||◌, ◌-◌, nat_lt, if◌then◌else◌, List, [], ◌∷◌, ◌++◌, length, map, filter, find, fold, replicate, slice_index_or, slice_set, Option, None, unwrap_or}
use Rattle.std.specs.List.{range_with_len}
use Rattle.std.specs.Option.{option_and_then}
use Rattle.cs_types.specs.declared.task.Task.{Task}
use Rattle.cs_types.specs.declared.task.TaskSpec.{TaskSpec}
use Rattle.cs_types.specs.declared.scenario.Scenario.{Scenario}
use Rattle.cs_types.specs.Guards.{GuardList, guards_on_bench}

-- what waits for a sibling: nothing, idle or a task
abbrev pub Waiting : Type 0
Waiting = Option (Option ℕ)

-- a recorded interval of the clock, in ns: its two moments, how many siblings were forced idle in it and for how many a
-- task was chosen, and the pids of the tasks that it charges, by rising sibling
pub record Interval : Type 0 where
  pub from : ℕ
  pub to : ℕ
  pub count : ℕ
  pub occupation : ℕ
  pub charged : List ℕ

-- an SMT sibling of the core (`struct rq`)
pub record SiblingState : Type 0 where
  -- whether it is online (`cpu_online_mask`)
  pub online : Bool
  -- the pid of its running task, which stays queued; none if it runs idle (`rq->curr`)
  pub run : Option ℕ
  -- whether it has a pending reschedule (`TIF_NEED_RESCHED` of `rq->curr`)
  pub pending : Bool
  -- its waiting pick (`rq->core_pick`)
  pub waiting : Waiting
  -- the occupation that its idle remembers (`core_occupation` of `rq->idle`)
  pub occupation : ℕ
  -- the least virtual time of its queue, in ns (`cfs_rq->min_vruntime`)
  pub least : ℕ
  -- its snapshot: the least as it was last kept for comparisons with other siblings (`cfs_rq->min_vruntime_fi`)
  pub snapshot : ℕ
  -- the time since its last schedule, in ns (of a fair task `se.sum_exec_runtime` less `se.prev_sum_exec_runtime`)
  pub ran : ℕ
  -- its balance place: how far on the sibling is from which it tries to steal next, 0 if it does not try
  -- (`core_balance_head` of each CPU, and the loop of `steal_cookie_task`)
  pub place : ℕ

-- the room: the core and its tasks (`rq->core`)
pub record RoomState : Type 0 where
  -- the limits of the scenario, which no step changes (this project's)
  pub task_limit : ℕ
  pub cookie_limit : ℕ
  pub user_top : ℕ
  -- the clock, in ns (`rq->clock`; that there is one for all siblings is this project's rule)
  pub clock : ℕ
  -- the living tasks (`struct task_struct`), by rising pid
  pub tasks : List Task
  -- the pids of the tasks that ended, in the order of their ends (this project's)
  pub ended : List ℕ
  -- the siblings (the CPUs of one core, even while they are offline), by rising number
  pub siblings : List SiblingState
  -- the next pid, the next stamp and the next cookie (this project's)
  pub next_pid : ℕ
  pub next_stamp : ℕ
  pub next_cookie : ℕ
  -- the core cookie (`rq->core->core_cookie`)
  pub core_cookie : ℕ
  -- the forced-idle count: how many siblings the last core-wide selection forced idle
  -- (`rq->core->core_forceidle_count`)
  pub forced : ℕ
  -- the occupation: for how many siblings a task was chosen (`rq->core->core_forceidle_occupation`)
  pub occupation : ℕ
  -- since when the open interval of forced idle has not been charged, none if none is open
  -- (`rq->core->core_forceidle_start`, which is 0 in the kernel if none is open)
  pub started : Option ℕ
  -- the recorded intervals of forced idle, the oldest first (this project's)
  pub intervals : List Interval
  -- the guards (the hooks of `security_ptrace_access_check`)
  pub guards : GuardList

-- ---- the start

-- a task of the scenario before its first wake: asleep, with no cookie, at home on the sibling of its line
abbrev pub asleep : TaskSpec → Task
asleep spec =
    record {
      spec = spec;
      cookie = 0;
      home = spec.cpu;
      queued = false;
      vtime = 0;
      deadline = 0;
      stamp = 0;
      used = 0;
      occupation = 0;
    }

-- the tasks, by rising pid, with one more in its place: those with a smaller pid, the task, and those with a greater
-- one
abbrev pub inserted : Task → List Task → List Task
inserted task tasks =
    filter (λ other. nat_lt other.spec.pid task.spec.pid) tasks ++ task ∷ filter (λ other. nat_lt task.spec.pid other.spec.pid) tasks

-- the tasks of these lines before the first wake, by rising pid
abbrev pub asleep_tasks : List TaskSpec → List Task
asleep_tasks specs = fold (λ tasks spec. inserted (asleep spec) tasks) [] specs

-- a sibling that is online, runs idle and is not pending
abbrev pub idle : SiblingState
idle =
    record {
      online = true;
      run = None;
      pending = false;
      waiting = None;
      occupation = 0;
      least = 0;
      snapshot = 0;
      ran = 0;
      place = 0;
    }

-- one above the greatest pid of these lines, 1 if there is none
abbrev pub first_pid : List TaskSpec → ℕ
first_pid specs = fold (λ pid spec. max pid spec.pid) 0 specs + 1

-- what a machine begins with: a scenario, and how many guards were handed in
pub record Opening : Type 0 where
  pub scenario : Scenario
  pub guards : ℕ

-- all tasks asleep, all siblings idle, all numbers 0, 1 the first cookie, the first pid above those of the lines, and
-- all guards on the bench
abbrev pub start : Opening → RoomState
start opening =
    let scenario = opening.scenario in
    record {
      task_limit = scenario.task_limit;
      cookie_limit = scenario.cookie_limit;
      user_top = scenario.user_top;
      clock = 0;
      tasks = asleep_tasks scenario.tasks;
      ended = [];
      siblings = replicate scenario.siblings idle;
      next_pid = first_pid scenario.tasks;
      next_stamp = 0;
      next_cookie = 1;
      core_cookie = 0;
      forced = 0;
      occupation = 0;
      started = None;
      intervals = [];
      guards = guards_on_bench scenario.teaches opening.guards;
    }

-- ---- parts of a room

-- whether the task has this pid
abbrev pub has_pid : ℕ → Task → Bool
has_pid pid task = task.spec.pid == pid

-- the living task with the pid
abbrev pub task_of : RoomState → ℕ → Option Task
task_of room pid = find (has_pid pid) room.tasks

-- the tasks queued on a sibling: those that are queued and whose home it is (the running one is among them)
abbrev pub queued_on : RoomState → ℕ → List Task
queued_on room cpu = filter (λ task. task.queued && (task.home == cpu)) room.tasks

-- what stands for a sibling that is not there: it is offline, and has nothing
abbrev pub absent : SiblingState
absent = record idle { online = false }

-- the sibling of this number
abbrev pub sibling_of : RoomState → ℕ → SiblingState
sibling_of room cpu = slice_index_or room.siblings cpu absent

-- the task that a sibling runs, none if it runs idle
abbrev pub running_on : RoomState → ℕ → Option Task
running_on room cpu = option_and_then (task_of room) (sibling_of room cpu).run

-- what a sibling is to run: what waits for it, and if nothing waits, what it runs
abbrev pub to_run : SiblingState → Option ℕ
to_run sibling = unwrap_or sibling.waiting sibling.run

-- whether a sibling is online, and the numbers of those that are
abbrev pub is_online : RoomState → ℕ → Bool
is_online room cpu = (sibling_of room cpu).online

abbrev pub online : RoomState → List ℕ
online room = filter (is_online room) (range_with_len 0 (length room.siblings))

-- the lowest sibling that is online (this project's rule)
abbrev pub lowest_online : RoomState → ℕ
lowest_online room = unwrap_or (find (is_online room) (range_with_len 0 (length room.siblings))) 0

-- the numbers of the siblings that are online, in the order that begins at one sibling, rises, and then goes from 0 up
-- to it
abbrev pub online_from : RoomState → ℕ → List ℕ
online_from room cpu =
    filter (is_online room) (range_with_len cpu (length room.siblings - cpu) ++ range_with_len 0 cpu)

-- ---- changes of a room

-- the sibling of this number is this one
abbrev pub with_sibling : RoomState → ℕ → SiblingState → RoomState
with_sibling room cpu sibling = record room { siblings = slice_set room.siblings cpu sibling }

-- the task in the place of the one with its pid
abbrev pub with_task : RoomState → Task → RoomState
with_task room task =
    record room { tasks = map (λ other. if has_pid task.spec.pid other then task else other) room.tasks }

-- the sibling is pending if it was before, or if the test says so
abbrev pub flag : RoomState → ℕ → Bool → RoomState
flag room cpu test =
    with_sibling room cpu (record (sibling_of room cpu) { pending = (sibling_of room cpu).pending || test })
