-- Lanes: the room that a core and a table stand for, and that these agree.
use Rattle.std.specs.Prelude.{◌≡◌, ◌≢◌, ℕ, ◌+◌, ◌^◌, ◌<◌, ◌≤◌, ◌==◌, if◌then◌else◌, List, [], length, map, find, replicate, Some, None, true, false, All, IsTrue, slice_get, unwrap_or, IfSome, IsSomeAnd}
use Rattle.cs_types.specs.declared.task.Task.{Task}
use Rattle.cs_types.specs.declared.queue.Queued.{Queued}
use Rattle.cs_types.specs.declared.view.CpuView.{CpuView}
use Rattle.cs_types.specs.Scenario.{IsPolicy}
use Rattle.cs_types.specs.Room.{SiblingState, idle, RoomState, Interval, has_pid, sibling_of, task_of}
use Rattle.cs_types.specs.Guards.{GuardList}
use Rattle.forceidle_account.specs.Account.{Account}
use Rattle.task_table.specs.Table.{Table, IsSound as IsTable}
use Rattle.core_lanes.specs.Queued.{queued_among, queued_at, others, IsOf, AreStamped, HasOwnStamp}
use Rattle.core_lanes.specs.declared.queue.SiblingQueue.{Ghosts}
use Rattle.core_lanes.specs.declared.lane.Lane.{Lane}
use Rattle.core_lanes.specs.declared.lanes.Core.{Core}

-- ---- the room

-- a sibling, but for its own number and its queue
abbrev pub lane_state : {Q : Type 0} → Lane Q → SiblingState
lane_state lane =
    record {
      online = lane.online;
      run = lane.run;
      pending = lane.pending;
      waiting = lane.waiting;
      occupation = lane.idle_occupation;
      least = lane.least;
      snapshot = lane.snapshot;
      ran = lane.ran;
      place = lane.place;
    }

-- a sibling before the first step, with this queue: online, and running idle
abbrev pub lane_start : {Q : Type 0} → Q → Lane Q
lane_start queue =
    record {
      online = true;
      run = None;
      pending = false;
      waiting = None;
      place = 0;
      snapshot = 0;
      least = 0;
      idle_occupation = 0;
      ran = 0;
      number = 0;
      queue = queue;
    }

-- what a machine shows of it
abbrev pub lane_view : {Q : Type 0} → Lane Q → CpuView
lane_view lane =
    record { online = lane.online; run = unwrap_or lane.run 0; number = lane.number; pending = lane.pending }

-- a core but for its queues
pub record BareCore : Type 0 where
  pub cookie : ℕ
  pub task_number : ℕ
  pub pick_number : ℕ
  pub next_stamp : ℕ
  pub account : Account
  pub siblings : List SiblingState
  pub own : List ℕ

abbrev pub bare : {Q : Type 0} {g : Ghosts Q} → Core Q g → BareCore
bare core =
    record {
      cookie = core.cookie;
      task_number = core.task_number;
      pick_number = core.pick_number;
      next_stamp = core.next_stamp;
      account = core.account;
      siblings = map lane_state core.lanes.items;
      own = map (λ lane. lane.number) core.lanes.items;
    }

-- a core before the first step
abbrev pub bare_start : ℕ → BareCore
bare_start siblings =
    record {
      cookie = 0;
      task_number = 0;
      pick_number = 0;
      next_stamp = 0;
      account = record { count = 0; occupation = 0; started = None; intervals = 0 };
      siblings = replicate siblings idle;
      own = replicate siblings 0;
    }

-- what a room has, and a core and a table do not keep; and what each task that ended was charged, beside its pid
pub record Beside : Type 0 where
  pub cookie_limit : ℕ
  pub user_top : ℕ
  pub clock : ℕ
  pub ended : List (ℕ × ℕ)
  pub next_pid : ℕ
  pub next_cookie : ℕ
  pub intervals : List Interval
  pub guards : GuardList

-- the same at this moment
abbrev pub at : ℕ → Beside → Beside
at now beside = record beside { clock = now }

-- and with the recorded intervals of this room
abbrev pub beside_after : Beside → RoomState → Beside
beside_after beside room = record beside { intervals = room.intervals }

-- the room that a core and a table stand for, with what is beside them
abbrev pub room_by : Beside → BareCore → Table → RoomState
room_by beside core table =
    record {
      task_limit = table.limit;
      cookie_limit = beside.cookie_limit;
      user_top = beside.user_top;
      clock = beside.clock;
      tasks = table.tasks;
      ended = map (λ task. task.0) beside.ended;
      siblings = core.siblings;
      next_pid = beside.next_pid;
      next_stamp = core.next_stamp;
      next_cookie = beside.next_cookie;
      core_cookie = core.cookie;
      forced = core.account.count;
      occupation = core.account.occupation;
      started = core.account.started;
      intervals = beside.intervals;
      guards = beside.guards;
    }

abbrev pub room_of : {Q : Type 0} {g : Ghosts Q} → Beside → Core Q g × Table → RoomState
room_of beside both = room_by beside (bare both.0) both.1

-- each sibling runs idle, or a living task that is at home there
abbrev pub RunTheirOwn : {Q : Type 0} {g : Ghosts Q} → Core Q g × Table → Type 0
RunTheirOwn both = (beside : Beside) (cpu : ℕ) → let room = room_of beside both in
    IfSome (sibling_of room cpu).run (λ pid. IsSomeAnd (task_of room pid) (λ task. task.home ≡ cpu))

-- ---- that they agree

-- the task is at home on one of this number of siblings, and its policy keeps its limits
pub record IsFit (count : ℕ) (task : Task) : Type 0 where
  pub home : task.home < count
  pub policy : IsPolicy task.spec.policy

-- the queues, by rising sibling
abbrev pub queues_of : {Q : Type 0} {g : Ghosts Q} → Core Q g → List Q
queues_of core = map (λ lane. lane.queue) core.lanes.items

-- each queue holds the list of its sibling, and can take as many as the table
abbrev pub AreHeldAs : {Q : Type 0} {g : Ghosts Q} → (ℕ → List Queued) → Core Q g × Table → Type 0
AreHeldAs {Q} {g} lists both = (cpu : ℕ) (queue : Q) → slice_get (queues_of both.0) cpu ≡ Some queue → g.holds queue both.1.limit (lists cpu)

-- each holds the tasks that the table has queued on its sibling
abbrev pub AreHeld : {Q : Type 0} {g : Ghosts Q} → Core Q g × Table → Type 0
AreHeld both = AreHeldAs (queued_at both.1.tasks) both

-- the same but for the task with this pid, which none of them holds
abbrev pub AreHeldBut : {Q : Type 0} {g : Ghosts Q} → ℕ → Core Q g × Table → Type 0
AreHeldBut pid both = AreHeldAs (λ cpu. others pid (queued_at both.1.tasks cpu)) both

-- the same while the tasks of a sibling leave it: its queue is empty already
abbrev pub AreHeldAway : {Q : Type 0} {g : Ghosts Q} → ℕ → Core Q g × Table → Type 0
AreHeldAway leaving both = AreHeldAs (λ cpu. if cpu == leaving then [] else queued_at both.1.tasks cpu) both

-- the core before the first step, with a queue for each sibling that has no task and can take this number
pub record IsFirstCore {Q : Type 0} {g : Ghosts Q} (siblings tasks : ℕ) (core : Core Q g) : Type 0 where
  pub bare : bare core ≡ bare_start siblings
  pub held : (cpu : ℕ) (queue : Q) → slice_get (queues_of core) cpu ≡ Some queue → g.holds queue tasks []

-- A core and a table agree: at most 256 tasks live; each task fits the siblings, and, if it is queued, has a stamp of
-- its own; and the queues hold what they are to hold.
pub record AgreeBy {Q : Type 0} {g : Ghosts Q} (Held : Type 0) (both : Core Q g × Table) : Type 0 where
  pub table : IsTable both.1
  pub few_tasks : both.1.limit ≤ 256
  pub tasks : All (IsFit (length both.0.lanes.items)) both.1.tasks
  pub stamped : AreStamped both.0.next_stamp both.1.tasks
  pub held : Held

-- the queues hold the queued tasks
abbrev pub Agree : {Q : Type 0} {g : Ghosts Q} → Core Q g × Table → Type 0
Agree both = AgreeBy (AreHeld both) both

-- or all but those of the sibling whose tasks leave
abbrev pub AgreeAway : {Q : Type 0} {g : Ghosts Q} → ℕ → Core Q g × Table → Type 0
AgreeAway leaving both = AgreeBy (AreHeldAway leaving both) both

-- they agree, and this is the number of a sibling
pub record AgreesAt {Q : Type 0} {g : Ghosts Q} (sibling : ℕ) (both : Core Q g × Table) : Type 0 where
  pub cpu : sibling < length both.0.lanes.items
  pub agree : Agree both

-- the task is one of a table, its home is a sibling, and the queues hold what they are to hold
pub record IsAtHome {Q : Type 0} {g : Ghosts Q} (Held : Type 0) (both : Core Q g × Table) (task : Task) : Type 0 where
  pub table : IsTable both.1
  pub there : IsOf both.1.tasks task
  pub home : task.home < length both.0.lanes.items
  pub held : Held

-- of a core only the queues changed, and they hold what they are to hold
pub record ChangesQueues {Q : Type 0} {g : Ghosts Q} (old new : Core Q g) (Held : Type 0) : Type 0 where
  pub bare : bare new ≡ bare old
  pub held : Held

-- the task stands in the place of the one with its pid, in the table and in the queues, and nothing else changed
pub record Replaces {Q : Type 0} {g : Ghosts Q} (task : Task) (old new : Core Q g × Table) : Type 0 where
  pub table : new.1 ≡ record old.1 { tasks = map (λ other. if has_pid task.spec.pid other then task else other) old.1.tasks }
  pub bare : bare new.0 ≡ bare old.0
  pub agree : Agree new

-- a stamp that a queued task may have
pub record MayStamp (next : ℕ) (tasks : List Task) (task : Task) : Type 0 where
  pub below : task.stamp < next
  pub own : HasOwnStamp tasks task

-- a core and a table agree, and the table has a task with this one's pid, in whose place this one fits but for its
-- stamp
pub record FitsApart {Q : Type 0} {g : Ghosts Q} (both : Core Q g × Table) (task : Task) : Type 0 where
  pub agree : Agree both
  pub old : Task
  pub there : find (has_pid task.spec.pid) both.1.tasks ≡ Some old
  pub fits : IsFit (length both.0.lanes.items) task

-- it fits there with its stamp too, if it is queued
pub record FitsIn {Q : Type 0} {g : Ghosts Q} (both : Core Q g × Table) (task : Task) : Type 0 where
  pub apart : FitsApart both task
  pub stamp : IsTrue task.queued → MayStamp both.0.next_stamp both.1.tasks task

-- it fits but for its stamp, and has the cookie of the task whose place it takes
pub record KnowsApart {Q : Type 0} {g : Ghosts Q} (both : Core Q g × Table) (task : Task) : Type 0 where
  pub apart : FitsApart both task
  pub cookie : task.cookie ≡ apart.old.cookie

-- the same with its stamp, if it is queued
pub record Knows {Q : Type 0} {g : Ghosts Q} (both : Core Q g × Table) (task : Task) : Type 0 where
  pub known : KnowsApart both task
  pub stamp : IsTrue task.queued → MayStamp both.0.next_stamp both.1.tasks task

-- a task may be put to sleep: it is known, but for its stamp, and the touch does not overflow
pub record MayDequeue {Q : Type 0} {g : Ghosts Q} (both : Core Q g × Table) (task : Task) : Type 0 where
  pub knows : KnowsApart both task
  pub touches : both.0.task_number + 1 < 2 ^ 64

-- it may be queued: the same, and the next stamp does not overflow
pub record MayEnqueue {Q : Type 0} {g : Ghosts Q} (both : Core Q g × Table) (task : Task) : Type 0 where
  pub knows : KnowsApart both task
  pub stamp : both.0.next_stamp + 1 < 2 ^ 64
  pub touches : both.0.task_number + 1 < 2 ^ 64

-- the task with the pid may be put to sleep: there is one, and the touch does not overflow
pub record MaySleep {Q : Type 0} {g : Ghosts Q} (pid : ℕ) (both : Core Q g × Table) : Type 0 where
  pub agree : Agree both
  pub task : Task
  pub there : find (has_pid pid) both.1.tasks ≡ Some task
  pub touches : both.0.task_number + 1 < 2 ^ 64

-- a task may be queued that sleeps in the table, and differs from what it is there only in its home, its times and
-- whether it is queued
pub record MayWake {Q : Type 0} {g : Ghosts Q} (both : Core Q g × Table) (task : Task) : Type 0 where
  pub may : MayEnqueue both task
  pub asleep : may.knows.apart.old.queued ≡ false
  pub is : task ≡ record may.knows.apart.old { home = task.home; queued = task.queued; vtime = task.vtime; deadline = task.deadline }

-- the tasks queued on a sibling may be listed, in a list that has as many places
pub record MayTell {Q : Type 0} {g : Ghosts Q} (cpu : ℕ) (both : Core Q g × Table) (movers : List ℕ) : Type 0 where
  pub agree : AgreesAt cpu both
  pub each : length movers ≡ length (queued_among both.1.tasks cpu)

-- a task can move from its home: its virtual time and the least ones are far from overflow
pub record CanMove {Q : Type 0} {g : Ghosts Q} (core : Core Q g) (task : Task) : Type 0 where
  pub home : task.home < length core.lanes.items
  pub vtime : task.vtime < 2 ^ 100
  pub leasts : All (λ sibling. sibling.least < 2 ^ 100) (map lane_state core.lanes.items)

-- The task with the pid is queued on the one sibling, and may move to the other: its virtual time and the least ones
-- are far from overflow, and the next stamp and two touches do not overflow.
pub record MayMoveBy {Q : Type 0} {g : Ghosts Q} (Held : Type 0) (pid from to : ℕ) (both : Core Q g × Table) : Type 0 where
  pub task : Task
  pub there : find (has_pid pid) both.1.tasks ≡ Some task
  pub queued : IsTrue task.queued
  pub home : task.home ≡ from
  pub other : to < length both.0.lanes.items
  pub elsewhere : to ≢ from
  pub agree : AgreeBy Held both
  pub vtime : task.vtime < 2 ^ 100
  pub leasts : All (λ sibling. sibling.least < 2 ^ 100) (map lane_state both.0.lanes.items)
  pub stamp : both.0.next_stamp + 1 < 2 ^ 64
  pub touches : both.0.task_number + 2 < 2 ^ 64

-- the same if its sibling's queue is empty already
abbrev pub MayEnter : {Q : Type 0} {g : Ghosts Q} → ℕ → ℕ → ℕ → Core Q g × Table → Type 0
MayEnter pid from to both = MayMoveBy (AreHeldAway from both) pid from to both

-- ---- how long the queues are

-- on no sibling are more tasks queued than this number
abbrev pub AreNoLonger : {Q : Type 0} {g : Ghosts Q} → ℕ → Core Q g × Table → Type 0
AreNoLonger longest both = (cpu : ℕ) → cpu < length both.0.lanes.items → length (queued_among both.1.tasks cpu) ≤ longest

-- ---- the times

-- the virtual times, the leasts and the snapshots are below this bound, far above what any scenario comes to
pub record AreLow (siblings : List SiblingState) (tasks : List Task) : Type 0 where
  pub vtimes : All (λ task. task.vtime < 2 ^ 100) tasks
  pub leasts : All (λ sibling. sibling.least < 2 ^ 100) siblings
  pub snapshots : All (λ sibling. sibling.snapshot < 2 ^ 100) siblings

abbrev pub HasLowTimes : {Q : Type 0} {g : Ghosts Q} → Core Q g × Table → Type 0
HasLowTimes both = AreLow (map lane_state both.0.lanes.items) both.1.tasks
