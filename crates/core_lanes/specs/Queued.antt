-- Queued: the tasks of a table that are queued on a sibling, as its queue has them, and what it is asked of them.
use Rattle.std.specs.Prelude.{◌≡◌, ◌≢◌, ℕ, ◌<◌, Bool, ◌==◌, ◌&&◌, not, nat_lt, if◌then◌else◌, List, map, filter, find, count_by, Option, Some, All, IsTrue}
use Rattle.std.specs.List.{list_any}
use Rattle.std.specs.List.Sorted.{IsPermutation, IsSortedByKey}
use Rattle.std.specs.Ordering.{nat_cmp}
use Rattle.cs_types.specs.declared.task.Task.{Task}
use Rattle.cs_types.specs.declared.queue.Queued.{Queued}
use Rattle.cs_types.specs.Order.{class_of, priority_of, foremost, is_fair, goes_before}
use Rattle.cs_types.specs.Queue.{queued_of}
use Rattle.cs_types.specs.Scenario.{IsPolicy}
use Rattle.cs_types.specs.Room.{has_pid}
use Rattle.task_table.specs.Table.{Table, IsSound as IsTable}

-- ---- the tasks of a queue

-- the tasks of a list that are queued on a sibling
abbrev pub queued_among : List Task → ℕ → List Task
queued_among tasks cpu = filter (λ task. task.queued && (task.home == cpu)) tasks

-- as its queue has them
abbrev pub queued_at : List Task → ℕ → List Queued
queued_at tasks cpu = map queued_of (queued_among tasks cpu)

-- a task as it is handed over when all leave: its stamp, and its pid
abbrev pub mover_of : Task → ℕ × ℕ
mover_of task = (task.stamp, task.spec.pid)

-- These are the pids of the tasks, each of which has its stamp here and its pid, by rising stamp.
pub record AreTold (tasks : List (ℕ × ℕ)) (pids : List ℕ) : Type 0 where
  pub movers : List (ℕ × ℕ)
  pub same : IsPermutation tasks movers
  pub rising : IsSortedByKey (λ mover. mover.0) nat_cmp movers
  pub are : pids ≡ map (λ mover. mover.1) movers

-- those but for the one with this pid
abbrev pub others : ℕ → List Queued → List Queued
others pid queued = filter (λ task. not (task.pid == pid)) queued

-- the tasks of a list once this one, which is one of them, has this cookie
abbrev pub given_cookie : Task → ℕ → List Task → List Task
given_cookie task cookie tasks = map (λ other. if has_pid task.spec.pid other then record task { cookie = cookie } else other) tasks

-- and once it has this virtual time
abbrev pub given_vtime : Task → ℕ → List Task → List Task
given_vtime task vtime tasks = map (λ other. if has_pid task.spec.pid other then record task { vtime = vtime } else other) tasks

-- the task is one of the list
abbrev pub IsOf : List Task → Task → Type 0
IsOf tasks task = find (has_pid task.spec.pid) tasks ≡ Some task

-- no other queued task of the list has this one's stamp
abbrev pub HasOwnStamp : List Task → Task → Type 0
HasOwnStamp tasks task =
    (other : Task) → IsOf tasks other → IsTrue other.queued → other.stamp ≡ task.stamp → other.spec.pid ≡ task.spec.pid

-- the stamps of the queued tasks of a list are distinct, and below the next one
pub record AreStamped (next : ℕ) (tasks : List Task) : Type 0 where
  pub below : All (λ task. IsTrue task.queued → task.stamp < next) tasks
  pub distinct : (task : Task) → IsOf tasks task → IsTrue task.queued → HasOwnStamp tasks task

-- A queue of which this says what it holds and can take may be asked about a task: the table has it queued on the
-- sibling, and the queue holds the tasks that the table has queued there.
pub record IsQueuedOn (Holds : ℕ → List Queued → Type 0) (cpu : ℕ) (all : Table) (task : Task) : Type 0 where
  pub table : IsTable all
  pub there : IsOf all.tasks task
  pub queued : IsTrue task.queued
  pub home : task.home ≡ cpu
  pub holds : Holds all.limit (queued_at all.tasks cpu)

-- the same for a fair task
pub record IsFairOn (Holds : ℕ → List Queued → Type 0) (cpu : ℕ) (all : Table) (task : Task) : Type 0 where
  pub there : IsQueuedOn Holds cpu all task
  pub fair : IsTrue (is_fair task)

-- A task may enter a queue: the same, but the queue holds the others, and no other queued task has its stamp.
pub record MayBePut (Holds : ℕ → List Queued → Type 0) (cpu : ℕ) (all : Table) (task : Task) : Type 0 where
  pub table : IsTable all
  pub there : IsOf all.tasks task
  pub queued : IsTrue task.queued
  pub home : task.home ≡ cpu
  pub stamp : HasOwnStamp all.tasks task
  pub holds : Holds all.limit (others task.spec.pid (queued_at all.tasks cpu))

-- the policies of the tasks keep their limits
abbrev pub HavePolicies : List Task → Type 0
HavePolicies tasks = All (λ task. IsPolicy task.spec.policy) tasks

-- A queue may be searched: it holds what it is to hold, and the policies of the tasks keep their limits.
pub record MaySearch (Holds : ℕ → List Queued → Type 0) (cpu : ℕ) (all : Table) : Type 0 where
  pub policies : HavePolicies all.tasks
  pub holds : Holds all.limit (queued_at all.tasks cpu)

-- It may be asked for its tasks with a cookie, which is not 0.
pub record MayFind (Holds : ℕ → List Queued → Type 0) (cpu : ℕ) (all : Table) (given : ℕ) : Type 0 where
  pub cookie : given ≢ 0
  pub search : MaySearch Holds cpu all

-- It may be asked about a task that the table has.
pub record MayCompare (Holds : ℕ → List Queued → Type 0) (cpu : ℕ) (all : Table) (task : Task) : Type 0 where
  pub table : IsTable all
  pub there : IsOf all.tasks task
  pub search : MaySearch Holds cpu all

-- ---- what is asked of it

-- the tasks with a cookie
abbrev pub with_cookie : ℕ → List Task → List Task
with_cookie cookie tasks = filter (λ task. task.cookie == cookie) tasks

-- those after a task
abbrev pub behind : Task → List Task → List Task
behind task tasks = filter (λ other. goes_before task other) tasks

-- the smallest virtual time of the fair tasks
abbrev pub smallest_vtime : List Task → Option ℕ
smallest_vtime tasks = foremost nat_lt (map (λ task. task.vtime) (filter is_fair tasks))

-- whether another task has this one's class, and of real-time tasks the same priority
abbrev pub is_peer_of : Task → Task → Bool
is_peer_of task other =
    (class_of other.spec.policy == class_of task.spec.policy) && (priority_of other.spec.policy == priority_of task.spec.policy)

abbrev pub has_peer : Task → List Task → Bool
has_peer task tasks = list_any (λ other. not (has_pid task.spec.pid other) && is_peer_of task other) tasks

-- whether a queue has one task as it has another with its pid: both are queued at one home, and stand at one place
-- there
abbrev pub is_alike : Task → Task → Bool
is_alike task other =
    task.queued && other.queued && (task.home == other.home) && (task.stamp == other.stamp) && (task.cookie == other.cookie)
    && (task.deadline == other.deadline) && (task.vtime == other.vtime) && is_peer_of task other

-- how many have a smaller stamp
abbrev pub count_before : List Task → ℕ → ℕ
count_before tasks stamp = count_by (λ other. nat_lt other.stamp stamp) tasks
