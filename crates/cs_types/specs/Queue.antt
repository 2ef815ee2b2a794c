-- Queue: the key of a queued task in its class and its seat on its sibling, and what a class's queue and a sibling's
-- run queue stand for (`struct rq`, and the queues of the classes in it; ties by the queue stamp are this project's
-- rule).
use Rattle.std.specs.Prelude.{◌≡◌, ℕ, ◌-◌, ◌≤◌, ◌==◌, ◌&&◌, Option, List, map, find, slice_get}
use Rattle.std.specs.Option.{option_map}
use Rattle.std.specs.Ordering.{ordering_then, nat_cmp, is_lt}
use Rattle.std.specs.declared.cmp.Ordering.{Ordering}
use Rattle.std.specs.FinMap.{FinMap, entries, from_entries, values}
use Rattle.cs_types.specs.declared.queue.Queued.{Queued}
use Rattle.cs_types.specs.declared.task.Policy.{Policy}
use Rattle.cs_types.specs.declared.task.Policy.TheVariants.{Stop, Deadline, Fifo, Rr, Fair}
use Rattle.cs_types.specs.declared.task.Task.{Task}
use Rattle.cs_types.specs.Order.{stop_class, fair_class, class_of}

-- the value at the least key of a map, none if it is empty. The values stand by rising key
abbrev pub top_of : {K X : Type 0} {R : K → K → Ordering} → FinMap R X → Option X
top_of members = slice_get (values members) 0

-- ---- in a class

-- a task's key in its class: its rank, and then its stamp. The smaller key is the higher
abbrev pub Key : Type 0
Key = ℕ × ℕ

abbrev pub key_cmp : Key → Key → Ordering
key_cmp a b = ordering_then (nat_cmp a.0 b.0) (nat_cmp a.1 b.1)

-- the tasks of a class: the pid at each key
abbrev pub Members : Type 0
Members = FinMap key_cmp ℕ

-- a class's queue: its tasks, and how many more it can take
pub record Ranked : Type 0 where
  pub members : Members
  pub spare : ℕ

-- ---- on a sibling

-- a task's seat on its sibling: its class, and then its key in the class. The smaller seat is the higher
abbrev pub Seat : Type 0
Seat = ℕ × Key

abbrev pub seat_cmp : Seat → Seat → Ordering
seat_cmp a b = ordering_then (nat_cmp a.0 b.0) (key_cmp a.1 b.1)

-- the queued tasks of a sibling: the pid at each seat
abbrev pub Seats : Type 0
Seats = FinMap seat_cmp ℕ

-- a sibling's tasks by class, and how many more there may be
pub record Seated : Type 0 where
  pub tasks : Seats
  pub spare : ℕ

-- the seat of a queued task
abbrev pub seat_of : Queued → Seat
seat_of task = (task.class, (task.rank, task.stamp))

-- ---- among the tasks of a sibling that have a cookie

-- a task's spot: its cookie, and then its seat. Tasks with one cookie stand together, the highest first
-- (`__sched_core_less`)
abbrev pub Spot : Type 0
Spot = ℕ × Seat

abbrev pub spot_cmp : Spot → Spot → Ordering
spot_cmp a b = ordering_then (nat_cmp a.0 b.0) (seat_cmp a.1 b.1)

-- the queued tasks of a sibling that have a cookie: the pid at each spot
abbrev pub Spots : Type 0
Spots = FinMap spot_cmp ℕ

-- a sibling's tasks with cookies, and how many more there may be
pub record Spotted : Type 0 where
  pub tasks : Spots
  pub spare : ℕ

-- a sibling's run queue: its tasks, those of them that have a cookie, and how many more it can take
pub record RunQueued : Type 0 where
  pub tasks : Seats
  pub cookies : Spots
  pub spare : ℕ

-- the spot of a queued task
abbrev pub spot_of : Queued → Spot
spot_of task = (task.cookie, seat_of task)

-- the task of this pid at a spot
abbrev pub queued_in : Spot → ℕ → Queued
queued_in spot pid = record { pid = pid; class = spot.1.0; rank = spot.1.1.0; stamp = spot.1.1.1; cookie = spot.0 }

-- the highest task with the cookie (`sched_core_find`)
abbrev pub first_with : Spots → ℕ → Option Queued
first_with tasks cookie = option_map (λ entry. queued_in entry.0 entry.1) (find (λ entry. entry.0.0 == cookie) (entries tasks))

-- the highest task with the cookie of this one that is lower than it (`sched_core_next`)
abbrev pub next_with : Spots → Queued → Option Queued
next_with tasks task =
    option_map (λ entry. queued_in entry.0 entry.1)
    (find (λ entry. entry.0.0 == task.cookie && is_lt (seat_cmp (seat_of task) entry.0.1)) (entries tasks))

-- The class is one of the four, and the rank of a stop task is 0.
pub record IsRanked (task : Queued) : Type 0 where
  pub class : task.class ≤ fair_class
  pub stop : task.class ≡ stop_class → task.rank ≡ 0

-- ---- the tasks of a room in a run queue

-- a task's rank, by its policy, its deadline and its virtual time: the earlier deadline, the greater priority and the
-- smaller virtual time is the higher, and no stop task is higher than another
abbrev pub rank_by : Policy → ℕ → ℕ → ℕ
rank_by Stop deadline vtime = 0
rank_by (Deadline relative) deadline vtime = deadline
rank_by (Fifo priority) deadline vtime = 99 - priority
rank_by (Rr priority) deadline vtime = 99 - priority
rank_by (Fair nice) deadline vtime = vtime

-- a task as a run queue takes it
abbrev pub queued_of : Task → Queued
queued_of task =
    record {
      pid = task.spec.pid;
      class = class_of task.spec.policy;
      rank = rank_by task.spec.policy task.deadline task.vtime;
      stamp = task.stamp;
      cookie = task.cookie;
    }

-- a task's seat, with its pid
abbrev pub seat_with_pid : Task → Seat × ℕ
seat_with_pid task = (seat_of (queued_of task), task.spec.pid)

-- the queue of these tasks
abbrev pub queue_of : List Task → Seats
queue_of tasks = from_entries (map seat_with_pid tasks)
