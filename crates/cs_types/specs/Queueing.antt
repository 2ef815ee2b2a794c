-- Queueing: how a task enters a sibling's queue, leaves it, and moves to another (`enqueue_task` and `dequeue_task`,
-- kernel/sched/core.c). A running task stays queued.
use Rattle.std.specs.Prelude.{ℕ, ◌+◌, ◌-◌, max, Bool, true, false, if◌then◌else◌}
use Rattle.std.specs.Option.{option_map_or}
use Rattle.cs_types.specs.declared.task.Task.{Task}
use Rattle.cs_types.specs.declared.task.Policy.{Policy}
use Rattle.cs_types.specs.declared.task.Policy.TheVariants.{Deadline, Fair}
use Rattle.cs_types.specs.Room.{RoomState, is_online, lowest_online, sibling_of, running_on, with_task, flag}
use Rattle.cs_types.specs.Order.{is_higher_here}

-- ---- into a queue and out of it

-- An enqueue gives the task the next stamp (`enqueue_task`; the stamp is this project's rule).
abbrev pub enqueue : RoomState → Task → RoomState
enqueue room task =
    record (with_task room (record task { queued = true; stamp = room.next_stamp })) { next_stamp = room.next_stamp + 1 }

-- The task is no longer queued (`dequeue_task`).
abbrev pub dequeue : RoomState → Task → RoomState
dequeue room task = with_task room (record task { queued = false })

-- ---- to another sibling

-- A task that moves keeps what it is ahead of the least virtual time of its queue, whatever its class (after
-- `dequeue_entity` and `enqueue_entity`; this project's rule).
abbrev pub moved_to : RoomState → ℕ → Task → Task
moved_to room cpu task =
    record task {
      home = cpu;
      vtime = (sibling_of room cpu).least + (task.vtime - (sibling_of room task.home).least);
    }

-- It leaves the one queue and enters the other.
abbrev pub moved : RoomState → ℕ → Task → RoomState
moved room cpu task = enqueue room (moved_to room cpu task)

-- where a task of this sibling is at home: there, and, while that is offline, on the lowest online one
abbrev pub online_home : RoomState → ℕ → ℕ
online_home room cpu = if is_online room cpu then cpu else lowest_online room

-- A task whose home is offline goes to another.
abbrev pub rehomed : RoomState → Task → Task
rehomed room task = if is_online room task.home then task else moved_to room (lowest_online room) task

-- ---- at its home

-- A task that is queued at its home (a woken one, a child, one whose policy is set) asks that sibling to reschedule if
-- it runs idle or a lower task (after `check_preempt_curr`; this project's rule).
abbrev pub preempts : RoomState → Task → Bool
preempts room task = option_map_or (λ running. is_higher_here task running) (running_on room task.home) true

-- A deadline task's absolute deadline is the clock plus its relative deadline (after `update_dl_entity`), and a fair
-- task is pulled up to its queue's least virtual time (after `place_entity`; both are this project's rules).
abbrev pub refreshed_by : RoomState → Policy → Task → Task
refreshed_by room (Deadline relative) task = record task { deadline = room.clock + relative }
refreshed_by room (Fair nice) task = record task { vtime = max task.vtime (sibling_of room task.home).least }
refreshed_by room policy task = task

abbrev pub refreshed : RoomState → Task → Task
refreshed room task = refreshed_by room task.spec.policy task

-- The task is refreshed and queued at its home, which may become pending (after `ttwu_do_activate`; this project's
-- rule).
abbrev pub queue_at_home : RoomState → Task → RoomState
queue_at_home room task =
    let fresh = refreshed room task in flag (enqueue room fresh) task.home (preempts room fresh)
