-- Steps: what each event does to the room, and what it answers.
use Rattle.std.specs.Prelude.{ℕ, ◌+◌, Bool, false, ◌==◌, ◌&&◌, ◌||◌, not, if◌then◌else◌, List, [], ◌∷◌, ◌++◌, length, filter, Option, Some, None}
use Rattle.std.specs.List.{list_any}
use Rattle.cs_types.specs.declared.task.Task.{Task}
use Rattle.cs_types.specs.declared.task.TaskSpec.{TaskSpec}
use Rattle.cs_types.specs.declared.task.Policy.{Policy}
use Rattle.cs_types.specs.declared.event.Event.{Event}
use Rattle.cs_types.specs.declared.event.Event.TheVariants.{Turn, Resched, Block, Exit, Tick, Wake, Advance, Fork, Prctl, SetSched, Offline, Online, Load, Unload}
use Rattle.cs_types.specs.declared.reply.Reply.{Reply}
use Rattle.cs_types.specs.declared.reply.Reply.TheVariants.{Picked, Nothing, Stole, Missed, Slept, Ended, Idle, HasThreads, Woken, Awake, NoTask, Now, Ticked, Child, Set, Done, Already, Refused, NoCaller, Loaded, NoGuard}
use Rattle.cs_types.specs.declared.reply.Reply.TheVariants as answer
use Rattle.cs_types.specs.declared.reply.Errno.TheVariants.{Eagain, Ebusy}
use Rattle.cs_types.specs.declared.reply.Pick.{Pick}
use Rattle.cs_types.specs.Room.{RoomState, asleep, inserted, has_pid, task_of, sibling_of, running_on, is_online, online, with_sibling, with_task, flag}
use Rattle.cs_types.specs.Order.{deadline_class, class_of}
use Rattle.cs_types.specs.Accounting.{charge}
use Rattle.cs_types.specs.Time.{advanced, ticked_room, asks_at_tick}
use Rattle.cs_types.specs.Selection.{Scheduled, schedule, is_run}
use Rattle.cs_types.specs.Queueing.{dequeue, online_home, rehomed, queue_at_home}
use Rattle.cs_types.specs.Steal.{source_of, stolen, steal, set_place, next_place}
use Rattle.cs_types.specs.Hotplug.{leave, with_sibling_back}
use Rattle.cs_types.specs.Prctl.{prctl_answer, prctl_room}
use Rattle.cs_types.specs.Guards.{GuardList, guard_of, is_bench, is_active, load, unload}

-- the reply to an event, and the room after it
pub record Stepped : Type 0 where
  pub reply : Reply
  pub room : RoomState

-- ---- wake (`try_to_wake_up`, kernel/sched/core.c)

-- There is no such task, or it is awake already, or it is queued at its home, or, if that is offline, at another
-- (`try_to_wake_up`, `select_fallback_rq`).
abbrev pub wake : RoomState → Option Task → Stepped
wake room None = record { reply = NoTask; room = room }
wake room (Some task) =
    if task.queued
    then record { reply = Awake; room = room }
    else record { reply = Woken (rehomed room task).home; room = queue_at_home room (rehomed room task) }

-- ---- turn and resched (`__schedule`, kernel/sched/core.c)

-- a reply with the pick of a schedule
abbrev pub picked : (Pick → Reply) → Scheduled → Stepped
picked answer scheduled = record { reply = answer scheduled.pick; room = scheduled.room }

-- A try to steal: a task is stolen, or none is found (`try_steal_cookie`).
abbrev pub try_steal : RoomState → ℕ → Option Task → Stepped
try_steal room cpu None = record { reply = Missed (source_of room cpu); room = set_place room cpu (next_place room cpu) }
try_steal room cpu (Some task) =
    record { reply = Stole task.spec.pid (source_of room cpu); room = steal room cpu task }

-- A sibling that is offline does nothing.
abbrev pub unless_offline : RoomState → ℕ → Stepped → Stepped
unless_offline room cpu stepped = if is_online room cpu then stepped else record { reply = answer.Offline; room = room }

-- A pending reschedule is taken (`TIF_NEED_RESCHED` is set). Else the sibling tries to steal if it is to, and else
-- there is nothing to do.
abbrev pub turn : RoomState → Bool → ℕ → Stepped
turn room may_adopt cpu =
    if (sibling_of room cpu).pending
    then picked Picked (schedule room may_adopt cpu)
    else (
    if (sibling_of room cpu).place == 0
    then record { reply = Nothing; room = room }
    else try_steal room cpu (stolen room cpu)
    )

-- ---- block (`deactivate_task` in `__schedule`, kernel/sched/core.c)

-- The sibling runs idle.
abbrev pub run_idle : RoomState → ℕ → RoomState
run_idle room cpu = with_sibling room cpu (record (sibling_of room cpu) { run = None })

-- The sibling runs idle already. Or the open interval is charged, its running task is dequeued, and then it schedules
-- (the charge before the dequeue is this project's rule). The dequeue touched, so that schedule adopts nothing. It
-- charges at the same moment again, which records nothing.
abbrev pub block : RoomState → ℕ → Option Task → Stepped
block room cpu None = record { reply = Idle; room = room }
block room cpu (Some task) = picked (Slept task.spec.pid) (schedule (run_idle (dequeue (charge room) task) cpu) false cpu)

-- ---- exit (`do_exit`, kernel/exit.c, and `sched_core_free`, kernel/sched/core_sched.c)

-- whether a task leads a thread group that has another member (there are no zombies; this project's rule)
abbrev pub has_threads : RoomState → Task → Bool
has_threads room task =
    (task.spec.tgid == task.spec.pid)
    && list_any (λ other. (other.spec.tgid == task.spec.pid) && not (has_pid task.spec.pid other)) room.tasks

-- The task is no longer among the living, and its pid is the last of the ended.
abbrev pub without : RoomState → Task → RoomState
without room task =
    record room {
      tasks = filter (λ other. not (has_pid task.spec.pid other)) room.tasks;
      ended = room.ended ++ task.spec.pid ∷ [];
    }

-- The sibling runs idle, or its running task leads others. Or the open interval is charged, the task ends, and then the
-- sibling schedules (the charge before the dequeue is this project's rule). The dequeue touched, so that schedule
-- adopts nothing. It charges at the same moment again, which records nothing.
abbrev pub exit : RoomState → ℕ → Option Task → Stepped
exit room cpu None = record { reply = Idle; room = room }
exit room cpu (Some task) =
    if has_threads room task
    then record { reply = HasThreads; room = room }
    else picked (Ended task.spec.pid) (schedule (run_idle (without (charge room) task) cpu) false cpu)

-- ---- fork (`copy_process`, kernel/fork.c, and `sched_core_fork`, kernel/sched/core_sched.c)

-- A child has its caller's home, policy, credentials and process group (if that home is offline, `child_at_home` gives
-- it another). A thread is in its caller's thread group, and a process leads its own.
abbrev pub child_spec : Task → Bool → ℕ → TaskSpec
child_spec caller thread pid =
    record {
      pid = pid;
      tgid = if thread then caller.spec.tgid else pid;
      pgid = caller.spec.pgid;
      cpu = caller.home;
      policy = caller.spec.policy;
      creds = caller.spec.creds;
    }

-- A child has its caller's cookie (`sched_core_fork`). It is asleep until it is queued, and its numbers are 0 (that the
-- occupation is, is this project's rule).
abbrev pub child_of : Task → Bool → ℕ → Task
child_of caller thread pid = record (asleep (child_spec caller thread pid)) { cookie = caller.cookie }

-- The child is among the living, and its pid is never given again.
abbrev pub with_child : RoomState → Task → RoomState
with_child room child = record room { tasks = inserted child room.tasks; next_pid = room.next_pid + 1 }

-- It is at home where its caller is, or on the lowest online sibling if that is offline, and its virtual time is the
-- least of its queue, whatever its class (after `task_fork_fair`; this project's rule).
abbrev pub child_at_home : RoomState → Task → Task
child_at_home room child =
    let home = online_home room child.home in record child { home = home; vtime = (sibling_of room home).least }

-- whether a fork is refused: as many of these tasks live as may (this project's limit), or the caller is a deadline
-- task (`sched_fork`, kernel/sched/core.c)
abbrev pub may_not_fork : ℕ → List Task → Task → Bool
may_not_fork limit tasks caller = (length tasks == limit) || (class_of caller.spec.policy == deadline_class)

-- There is no such caller, or it may not fork, or the child is among the living and queued at its home
-- (`wake_up_new_task`).
abbrev pub fork : RoomState → Bool → Option Task → Stepped
fork room thread None = record { reply = NoCaller; room = room }
fork room thread (Some caller) =
    if may_not_fork room.task_limit room.tasks caller
    then record { reply = Refused Eagain; room = room }
    else (
    let child = child_of caller thread room.next_pid in
    record { reply = Child child.spec.pid; room = queue_at_home (with_child room child) (child_at_home room child) }
    )

-- ---- advance and tick (`update_curr`, `scheduler_tick`)

-- The clock goes on.
abbrev pub advance : RoomState → ℕ → Stepped
advance room delta = record { reply = Now (room.clock + delta); room = advanced room delta }

-- The open interval is charged (`sched_core_tick`; that it comes first is this project's rule). If the sibling runs
-- idle, that is all. Else its running task is asked to leave or not.
abbrev pub tick : RoomState → ℕ → Option Task → Stepped
tick room cpu None = record { reply = Ticked false; room = charge room }
tick room cpu (Some task) =
    record { reply = Ticked (asks_at_tick room cpu task); room = ticked_room (charge room) cpu task }

-- ---- setsched (`__sched_setscheduler`; this project's rule)

-- a task with this policy, which has used nothing of its slice
abbrev pub with_policy : Policy → Task → Task
with_policy policy task = record task { spec = record task.spec { policy = policy }; used = 0 }

-- A queued task leaves its queue and enters it again, and its sibling becomes pending if it runs.
abbrev pub requeue : RoomState → Task → RoomState
requeue room task =
    flag (queue_at_home (dequeue room task) task) task.home (is_run (sibling_of room task.home).run (Some task.spec.pid))

-- An asleep task has the policy. A queued one has it and is queued anew.
abbrev pub with_policy_set : RoomState → Policy → Task → RoomState
with_policy_set room policy task =
    let changed = with_policy policy task in if task.queued then requeue room changed else with_task room changed

-- There is no such task, or it has the policy.
abbrev pub set_policy : RoomState → Policy → Option Task → Stepped
set_policy room policy None = record { reply = NoTask; room = room }
set_policy room policy (Some task) = record { reply = Set; room = with_policy_set room policy task }

-- ---- leaving and coming back

-- It is offline already, or it is the last that is online, or it leaves (`_cpu_down`, kernel/cpu.c, which answers EBUSY
-- for the last; that an offline sibling is answered so is this project's rule).
abbrev pub take_offline : RoomState → ℕ → Stepped
take_offline room cpu =
    if not (is_online room cpu)
    then record { reply = Already; room = room }
    else (
    if length (online room) == 1
    then record { reply = Refused Ebusy; room = room }
    else record { reply = Done; room = leave room cpu }
    )

-- It is online already, or it comes back (`_cpu_up`, kernel/cpu.c; the answers are this project's).
abbrev pub bring_online : RoomState → ℕ → Stepped
bring_online room cpu =
    if is_online room cpu
    then record { reply = Already; room = room }
    else record { reply = Done; room = with_sibling_back room cpu }

-- ---- load and unload (this project's rules)

-- A guard can be loaded if it stands on the bench, and unloaded if it is active.
abbrev pub load_answer : GuardList → ℕ → Reply
load_answer guards index = if is_bench (guard_of guards index).place then Loaded else NoGuard

abbrev pub unload_answer : GuardList → ℕ → Reply
unload_answer guards index = if is_active (guard_of guards index).place then answer.Dropped else NoGuard

-- ---- every event

-- what each event does; the test says whether a waiting pick may be adopted
abbrev pub step : RoomState → Bool → Event → Stepped
step room may_adopt (Turn cpu) = unless_offline room cpu (turn room may_adopt cpu)
step room may_adopt (Resched cpu) = unless_offline room cpu (picked Picked (schedule room may_adopt cpu))
step room may_adopt (Block cpu) = unless_offline room cpu (block room cpu (running_on room cpu))
step room may_adopt (Exit cpu) = unless_offline room cpu (exit room cpu (running_on room cpu))
step room may_adopt (Tick cpu) = unless_offline room cpu (tick room cpu (running_on room cpu))
step room may_adopt (Wake pid) = wake room (task_of room pid)
step room may_adopt (Advance delta) = advance room delta
step room may_adopt (Fork caller thread) = fork room thread (task_of room caller)
step room may_adopt (Prctl caller ask) =
    record { reply = prctl_answer room caller ask; room = prctl_room room caller ask }
step room may_adopt (SetSched pid policy) = set_policy room policy (task_of room pid)
step room may_adopt (Offline cpu) = take_offline room cpu
step room may_adopt (Online cpu) = bring_online room cpu
step room may_adopt (Load index) =
    record { reply = load_answer room.guards index; room = record room { guards = load room.guards index } }
step room may_adopt (Unload index) =
    record { reply = unload_answer room.guards index; room = record room { guards = unload room.guards index } }
