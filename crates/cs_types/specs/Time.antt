-- Time: what an advance of the clock and a tick of a sibling's timer do (`update_curr`, `task_tick_rt`,
-- `task_tick_core` and `sched_prio_to_weight` of kernel/sched; the moments and the exact numbers are this project's
-- rules).
use Rattle.std.specs.Prelude.{ℕ, ◌+◌, ◌-◌, ◌*◌, ◌/◌, max, ℤ, pos, negsuc, Bool, true, false, ◌==◌, ◌&&◌, ◌||◌, not, nat_lt, if◌then◌else◌, List, [], ◌∷◌, map, filter, Some, slice_index_or}
use Rattle.std.specs.List.{list_any, enumerate_from}
use Rattle.std.specs.Option.{option_map_or}
use Rattle.cs_types.specs.declared.task.Task.{Task}
use Rattle.cs_types.specs.declared.task.Policy.{Policy}
use Rattle.cs_types.specs.declared.task.Policy.TheVariants.{Rr, Fair}
use Rattle.cs_types.specs.Room.{RoomState, SiblingState, has_pid, queued_on, sibling_of, with_task, flag}
use Rattle.cs_types.specs.Order.{foremost, real_time_class, class_of, is_fair, priority_of}
use Rattle.cs_types.specs.Selection.{is_run}

-- ---- weights

-- the weights of the nice values from -20 to 19 (`sched_prio_to_weight`)
abbrev pub weights : List ℕ
weights =
    88761 ∷ 71755 ∷ 56483 ∷ 46273 ∷ 36291 ∷ 29154 ∷ 23254 ∷ 18705 ∷ 14949 ∷ 11916
    ∷ 9548 ∷ 7620 ∷ 6100 ∷ 4904 ∷ 3906 ∷ 3121 ∷ 2501 ∷ 1991 ∷ 1586 ∷ 1277
    ∷ 1024 ∷ 820 ∷ 655 ∷ 526 ∷ 423 ∷ 335 ∷ 272 ∷ 215 ∷ 172 ∷ 137
    ∷ 110 ∷ 87 ∷ 70 ∷ 56 ∷ 45 ∷ 36 ∷ 29 ∷ 23 ∷ 18 ∷ 15 ∷ []

-- the index of a nice value among them; `negsuc n` is -1 - n
abbrev pub weight_index : ℤ → ℕ
weight_index (pos n) = n + 20
weight_index (negsuc n) = 19 - n

-- the weight of a nice value
unfoldable pub weight_of : ℤ → ℕ
weight_of nice = slice_index_or weights (weight_index nice) 1024

-- how far the virtual time of a running fair task grows while the clock goes on by delta ns, rounded down
-- (`calc_delta_fair`; that it is exact is this project's rule)
unfoldable pub growth : ℕ → ℤ → ℕ
growth delta nice = delta * 1024 / weight_of nice

-- ---- an advance

-- whether a sibling runs the task
abbrev pub is_running : RoomState → Task → Bool
is_running room task = list_any (λ (sibling : SiblingState). is_run sibling.run (Some task.spec.pid)) room.siblings

-- A running RR task uses its slice, and the virtual time of a running fair one grows.
abbrev pub grown_by : ℕ → Policy → Task → Task
grown_by delta (Rr priority) task = record task { used = task.used + delta }
grown_by delta (Fair nice) task = record task { vtime = task.vtime + growth delta nice }
grown_by delta policy task = task

abbrev pub grown : RoomState → ℕ → Task → Task
grown room delta task = if is_running room task then grown_by delta task.spec.policy task else task

-- The clock goes on, and with it the running tasks and the time since each sibling's last schedule.
abbrev pub with_growth : RoomState → ℕ → RoomState
with_growth room delta =
    record room {
      clock = room.clock + delta;
      tasks = map (grown room delta) room.tasks;
      siblings = map (λ (sibling : SiblingState). record sibling { ran = sibling.ran + delta }) room.siblings;
    }

-- the virtual times of the fair tasks queued on a sibling
abbrev pub fair_times : RoomState → ℕ → List ℕ
fair_times room cpu = map (λ task. task.vtime) (filter is_fair (queued_on room cpu))

-- a sibling's least virtual time is the greater of itself and the smallest of its queued fair tasks, if it has one
-- (`update_min_vruntime`), so it never falls
abbrev pub least_of : RoomState → ℕ → ℕ
least_of room cpu =
    let least = (sibling_of room cpu).least in option_map_or (λ smallest. max least smallest) (foremost nat_lt (fair_times room cpu)) least

abbrev pub with_leasts : RoomState → RoomState
with_leasts room =
    record room {
      siblings = map (λ (numbered : ℕ × SiblingState). record numbered.1 { least = least_of room numbered.0 }) (enumerate_from 0 room.siblings);
    }

-- the room after an advance
unfoldable pub advanced : RoomState → ℕ → RoomState
advanced room delta = with_leasts (with_growth room delta)

-- ---- a tick

-- the slice of an RR task, in ns (`RR_TIMESLICE`, which the kernel counts in ticks), and how long forced idle may wait
-- for a fair task (6 ms, this project's rule)
abbrev pub slice : ℕ
slice = 100000000

abbrev pub patience : ℕ
patience = 6000000

-- the other tasks queued on a sibling
abbrev pub others_on : RoomState → ℕ → Task → List Task
others_on room cpu task = filter (λ other. not (has_pid task.spec.pid other)) (queued_on room cpu)

-- whether a task is RR
abbrev pub is_rr : Policy → Bool
is_rr (Rr priority) = true
is_rr policy = false

-- whether an RR task has used its slice
abbrev pub has_used_slice : Task → Bool
has_used_slice task = is_rr task.spec.policy && not (nat_lt task.used slice)

-- whether another is a real-time task of the same priority
abbrev pub is_peer : Task → Task → Bool
is_peer task other =
    (class_of other.spec.policy == real_time_class) && (priority_of other.spec.policy == priority_of task.spec.policy)

-- A running RR task that has used its slice goes after the others of its priority, if there is one (`requeue_task_rt`
-- in `task_tick_rt`).
abbrev pub rotates : RoomState → ℕ → Task → Bool
rotates room cpu task = has_used_slice task && list_any (is_peer task) (others_on room cpu task)

-- A running fair task has been overtaken if another fair one has a smaller virtual time (after `check_preempt_tick`;
-- that any difference is enough is this project's rule).
abbrev pub is_overtaken : RoomState → ℕ → Task → Bool
is_overtaken room cpu task =
    is_fair task && list_any (λ other. is_fair other && nat_lt other.vtime task.vtime) (others_on room cpu task)

-- A running fair task with no other fair one beside it is to yield if it has run so long and a sibling is forced idle
-- (`task_tick_core`, `__entity_slice_used`).
abbrev pub is_to_yield : RoomState → ℕ → Task → Bool
is_to_yield room cpu task =
    is_fair task && not (list_any is_fair (others_on room cpu task)) && not (room.forced == 0)
    && not (nat_lt (sibling_of room cpu).ran patience)

-- whether the tick asks for a reschedule
abbrev pub asks_at_tick : RoomState → ℕ → Task → Bool
asks_at_tick room cpu task = rotates room cpu task || is_overtaken room cpu task || is_to_yield room cpu task

-- An RR task that has used its slice begins a new one, and gets the next stamp with it if it rotates.
abbrev pub begin_slice : RoomState → ℕ → Task → RoomState
begin_slice room cpu task =
    record (with_task room (record task {
      used = if has_used_slice task then 0 else task.used;
      stamp = if rotates room cpu task then room.next_stamp else task.stamp;
    })) { next_stamp = if rotates room cpu task then room.next_stamp + 1 else room.next_stamp }

-- the room after a tick of a sibling that runs the task
abbrev pub ticked_room : RoomState → ℕ → Task → RoomState
ticked_room room cpu task = flag (begin_slice room cpu task) cpu (asks_at_tick room cpu task)
