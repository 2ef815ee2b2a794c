-- Hotplug: how a sibling leaves the core and comes back (after `sched_core_cpu_deactivate` and
-- `sched_core_cpu_starting`, kernel/sched/core.c; the details are this project's rules).
use Rattle.std.specs.Prelude.{ℕ, ◌+◌, true, false, ◌==◌, ◌&&◌, ◌||◌, not, nat_lt, if◌then◌else◌, length, map, find, count_by, None, unwrap_or}
use Rattle.std.specs.List.{enumerate_from, range_with_len}
use Rattle.cs_types.specs.declared.task.Task.{Task}
use Rattle.cs_types.specs.Room.{RoomState, SiblingState, queued_on, sibling_of, is_online, with_sibling}
use Rattle.cs_types.specs.Accounting.{charge, without_interval}
use Rattle.cs_types.specs.Queueing.{moved_to}

-- ---- leaving

-- the lowest other sibling that is online
abbrev pub lowest_other : RoomState → ℕ → ℕ
lowest_other room cpu =
    unwrap_or (find (λ other. is_online room other && not (other == cpu)) (range_with_len 0 (length room.siblings))) 0

-- A task of the sibling that leaves moves to the lowest other online one. Those that move get the next stamps, in the
-- order of the stamps that they had.
abbrev pub moved_off : RoomState → ℕ → Task → Task
moved_off room cpu task =
    if task.queued && (task.home == cpu)
    then record (moved_to room (lowest_other room cpu) task) {
      stamp = room.next_stamp + count_by (λ other. nat_lt other.stamp task.stamp) (queued_on room cpu);
    }
    else task

-- The tasks of the sibling that leaves have moved.
abbrev pub move_off : RoomState → ℕ → RoomState
move_off room cpu =
    record room { tasks = map (moved_off room cpu) room.tasks; next_stamp = room.next_stamp + length (queued_on room cpu) }

-- The sibling runs idle and does nothing while it is offline.
abbrev pub away : SiblingState → SiblingState
away sibling = record sibling { online = false; run = None; pending = false; waiting = None; place = 0 }

-- A sibling becomes pending if it is online, since another leaves.
abbrev pub stand_by : SiblingState → SiblingState
stand_by sibling = record sibling { pending = sibling.pending || sibling.online }

-- a sibling, by its number, once the one with the first number left: that is away, and any other stands by
abbrev pub left : ℕ → ℕ × SiblingState → SiblingState
left cpu numbered = if numbered.0 == cpu then away numbered.1 else stand_by numbered.1

-- The sibling is away, and every other online sibling is pending.
abbrev pub set_one_away : RoomState → ℕ → RoomState
set_one_away room cpu = record room { siblings = map (left cpu) (enumerate_from 0 room.siblings) }

-- The open interval is charged (this project's rule). Then the tasks move, the sibling is away, and every other online
-- sibling is pending. No interval of forced idle stays open.
unfoldable pub leave : RoomState → ℕ → RoomState
leave room cpu = without_interval (set_one_away (move_off (charge room) cpu) cpu)

-- ---- coming back

-- It runs idle and is pending, nothing waits for it, and it does not try to steal. All else that it has stays.
abbrev pub back : SiblingState → SiblingState
back sibling = record sibling { online = true; run = None; pending = true; waiting = None; place = 0 }

abbrev pub with_sibling_back : RoomState → ℕ → RoomState
with_sibling_back room cpu = with_sibling room cpu (back (sibling_of room cpu))
