-- Steal: how a sibling that idles although a task is queued on it looks for one with the core's cookie on the others
-- (`sched_core_balance`, `steal_cookie_task` and `try_steal_cookie`, kernel/sched/core.c).
use Rattle.std.specs.Prelude.{ℕ, ◌+◌, ◌%◌, Bool, true, ◌==◌, ◌&&◌, ◌||◌, not, nat_lt, if◌then◌else◌, length, filter, Option, Some, None, is_none, is_some, unwrap_or}
use Rattle.cs_types.specs.declared.task.Task.{Task}
use Rattle.cs_types.specs.Room.{RoomState, SiblingState, sibling_of, with_sibling, flag}
use Rattle.cs_types.specs.Order.{first_of}
use Rattle.cs_types.specs.Selection.{first_on, queued_with, is_run}
use Rattle.cs_types.specs.Queueing.{moved}

-- the sibling from which a sibling tries to steal next: as far on from it as its balance place says, and from 0 after
-- the last
abbrev pub source_of : RoomState → ℕ → ℕ
source_of room cpu = (cpu + (sibling_of room cpu).place) % length room.siblings

-- whether a thief may take a task from a source: the source neither runs it nor has it waiting, and it was chosen
-- beside no more tasks than the thief's idle was (`try_steal_cookie`, `core_occupation`)
abbrev pub may_steal : SiblingState → SiblingState → Task → Bool
may_steal thief source task =
    not (is_run (unwrap_or source.waiting None) (Some task.spec.pid))
    && not (is_run source.run (Some task.spec.pid))
    && not (nat_lt thief.occupation task.occupation)

-- What is stolen: the first of the source's tasks with the core's cookie that is not passed over, if the core has a
-- cookie and the thief runs idle (the first by the present virtual times, which is this project's rule).
unfoldable pub stolen : RoomState → ℕ → Option Task
stolen room thief =
    if (room.core_cookie == 0) || is_some (sibling_of room thief).run
    then None
    else first_of (filter (may_steal (sibling_of room thief) (sibling_of room (source_of room thief)))
    (queued_with room room.core_cookie (source_of room thief)))

-- the room with the sibling's next try at this place
abbrev pub set_place : RoomState → ℕ → ℕ → RoomState
set_place room cpu place = with_sibling room cpu (record (sibling_of room cpu) { place = place })

-- The thief is pending, and makes no more tries. The source is pending too if this was its last task, it runs idle, and
-- some sibling is forced idle (`resched_curr` in `sched_core_dequeue`).
abbrev pub steal : RoomState → ℕ → Task → RoomState
steal room thief task =
    let source = source_of room thief in
    let after = flag (set_place (moved room thief task) thief 0) thief true in
    flag after source (is_none (first_on after source) && is_none (sibling_of after source).run && not (after.forced == 0))

-- If nothing was found, the next try goes one sibling on, and after the last there is none.
abbrev pub next_place : RoomState → ℕ → ℕ
next_place room thief =
    if (sibling_of room thief).place + 1 == length room.siblings then 0 else (sibling_of room thief).place + 1
