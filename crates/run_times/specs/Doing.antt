-- Doing: what holds of the siblings at a moment.
use Rattle.std.specs.Prelude.{ℕ, Bool, false, is_some, ◌==◌, ◌&&◌, not, nat_lt, if◌then◌else◌, List, length, Option, Some, None}
use Rattle.std.specs.List.{list_any, range_with_len}
use Rattle.std.specs.Option.{option_map, option_map_or}
use Rattle.cs_types.specs.Room.{RoomState, task_of, queued_on, sibling_of, running_on, is_online}
use Rattle.cs_types.specs.declared.task.Task.{Task}
use Rattle.run_times.specs.declared.by.By.{By}
use Rattle.run_times.specs.declared.by.By.TheVariants.{Cookie, Group}
use Rattle.run_times.specs.declared.doing.Doing.{Doing}
use Rattle.run_times.specs.declared.doing.Doing.TheVariants.{Offline, Runs, Idles, ForcedIdle}

-- whether a sibling is online and does not run idle
abbrev pub is_busy : RoomState → ℕ → Bool
is_busy room cpu = is_online room cpu && is_some (sibling_of room cpu).run

-- the number of what a task is told apart by: its cookie, 0 for none, or the pid that leads its thread group
abbrev pub key_of : By → Task → ℕ
key_of Cookie task = task.cookie
key_of Group task = task.spec.tgid

-- that of the living task that a sibling runs, none if it is offline or runs no such task
abbrev pub key_run : By → RoomState → ℕ → Option ℕ
key_run by room cpu = if is_online room cpu then option_map (key_of by) (running_on room cpu) else None

-- the cookie of that task
abbrev pub cookie_run : RoomState → ℕ → Option ℕ
cookie_run room cpu = key_run Cookie room cpu

-- whether a task is queued on a sibling
abbrev pub has_queued : RoomState → ℕ → Bool
has_queued room cpu = nat_lt 0 (length (queued_on room cpu))

-- the cookie of the living task with this pid, 0 if nobody has it
abbrev pub cookie_at : RoomState → ℕ → ℕ
cookie_at room pid = option_map_or (λ task. task.cookie) (task_of room pid) 0

-- what an idle sibling does: it is forced idle if a task is queued on it
abbrev pub idling : RoomState → ℕ → Doing
idling room cpu = if has_queued room cpu then ForcedIdle room.core_cookie else Idles

-- what a sibling does: it idles exactly if it is online and runs no pid
abbrev pub doing_of : RoomState → ℕ → Doing
doing_of room cpu =
    if is_online room cpu
    then option_map_or (λ pid. Runs (cookie_at room pid)) (sibling_of room cpu).run (idling room cpu)
    else Offline

-- whether a sibling is online and has a pending reschedule
abbrev pub is_pending : RoomState → ℕ → Bool
is_pending room cpu = is_online room cpu && (sibling_of room cpu).pending

-- the numbers of the siblings of a core
abbrev pub siblings_of : RoomState → List ℕ
siblings_of room = range_with_len 0 (length room.siblings)

-- whether some sibling is online and pending
abbrev pub some_pending : RoomState → Bool
some_pending room = list_any (is_pending room) (siblings_of room)

-- whether the running tasks of both are there, and are told apart by nothing
abbrev pub are_one : Option ℕ → Option ℕ → Bool
are_one (Some a) (Some b) = a == b
are_one (Some a) None = false
are_one None other = false

-- whether two siblings are online, do not run idle, and do not run living tasks that are one by their cookies or by
-- their thread groups
abbrev pub are_apart : By → RoomState → ℕ → ℕ → Bool
are_apart by room a b = is_busy room a && is_busy room b && not (are_one (key_run by room a) (key_run by room b))

-- whether that holds of some two siblings
abbrev pub some_apart : By → RoomState → Bool
some_apart by room = list_any (λ a. list_any (are_apart by room a) (siblings_of room)) (siblings_of room)

-- Whether tasks with distinct cookies run side by side. So the core is exposed exactly if the online siblings that do
-- not run idle do not run living tasks with one cookie (`RunOneCookie`).
abbrev pub is_exposed : RoomState → Bool
is_exposed room = some_apart Cookie room

-- whether tasks of distinct thread groups do, whatever their cookies
abbrev pub is_mixed : RoomState → Bool
is_mixed room = some_apart Group room
