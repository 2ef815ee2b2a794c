-- Prctl: the calls `prctl(PR_SCHED_CORE, ..)`, their answers, and the cookies that they set
-- (`sched_core_share_pid`, kernel/sched/core_sched.c).
use Rattle.std.specs.Prelude.{ℕ, zero, suc, ◌+◌, ◌-◌, ◌%◌, ℤ, pos, negsuc, Bool, true, false, ◌==◌, ◌&&◌, ◌||◌, not, nat_lt, if◌then◌else◌, List, [], ◌∷◌, ◌++◌, length, map, filter, Option, Some, None, is_none}
use Rattle.std.specs.List.{list_any, list_all}
use Rattle.std.specs.Option.{option_and_then, option_map_or}
use Rattle.cs_types.specs.declared.task.Task.{Task}
use Rattle.cs_types.specs.declared.task.TaskSpec.{TaskSpec}
use Rattle.cs_types.specs.declared.event.Ask.{Ask}
use Rattle.cs_types.specs.declared.reply.Errno.TheVariants.{Eperm, Esrch, Enomem, Efault, Enodev, Einval}
use Rattle.cs_types.specs.declared.reply.Reply.{Reply}
use Rattle.cs_types.specs.declared.reply.Reply.TheVariants.{Zero, Value, Refused, NoCaller}
use Rattle.cs_types.specs.Guards.{asked_each, asked_until}
use Rattle.cs_types.specs.Access.{may_access, asked_about}
use Rattle.cs_types.specs.Room.{RoomState, SiblingState, has_pid, task_of, online}
use Rattle.cs_types.specs.Selection.{cookie_of}

-- ---- live cookies

-- a list without the items that come again later in it
abbrev pub distinct : List ℕ → List ℕ
distinct [] = []
distinct (x ∷ xs) = if list_any (λ other. other == x) xs then distinct xs else x ∷ distinct xs

-- A cookie is live while a living task has it.
abbrev pub live_cookies : List Task → List ℕ
live_cookies tasks = filter (λ cookie. not (cookie == 0)) (distinct (map (λ task. task.cookie) tasks))

-- ---- the arguments

-- the commands (`PR_SCHED_CORE_GET` to `PR_SCHED_CORE_SHARE_FROM`)
abbrev pub is_get : Ask → Bool
is_get ask = ask.cmd == 0

abbrev pub is_create : Ask → Bool
is_create ask = ask.cmd == 1

abbrev pub is_share_from : Ask → Bool
is_share_from ask = ask.cmd == 3

-- the scope of the target alone (`PR_SCHED_CORE_SCOPE_THREAD`); 1 and 2 are a thread group and a process group
abbrev pub is_thread : Ask → Bool
is_thread ask = ask.scope == 0

-- whether the target's pid is below 0
abbrev pub is_below_0 : ℤ → Bool
is_below_0 (pos n) = false
is_below_0 (negsuc n) = true

-- whether an argument is valid for no command, or the address is given with another command than GET
abbrev pub is_invalid : Ask → Bool
is_invalid ask =
    nat_lt 2 ask.scope || nat_lt 3 ask.cmd || is_below_0 ask.pid || (not (ask.addr == 0) && not (is_get ask))

-- the task that a pid names: the caller for 0, else the living task that has it
abbrev pub named_by : RoomState → Task → ℤ → Option Task
named_by room caller (pos zero) = Some caller
named_by room caller (pos (suc n)) = task_of room (suc n)
named_by room caller (negsuc n) = None

-- the target of a call by the task with the pid
abbrev pub target_of : RoomState → ℕ → Ask → Option Task
target_of room pid ask = option_and_then (λ caller. named_by room caller ask.pid) (task_of room pid)

-- whether a task is in a scope of the target: the target itself, its thread group or its process group
abbrev pub is_in_scope : ℕ → TaskSpec → TaskSpec → Bool
is_in_scope scope target task =
    if scope == 0 then task.pid == target.pid else (if scope == 1 then task.tgid == target.tgid else task.pgid == target.pgid)

-- the members of a scope of the target: the living tasks that are in it, by rising pid (the order is this project's)
abbrev pub members : RoomState → ℕ → Task → List Task
members room scope target = filter (λ task. is_in_scope scope target.spec task.spec) room.tasks

-- ---- the answer

-- whether the one task may access the other, if both are there, and the guards that are asked about it
abbrev pub may_access_each : RoomState → Option Task → Option Task → Bool
may_access_each room None target = false
may_access_each room (Some caller) None = false
may_access_each room (Some caller) (Some target) = may_access room.guards caller.spec target.spec

abbrev pub asked_about_each : RoomState → Option Task → Option Task → List ℕ
asked_about_each room None target = []
asked_about_each room (Some caller) None = []
asked_about_each room (Some caller) (Some target) = asked_about room.guards caller.spec target.spec

-- whether the caller may access every member of a scope of the target, and the guards that are asked about them, up to
-- the first member that it may not access
abbrev pub may_access_members : RoomState → ℕ → Option Task → Option Task → Bool
may_access_members room scope caller target =
    option_map_or (λ target. list_all (λ member. may_access_each room caller (Some member)) (members room scope target)) target true

abbrev pub asked_about_members : RoomState → ℕ → Option Task → Option Task → List ℕ
asked_about_members room scope caller target =
    option_map_or (λ target. asked_until (map (λ member.
    (not (may_access_each room caller (Some member)), asked_about_each room caller (Some member))) (members room scope target)))
    target []

-- a condition, the answer if it holds, and the numbers of the guards that are asked for it
pub record Row : Type 0 where
  pub holds : Bool
  pub answer : Reply
  pub asks : List ℕ

-- the answer of the first row that holds, and 0 if none does
abbrev pub first_answer : List Row → Reply
first_answer [] = Zero
first_answer (row ∷ rows) = if row.holds then row.answer else first_answer rows

-- the rows that come before a cookie is made (this project's rules are `NoCaller`, that EFAULT goes by ranges, and the
-- limit of ENOMEM)
unfoldable pub rows_before_making : RoomState → ℕ → Ask → List Row
rows_before_making room pid ask =
    let caller = task_of room pid in
    let target = target_of room pid ask in
    record { holds = is_none caller; answer = NoCaller; asks = [] }
    ∷ record { holds = nat_lt (length (online room)) 2; answer = Refused Enodev; asks = [] }
    ∷ record { holds = is_invalid ask; answer = Refused Einval; asks = [] }
    ∷ record { holds = is_none target; answer = Refused Esrch; asks = [] }
    ∷ record { holds = not (may_access_each room caller target); answer = Refused Eperm; asks = asked_about_each room caller target }
    ∷ record { holds = is_get ask && (not (is_thread ask) || not (ask.addr % 8 == 0)); answer = Refused Einval; asks = [] }
    ∷ record { holds = is_get ask && (nat_lt ask.addr 4096 || nat_lt (room.user_top - 8) ask.addr); answer = Refused Efault; asks = [] }
    ∷ record { holds = is_get ask; answer = Value (cookie_of target); asks = [] }
    ∷ record { holds = is_create ask && (length (live_cookies room.tasks) == room.cookie_limit); answer = Refused Enomem; asks = [] }
    ∷ []

-- the rows that come after it
unfoldable pub rows_after_making : RoomState → ℕ → Ask → List Row
rows_after_making room pid ask =
    let caller = task_of room pid in
    let target = target_of room pid ask in
    record { holds = is_share_from ask && not (is_thread ask); answer = Refused Einval; asks = [] }
    ∷ record { holds = is_share_from ask; answer = Zero; asks = [] }
    ∷ record {
      holds = not (is_thread ask) && not (may_access_members room ask.scope caller target);
      answer = Refused Eperm;
      asks = if is_thread ask then [] else asked_about_members room ask.scope caller target;
    }
    ∷ record { holds = true; answer = Zero; asks = [] }
    ∷ []

-- the answer of a call by the task with the pid
abbrev pub prctl_answer : RoomState → ℕ → Ask → Reply
prctl_answer room pid ask = first_answer (rows_before_making room pid ask ++ rows_after_making room pid ask)

-- the guards that are asked by it, in the order of asking
abbrev pub asked_by_call : RoomState → ℕ → Ask → List ℕ
asked_by_call room pid ask =
    asked_until (map (λ row. (row.holds, row.asks)) (rows_before_making room pid ask ++ rows_after_making room pid ask))

-- ---- the cookies after it

-- whether a call makes a cookie: its command creates, and no row before the making holds
abbrev pub makes_cookie : RoomState → ℕ → Ask → Bool
makes_cookie room pid ask = is_create ask && not (list_any (λ row. row.holds) (rows_before_making room pid ask))

-- tasks whose cookie is set, and to what
pub record Setting : Type 0 where
  pub tasks : List Task
  pub cookie : ℕ

-- what a call sets if its answer is 0: the caller's cookie to the target's, or that of each member to a new one or to
-- the caller's
abbrev pub setting_by : RoomState → Task → Task → Ask → Setting
setting_by room caller target ask =
    if is_share_from ask
    then record { tasks = caller ∷ []; cookie = target.cookie }
    else record { tasks = members room ask.scope target; cookie = if is_create ask then room.next_cookie else caller.cookie }

-- the same for a call by the task with the pid; nothing if there is no such task, or no target
abbrev pub setting_of : RoomState → ℕ → Ask → Setting
setting_of room pid ask =
    option_map_or (λ caller. option_map_or (λ target. setting_by room caller target ask)
    (target_of room pid ask) (record { tasks = []; cookie = 0 })) (task_of room pid) (record { tasks = []; cookie = 0 })

-- whether the task with this pid is among those that are set
abbrev pub is_set : Setting → ℕ → Bool
is_set set pid = list_any (has_pid pid) set.tasks

-- whether a sibling runs one of them
abbrev pub runs_one : Setting → SiblingState → Bool
runs_one set sibling = option_map_or (is_set set) sibling.run false

-- The tasks have the cookie. Each sibling that runs one of them becomes pending, even if the cookie is the same
-- (`sched_core_update_cookie`).
abbrev pub set_cookies : RoomState → Setting → RoomState
set_cookies room set =
    record room {
      tasks = map (λ (task : Task). if is_set set task.spec.pid then record task { cookie = set.cookie } else task) room.tasks;
      siblings = map (λ (sibling : SiblingState). record sibling { pending = sibling.pending || runs_one set sibling }) room.siblings;
    }

-- What a call has used up, even if it is then refused: a cookie that is made is the next, and is never made again; and
-- each guard counts how often it was asked.
abbrev pub with_used : RoomState → Bool → List ℕ → RoomState
with_used room makes asked =
    record room {
      next_cookie = if makes then room.next_cookie + 1 else room.next_cookie;
      guards = asked_each room.guards asked;
    }

-- the room after a call that was answered so
abbrev pub with_answer : RoomState → Setting → Reply → RoomState
with_answer room set Zero = set_cookies room set
with_answer room set answer = room

-- the room after a call by the task with the pid
abbrev pub prctl_room : RoomState → ℕ → Ask → RoomState
prctl_room room pid ask =
    with_answer (with_used room (makes_cookie room pid ask) (asked_by_call room pid ask)) (setting_of room pid ask)
    (prctl_answer room pid ask)
