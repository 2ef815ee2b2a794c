-- Plans: the outcome of a call, beside its answer and its setting in a room.
use Rattle.std.specs.Prelude.{◌≡◌, ℕ, ◌+◌, ◌-◌, ◌%◌, ◌==◌, ◌&&◌, ◌||◌, not, Bool, false, true, nat_lt, List, [], map, filter, find, length, Some, Result, Ok, Err, if◌then◌else◌}
use Rattle.std.specs.List.{list_all}
use Rattle.cs_types.specs.declared.task.Task.{Task}
use Rattle.cs_types.specs.declared.event.Ask.{Ask}
use Rattle.cs_types.specs.declared.reply.Errno.{Errno}
use Rattle.cs_types.specs.declared.reply.Errno.TheVariants.{Eperm, Einval, Efault, Enomem}
use Rattle.cs_types.specs.declared.reply.Reply.{Reply}
use Rattle.cs_types.specs.declared.reply.Reply.TheVariants.{Zero, Value, Refused, NoCaller}
use Rattle.cs_types.specs.declared.task.TaskSpec.{TaskSpec}
use Rattle.cs_types.specs.Guards.{GuardList, asked_each, asked_until}
use Rattle.cs_types.specs.Access.{may_access, asked_about}
use Rattle.cs_types.specs.Room.{RoomState, has_pid, task_of, online}
use Rattle.cs_types.specs.Prctl.{asked_by_call, is_invalid, is_in_scope, target_of, prctl_answer, makes_cookie, setting_of}
use Rattle.task_table.specs.Table.{Table, IsSound}
use Rattle.cookie_refs.specs.Refs.{Refs}
use Rattle.prctl_core.specs.declared.admitted.Called.{Called}
use Rattle.prctl_core.specs.declared.decision.Decision.{Decision}
use Rattle.prctl_core.specs.declared.decision.Planned.{Planned}
use Rattle.prctl_core.specs.declared.decision.Planned.TheVariants.{Go, Answer}
use Rattle.prctl_core.specs.declared.arguments.Command.{Command}
use Rattle.prctl_core.specs.declared.arguments.Command.TheVariants.{Get, Create, ShareTo, ShareFrom}
use Rattle.prctl_core.specs.declared.arguments.Scope.{Scope}
use Rattle.prctl_core.specs.declared.arguments.Scope.TheVariants.{Thread, ThreadGroup, ProcessGroup}
use Rattle.prctl_core.specs.declared.decision.Target.{Target}
use Rattle.prctl_core.specs.declared.decision.Target.TheVariants.{Nobody, One, Threads, Process}

-- ---- arguments

-- the numbers of the commands and of the scopes (include/uapi/linux/prctl.h)
abbrev pub command_number : Command → ℕ
command_number Get = 0
command_number Create = 1
command_number ShareTo = 2
command_number ShareFrom = 3

abbrev pub scope_number : Scope → ℕ
scope_number Thread = 0
scope_number ThreadGroup = 1
scope_number ProcessGroup = 2

-- ---- targets

-- the tasks that a target names, by rising pid
abbrev pub named : Target → List Task → List Task
named Nobody tasks = []
named (One pid) tasks = filter (λ task. task.spec.pid == pid) tasks
named (Threads tgid) tasks = filter (λ task. task.spec.tgid == tgid) tasks
named (Process pgid) tasks = filter (λ task. task.spec.pgid == pgid) tasks

-- ---- plans

-- a room whose parts a plan is handed
pub record IsRoomOf (room : RoomState) (table : Table) (refs : Refs) (known : GuardList) (count top : ℕ) : Type 0 where
  pub tasks : room.tasks ≡ table.tasks
  pub siblings : nat_lt (length (online room)) 2 ≡ nat_lt count 2
  pub user_top : room.user_top ≡ top
  pub cookie_limit : room.cookie_limit ≡ refs.limit
  pub next_cookie : room.next_cookie ≡ refs.next
  pub guards : room.guards ≡ known

-- the answer of a plan
abbrev pub reply_of : Planned → Reply
reply_of (Go decision) = decision.reply
reply_of (Answer reply) = reply

-- the cookie to which a plan holds a reference, 0 if it holds none
abbrev pub held_by : Planned → ℕ
held_by (Go decision) = decision.cookie
held_by (Answer reply) = 0

-- A plan that goes is answered with 0, or with a cookie, and then sets nobody's. Else it is refused.
abbrev pub IsGranted : Reply → Decision → Type 0
IsGranted Zero decision = Unit {0}
IsGranted (Value cookie) decision = (decision.to ≡ Nobody) × (decision.cookie ≡ 0)
IsGranted reply decision = ⊥

abbrev pub IsRefusal : Reply → Type 0
IsRefusal NoCaller = Unit {0}
IsRefusal (Refused errno) = Unit {0}
IsRefusal reply = ⊥

abbrev pub IsPlanned : Planned → Type 0
IsPlanned (Go decision) = IsGranted decision.reply decision
IsPlanned (Answer reply) = IsRefusal reply

-- what a plan sets is what the call sets in the room
abbrev pub SetsIn : RoomState → ℕ → Ask → Planned → Type 0
SetsIn room pid ask (Go decision) =
    decision.reply ≡ Zero → record { tasks = named decision.to room.tasks; cookie = decision.cookie } ≡ setting_of room pid ask
SetsIn room pid ask (Answer reply) = Unit {0}

-- ---- on the way

-- The caller and the target of a call are there, its arguments are valid, and the caller may access the target.
pub record IsAdmitted (room : RoomState) (pid : ℕ) (ask : Ask) (by to : Task) : Type 0 where
  pub caller : task_of room pid ≡ Some by
  pub enough : nat_lt (length (online room)) 2 ≡ false
  pub valid : is_invalid ask ≡ false
  pub target : target_of room pid ask ≡ Some to
  pub access : may_access room.guards by.spec to.spec ≡ true

-- a call is answered so, this says whether it makes a cookie, and these are the guards that it asks
pub record Settles (room : RoomState) (pid : ℕ) (ask : Ask) (reply : Reply) (is_made : Bool) (asked : List ℕ) : Type 0 where
  pub answer : prctl_answer room pid ask ≡ reply
  pub makes : makes_cookie room pid ask ≡ is_made
  pub asks : asked_by_call room pid ask ≡ asked

-- a call that is admitted, or its answer
pub record IsCall (room : RoomState) (pid : ℕ) (ask : Ask) (called : Called) : Type 0 where
  pub admitted : IsAdmitted room pid ask called.caller.now called.target.now
  pub command : command_number called.command ≡ ask.cmd
  pub scope : scope_number called.scope ≡ ask.scope

abbrev pub Admits : RoomState → ℕ → Ask → Result Called Reply → Type 0
Admits room pid ask (Ok called) = IsCall room pid ask called
Admits room pid ask (Err reply) = Settles room pid ask reply false (asked_by_call room pid ask)

-- the guards that are asked until a call is admitted, or refused
abbrev pub asked_to_admit : RoomState → ℕ → Ask → Result Called Reply → List ℕ
asked_to_admit room pid ask (Ok called) = asked_about room.guards called.caller.now.spec called.target.now.spec
asked_to_admit room pid ask (Err reply) = asked_by_call room pid ask

-- the caller and the target are tasks of the table
pub record AreThere (table : Table) (called : Called) : Type 0 where
  pub sound : IsSound table
  pub caller : find (has_pid called.caller.now.spec.pid) table.tasks ≡ Some called.caller.now
  pub target : find (has_pid called.target.now.spec.pid) table.tasks ≡ Some called.target.now

-- ---- members

-- whether the scope is the target alone
abbrev pub is_alone : Called → Bool
is_alone called = scope_number called.scope == 0

-- the members of a call's scope
abbrev pub members_of : List Task → Called → List Task
members_of tasks called = filter (λ task. is_in_scope (scope_number called.scope) called.target.now.spec task.spec) tasks

-- whether the caller may access every one of them
abbrev pub may_access_all : GuardList → List Task → Called → Bool
may_access_all guards tasks called =
    list_all (λ member. may_access guards called.caller.now.spec member.spec) (members_of tasks called)

-- the guards that are asked about these tasks, up to the first that may not be accessed
abbrev pub asked_about_all : GuardList → TaskSpec → List Task → List ℕ
asked_about_all guards caller tasks =
    asked_until (map (λ member. (not (may_access guards caller member.spec), asked_about guards caller member.spec)) tasks)

-- those that are asked about the members: none if that is the target alone
abbrev pub asked_about_members_of : GuardList → List Task → Called → List ℕ
asked_about_members_of guards tasks called =
    if is_alone called then [] else asked_about_all guards called.caller.now.spec (members_of tasks called)

-- The members are named, or one of more than the target alone may not be accessed.
abbrev pub NamesMembers : GuardList → List Task → Called → Result Target Errno → Type 0
NamesMembers guards tasks called (Ok to) =
    (named to tasks ≡ members_of tasks called) × ((not (is_alone called) && not (may_access_all guards tasks called)) ≡ false)
NamesMembers guards tasks called (Err errno) =
    (errno ≡ Eperm) × (is_alone called ≡ false) × (may_access_all guards tasks called ≡ false)

-- The caller is named, or the scope is not the target alone.
abbrev pub NamesCaller : Called → Result Target Errno → Type 0
NamesCaller called (Ok to) = (to ≡ One called.caller.now.spec.pid) × (is_alone called ≡ true)
NamesCaller called (Err errno) = (errno ≡ Einval) × (is_alone called ≡ false)

-- ---- the outcome of each command

-- a GET
abbrev pub get_plan : Called → ℕ → ℕ → Planned
get_plan called addr user_top =
    if not (is_alone called) || not (addr % 8 == 0)
    then Answer (Refused Einval)
    else (
    if nat_lt addr 4096 || nat_lt (user_top - 8) addr
    then Answer (Refused Efault)
    else Go (record { to = Nobody; cookie = 0; reply = Value called.target.now.cookie })
    )

-- a cookie for the tasks, or an error
abbrev pub gift : ℕ → Result Target Errno → Planned
gift cookie (Ok to) = Go (record { to = to; cookie = cookie; reply = Zero })
gift cookie (Err errno) = Answer (Refused errno)

-- a CREATE at the limit
pub record IsFull (old new : Refs) (guards after : GuardList) (planned : Planned) : Type 0 where
  pub refused : planned ≡ Answer (Refused Enomem)
  pub next : new.next ≡ old.next
  pub asked : after ≡ guards

-- a CREATE below it: the next cookie goes to the members, or one of them may not be accessed
pub record IsMade (old new : Refs) (guards after : GuardList) (tasks : List Task) (called : Called) (planned : Planned) : Type 0 where
  pub to : Result Target Errno
  pub members : NamesMembers guards tasks called to
  pub plan : planned ≡ gift old.next to
  pub next : new.next ≡ old.next + 1
  pub asked : after ≡ asked_each guards (asked_about_members_of guards tasks called)
