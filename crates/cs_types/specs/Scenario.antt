-- Scenarios: the limits that each of them keeps, and the script of each actor.
use Rattle.std.specs.List.{range_with_len}
use Rattle.std.specs.Prelude.{◌≡◌, ◌+◌, ◌≢◌, ◌⊎◌, ℕ, ◌<◌, ◌≤◌, ◌^◌, ℤ, pos, negsuc, Bool, true, false, ◌==◌, ◌&&◌, not, if◌then◌else◌, List, [], ◌∷◌, length, map, filter, take, All, Any, AllPairs, slice_index_or}
use Rattle.cs_types.specs.declared.task.Policy.{Policy}
use Rattle.cs_types.specs.declared.task.Policy.TheVariants.{Stop, Deadline, Fifo, Rr, Fair}
use Rattle.cs_types.specs.declared.task.Creds.{Creds}
use Rattle.cs_types.specs.declared.task.TaskSpec.{TaskSpec}
use Rattle.cs_types.specs.declared.event.Actor.{Actor}
use Rattle.cs_types.specs.declared.event.Actor.TheVariants.{Sibling, Caller, End}
use Rattle.cs_types.specs.declared.event.Ask.{Ask}
use Rattle.cs_types.specs.declared.event.Event.{Event}
use Rattle.cs_types.specs.declared.event.Event.TheVariants.{Turn, Resched, Block, Exit, Tick, Wake, Advance, Fork, Prctl, SetSched, Offline, Online, Load, Unload}
use Rattle.cs_types.specs.declared.event.Step.{Step}
use Rattle.cs_types.specs.declared.scenario.Scenario.{Scenario}
use Rattle.cs_types.specs.declared.scenario.Teach.{Teach}

-- ---- limits (this project's rules)

-- from low to high
abbrev pub IsWithin : ℕ → ℕ → ℕ → Type 0
IsWithin low high n = (low ≤ n) × (n ≤ high)

-- a nice value is from -20 to 19; `negsuc n` is -1 - n
abbrev pub IsNice : ℤ → Type 0
IsNice (pos n) = n ≤ 19
IsNice (negsuc n) = n ≤ 19

-- a relative deadline is from 1 ns to 1 s, and a priority from 1 to 99
abbrev pub IsPolicy : Policy → Type 0
IsPolicy Stop = Unit {0}
IsPolicy (Deadline relative) = IsWithin 1 1000000000 relative
IsPolicy (Fifo priority) = IsWithin 1 99 priority
IsPolicy (Rr priority) = IsWithin 1 99 priority
IsPolicy (Fair nice) = IsNice nice

-- whether two flags are the same
abbrev pub is_flag : Bool → Bool → Bool
is_flag true b = b
is_flag false b = not b

-- a user or group id is from 0 to 65535
pub record AreCreds (creds : Creds) : Type 0 where
  pub ruid : creds.ruid ≤ 65535
  pub euid : creds.euid ≤ 65535
  pub suid : creds.suid ≤ 65535
  pub rgid : creds.rgid ≤ 65535
  pub egid : creds.egid ≤ 65535
  pub sgid : creds.sgid ≤ 65535

-- the numbers of a task line, in a core with this number of siblings
pub record IsTask (siblings : ℕ) (task : TaskSpec) : Type 0 where
  pub pid : IsWithin 1 9999 task.pid
  pub tgid : IsWithin 1 9999 task.tgid
  pub pgid : IsWithin 1 9999 task.pgid
  pub cpu : task.cpu < siblings
  pub policy : IsPolicy task.policy
  pub creds : AreCreds task.creds

-- two tasks have two pids
abbrev pub AreDistinct : List TaskSpec → Type 0
AreDistinct tasks = AllPairs (λ a b. a.pid ≢ b.pid) tasks

-- The task leads its own thread group, or that group is led by one of the earlier tasks, which has the
-- same process group.
abbrev pub IsLed : List TaskSpec → TaskSpec → Type 0
IsLed earlier task =
    (task.tgid ≡ task.pid)
    ⊎ Any (λ leader. (leader.pid ≡ task.tgid) × (leader.tgid ≡ leader.pid) × (leader.pgid ≡ task.pgid)) earlier

-- each task is led, by itself or by one that stands before it
abbrev pub AreLed : List TaskSpec → Type 0
AreLed tasks = (k : ℕ) (d : TaskSpec) → k < length tasks → IsLed (take k tasks) (slice_index_or tasks k d)

-- a number of 31 bits and a sign; `negsuc n` is -1 - n
abbrev pub IsPid : ℤ → Type 0
IsPid (pos n) = n < 2 ^ 31
IsPid (negsuc n) = n < 2 ^ 31

-- the arguments of a call: its command and scope have 32 bits, its address 64, its pid 31 and a sign
pub record IsAsk (ask : Ask) : Type 0 where
  pub cmd : ask.cmd < 2 ^ 32
  pub pid : IsPid ask.pid
  pub scope : ask.scope < 2 ^ 32
  pub addr : ask.addr < 2 ^ 64

-- the numbers of an event: a sibling of the core, a pid from 1 to 999999, an advance from 1 ns to 1 s, the arguments of
-- a call, what a policy names, a guard from 0 to 15
abbrev pub IsEvent : ℕ → Event → Type 0
IsEvent siblings (Turn cpu) = cpu < siblings
IsEvent siblings (Resched cpu) = cpu < siblings
IsEvent siblings (Block cpu) = cpu < siblings
IsEvent siblings (Exit cpu) = cpu < siblings
IsEvent siblings (Tick cpu) = cpu < siblings
IsEvent siblings (Wake pid) = IsWithin 1 999999 pid
IsEvent siblings (Advance delta) = IsWithin 1 1000000000 delta
IsEvent siblings (Fork caller thread) = IsWithin 1 999999 caller
IsEvent siblings (Prctl caller ask) = IsWithin 1 999999 caller × IsAsk ask
IsEvent siblings (SetSched pid policy) = IsWithin 1 999999 pid × IsPolicy policy
IsEvent siblings (Offline cpu) = cpu < siblings
IsEvent siblings (Online cpu) = cpu < siblings
IsEvent siblings (Load index) = index ≤ 15
IsEvent siblings (Unload index) = index ≤ 15

-- A sibling makes its own events, on itself; a caller, 0 to 7, makes the others. No step line has the actor `End`.
abbrev pub IsMadeBy : Actor → Event → Type 0
IsMadeBy (Sibling i) (Turn cpu) = cpu ≡ i
IsMadeBy (Sibling i) (Resched cpu) = cpu ≡ i
IsMadeBy (Sibling i) (Block cpu) = cpu ≡ i
IsMadeBy (Sibling i) (Exit cpu) = cpu ≡ i
IsMadeBy (Sibling i) (Tick cpu) = cpu ≡ i
IsMadeBy (Caller j) (Wake pid) = j < 8
IsMadeBy (Caller j) (Advance delta) = j < 8
IsMadeBy (Caller j) (Fork caller thread) = j < 8
IsMadeBy (Caller j) (Prctl caller ask) = j < 8
IsMadeBy (Caller j) (SetSched pid policy) = j < 8
IsMadeBy (Caller j) (Offline cpu) = j < 8
IsMadeBy (Caller j) (Online cpu) = j < 8
IsMadeBy (Caller j) (Load index) = j < 8
IsMadeBy (Caller j) (Unload index) = j < 8
IsMadeBy (Sibling i) (Wake pid) = ⊥
IsMadeBy (Sibling i) (Advance delta) = ⊥
IsMadeBy (Sibling i) (Fork caller thread) = ⊥
IsMadeBy (Sibling i) (Prctl caller ask) = ⊥
IsMadeBy (Sibling i) (SetSched pid policy) = ⊥
IsMadeBy (Sibling i) (Offline cpu) = ⊥
IsMadeBy (Sibling i) (Online cpu) = ⊥
IsMadeBy (Sibling i) (Load index) = ⊥
IsMadeBy (Sibling i) (Unload index) = ⊥
IsMadeBy (Caller j) (Turn cpu) = ⊥
IsMadeBy (Caller j) (Resched cpu) = ⊥
IsMadeBy (Caller j) (Block cpu) = ⊥
IsMadeBy (Caller j) (Exit cpu) = ⊥
IsMadeBy (Caller j) (Tick cpu) = ⊥
IsMadeBy End event = ⊥

-- the numbers of a teach line: a guard from 0 to 15, and two user ids
pub record IsTeach (teach : Teach) : Type 0 where
  pub guard : teach.guard ≤ 15
  pub from : teach.from ≤ 65535
  pub to : teach.to ≤ 65535

-- whether two credentials are the same, each of the nine
unfoldable pub is_user : Creds → Creds → Bool
is_user a b =
    (a.ruid == b.ruid) && (a.euid == b.euid) && (a.suid == b.suid) && (a.rgid == b.rgid) && (a.egid == b.egid) && (a.sgid == b.sgid)
    && is_flag a.cap b.cap && is_flag a.mm b.mm && is_flag a.dumpable b.dumpable

-- the different ones of these, in the order in which each comes first
unfoldable pub different : List Creds → List Creds
different [] = []
different (user ∷ users) = user ∷ filter (λ other. not (is_user other user)) (different users)

-- the users of these tasks: their credentials, each once, in the order in which the tasks first have them
abbrev pub users_of : List TaskSpec → List Creds
users_of tasks = different (map (λ task. task.creds) tasks)

-- how many users have a line of their own in a text of this version: none in version 1, which writes each task's
-- credentials in its own line
abbrev pub user_lines : ℕ → List TaskSpec → ℕ
user_lines version tasks = if version == 2 then length (users_of tasks) else 0

-- Each teach carries the number of its line: three lines stand before those of the users and the tasks, and these before
-- the first teach.
abbrev pub AreNumbered : ℕ → List Teach → Type 0
AreNumbered before teaches = map (λ teach. teach.line) teaches ≡ range_with_len (before + 4) (length teaches)

-- a step line, in a core with this number of siblings
pub record IsStep (siblings : ℕ) (step : Step) : Type 0 where
  pub event : IsEvent siblings step.event
  pub actor : IsMadeBy step.actor step.event

-- what a scenario keeps whose core has at most this number of siblings
pub record KeepsLimits (most : ℕ) (scenario : Scenario) : Type 0 where
  pub version : IsWithin 1 2 scenario.version
  pub siblings : IsWithin 1 most scenario.siblings
  pub task_limit : IsWithin 1 256 scenario.task_limit
  pub cookie_limit : IsWithin 1 256 scenario.cookie_limit
  pub user_top : IsWithin 8192 9223372036854775807 scenario.user_top
  pub tasks : All (IsTask scenario.siblings) scenario.tasks
  pub distinct : AreDistinct scenario.tasks
  pub led : AreLed scenario.tasks
  pub few_tasks : length scenario.tasks ≤ scenario.task_limit
  pub teaches : All IsTeach scenario.teaches
  pub numbered : AreNumbered (user_lines scenario.version scenario.tasks + length scenario.tasks) scenario.teaches
  pub few_teaches : length scenario.teaches ≤ 64
  pub steps : All (IsStep scenario.siblings) scenario.steps
  pub few_steps : length scenario.steps ≤ 100000

-- a scenario that a machine can play: its core has 1 to 16 siblings
abbrev pub IsPlayable : Scenario → Type 0
IsPlayable scenario = KeepsLimits 16 scenario

-- the most siblings of a core in a text of this version
abbrev pub most_siblings : ℕ → ℕ
most_siblings version = if version == 2 then 16 else 8

-- a valid scenario, which a text can have: in version 1 its core has at most 8 siblings
abbrev pub IsValid : Scenario → Type 0
IsValid scenario = KeepsLimits (most_siblings scenario.version) scenario

-- ---- scripts

-- whether two actors are one
abbrev pub is_actor : Actor → Actor → Bool
is_actor (Sibling i) (Sibling j) = i == j
is_actor (Caller i) (Caller j) = i == j
is_actor (Sibling i) (Caller j) = false
is_actor (Caller i) (Sibling j) = false
is_actor End End = true
is_actor End (Sibling j) = false
is_actor End (Caller j) = false
is_actor (Sibling i) End = false
is_actor (Caller i) End = false

-- the events of an actor's step lines, in the order of the lines
abbrev pub script : Scenario → Actor → List Event
script scenario actor = map (λ step. step.event) (filter (λ step. is_actor step.actor actor) scenario.steps)
