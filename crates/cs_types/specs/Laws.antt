-- Laws: what follows from the rules.
use Rattle.std.specs.Prelude.{◌≡◌, ◌≢◌, ◌↔◌, ℕ, ◌<◌, ◌==◌, ◌&&◌, nat_lt, true, false, ◌⊎◌, List, [], map, length, count_by, All, Contains, IsTrue, Option, Some, None, IfSome, unwrap_or, ◌+◌, Bool, IsSomeAnd, if◌then◌else◌}
use Rattle.std.specs.Option.{option_map_or}
use Rattle.cs_types.specs.declared.task.Task.{Task}
use Rattle.cs_types.specs.declared.event.Event.{Event}
use Rattle.cs_types.specs.declared.event.Event.TheVariants.{Block, Exit, Prctl}
use Rattle.cs_types.specs.declared.reply.Pick.{Pick}
use Rattle.cs_types.specs.Room.{RoomState, SiblingState, queued_on, task_of, sibling_of, running_on, online, online_from, to_run}
use Rattle.cs_types.specs.Order.{foremost, outranks, first_of}
use Rattle.cs_types.specs.Selection.{is_run, first_on, cookie_of, pid_of, snapshot_of, eligible}
use Rattle.cs_types.specs.declared.reply.Reply.{Reply}
use Rattle.cs_types.specs.declared.reply.Reply.TheVariants.{Offline, Idle, HasThreads, NoTask, Awake, NoCaller, Refused, Already, NoGuard}
use Rattle.cs_types.specs.Prctl.{makes_cookie, asked_by_call}
use Rattle.cs_types.specs.Guards.{asked_each}
use Rattle.cs_types.specs.Touches.{scheduler_of, is_fresh}
use Rattle.cs_types.specs.History.{Moment}
use Rattle.cs_types.specs.Step.{without, run_idle}
use Rattle.cs_types.specs.Queueing.{dequeue}
use Rattle.cs_types.specs.Accounting.{charge}

-- the sibling that an event makes schedule
abbrev pub cpu_of : Event → ℕ
cpu_of event = unwrap_or (scheduler_of event) 0

-- the room in which a sibling picks: at a block and at an exit, the room after the charge, without the task that went
abbrev pub scheduling_room : RoomState → Event → RoomState
scheduling_room room (Block cpu) = option_map_or (λ task. run_idle (dequeue (charge room) task) cpu) (running_on room cpu) room
scheduling_room room (Exit cpu) = option_map_or (λ task. run_idle (without (charge room) task) cpu) (running_on room cpu) room
scheduling_room room event = room

-- what a sibling that made a selection has after it, if this is its choice
pub record RunsItsChoice (chosen : Option ℕ) (now : SiblingState) : Type 0 where
  -- It runs that. Nothing waits for it, and it has no pending reschedule.
  pub runs : now.run ≡ chosen
  pub nothing_waits : now.waiting ≡ None
  pub not_pending : now.pending ≡ false

-- what any other online sibling has after it, if this is its choice
pub record AwaitsItsChoice (chosen : Option ℕ) (before now : SiblingState) : Type 0 where
  -- It runs what it ran.
  pub runs : now.run ≡ before.run
  -- Its choice waits exactly if it does not run it yet. Else nothing waits.
  pub waits : (now.waiting ≡ Some chosen) ↔ (now.run ≢ chosen)
  pub nothing_waits : (now.waiting ≡ None) ↔ (now.run ≡ chosen)
  -- It is pending exactly if its choice waits or it was pending before.
  pub pending : IsTrue now.pending ↔ ((now.waiting ≡ Some chosen) ⊎ IsTrue before.pending)

-- the first of the tasks that are eligible on a sibling for a core cookie, none if none is
abbrev pub first_eligible : RoomState → ℕ → ℕ → Option Task
first_eligible room core cpu = first_of (eligible room core cpu)

-- whether a task is queued on a sibling and none is eligible there
abbrev pub has_none_eligible : RoomState → ℕ → ℕ → Bool
has_none_eligible room core cpu = nat_lt 0 (length (queued_on room cpu)) && (length (eligible room core cpu) == 0)

-- What a core-wide selection that a sibling made in the one room leaves in the other.
pub record SelectsCoreWide (before : RoomState) (cpu : ℕ) (pick : Pick) (now : RoomState) : Type 0 where
  -- The lead is the earliest first, from the sibling that selects on, than which no other first is higher.
  pub lead : Option Task
  pub earliest : foremost (outranks (snapshot_of before)) (map (first_on before) (online_from before cpu)) ≡ Some lead
  -- No task queued on any online sibling is higher than the lead.
  pub highest : (other : ℕ) → Contains (online before) other →
      All (λ task. outranks (snapshot_of before) (Some task) lead ≡ false) (queued_on before other)
  -- The core cookie is the lead's.
  pub cookie : now.core_cookie ≡ cookie_of lead
  pub told : pick.core ≡ now.core_cookie
  -- What each online sibling is to run is the first of the tasks that are eligible there, and idle if none is.
  pub choices : (other : ℕ) → Contains (online before) other →
      to_run (sibling_of now other) ≡ pid_of (first_eligible before now.core_cookie other)
  -- So it is idle, or a task with the core cookie.
  pub matches : (other : ℕ) → Contains (online before) other →
      (first_eligible before now.core_cookie other ≡ None) ⊎ (cookie_of (first_eligible before now.core_cookie other) ≡ now.core_cookie)
  -- The sibling that selects runs it already. Any other that does not run it yet has it waiting, and is pending.
  pub selector : RunsItsChoice (pid_of (first_eligible before now.core_cookie cpu)) (sibling_of now cpu)
  pub others : (other : ℕ) → Contains (online before) other → other ≢ cpu →
      AwaitsItsChoice (pid_of (first_eligible before now.core_cookie other)) (sibling_of before other) (sibling_of now other)
  pub took : pick.run ≡ unwrap_or (pid_of (first_eligible before now.core_cookie cpu)) 0
  -- The online siblings that are forced idle are those with a queued task and none that is eligible.
  pub count : now.forced ≡ count_by (has_none_eligible before now.core_cookie) (online before)
  pub counted : pick.forced ≡ now.forced
  -- While one is, some sibling has a task.
  pub occupied : 0 < now.forced → 0 < now.occupation

-- ---- the trust rule

-- A sibling runs a living task with this cookie.
abbrev pub RunsWithCookie : RoomState → ℕ → ℕ → Type 0
RunsWithCookie room cookie cpu = IsSomeAnd (running_on room cpu) (λ task. task.cookie ≡ cookie)

-- Each online sibling without a pending reschedule runs idle or a living task with the core cookie.
abbrev pub IsSettled : RoomState → Type 0
IsSettled room =
    (cpu : ℕ) → Contains (online room) cpu → (sibling_of room cpu).pending ≡ false →
    ((sibling_of room cpu).run ≡ None) ⊎ RunsWithCookie room room.core_cookie cpu

-- Any two online siblings that do not run idle run living tasks with one cookie. This follows if the rule holds and
-- none is pending.
abbrev pub RunOneCookie : RoomState → Type 0
RunOneCookie room =
    (a b : ℕ) → Contains (online room) a → Contains (online room) b →
    (sibling_of room a).run ≢ None → (sibling_of room b).run ≢ None →
    IsSomeAnd (running_on room a) (λ task. RunsWithCookie room task.cookie b)

-- ---- consistent siblings

-- the pids of the tasks queued on a sibling
abbrev pub pids_on : RoomState → ℕ → List ℕ
pids_on room cpu = map (λ task. task.spec.pid) (queued_on room cpu)

-- A sibling with this state is consistent at a moment.
pub record IsConsistent (moment : Moment) (cpu : ℕ) (sibling : SiblingState) : Type 0 where
  -- What it runs is queued on it.
  pub running_is_queued : IfSome sibling.run (Contains (pids_on moment.room cpu))
  -- What waits for it is idle or queued on it. It is pending then, and does not run that already.
  pub waiting_is_queued : IfSome sibling.waiting (λ run. IfSome run (Contains (pids_on moment.room cpu)))
  pub waiting_is_pending : IfSome sibling.waiting (λ run. sibling.pending ≡ true)
  pub waiting_is_not_running : IfSome sibling.waiting (λ run. is_run sibling.run run ≡ false)
  -- While the selection is fresh, what waits is idle or a living task with the core cookie.
  pub waiting_has_the_core_cookie : is_fresh moment.ledger ≡ true →
      IfSome sibling.waiting (λ run. IfSome run (λ pid. IsSomeAnd (task_of moment.room pid) (λ task. task.cookie ≡ moment.room.core_cookie)))
  -- An offline sibling has no queue and runs idle; it is not pending, nothing waits, and it does not try to steal.
  pub offline_is_empty : sibling.online ≡ false →
      (queued_on moment.room cpu ≡ []) × (sibling.run ≡ None) × (sibling.pending ≡ false) × (sibling.waiting ≡ None) × (sibling.place ≡ 0)

-- A sibling is consistent at a moment.
abbrev pub IsConsistentAt : Moment → ℕ → Type 0
IsConsistentAt moment cpu = IsConsistent moment cpu (sibling_of moment.room cpu)

-- ---- refused events

-- whether a reply refuses its event
abbrev pub is_refused : Reply → Bool
is_refused Offline = true
is_refused Idle = true
is_refused HasThreads = true
is_refused NoTask = true
is_refused Awake = true
is_refused NoCaller = true
is_refused (Refused error) = true
is_refused Already = true
is_refused NoGuard = true
is_refused reply = false

-- whether an event uses a serial: a call of `prctl` that makes a cookie, even if it is refused for a member afterwards
abbrev pub uses_serial : RoomState → Event → Bool
uses_serial room (Prctl caller ask) = makes_cookie room caller ask
uses_serial room event = false

-- the guards that an event asks, in the order of asking: only a call of `prctl` asks any
abbrev pub asked_by : RoomState → Event → List ℕ
asked_by room (Prctl caller ask) = asked_by_call room caller ask
asked_by room event = []

-- An event leaves the room as it was, but for the asked counts and a used serial.
pub record LeavesTheRoom (before : RoomState) (event : Event) (now : RoomState) : Type 0 where
  pub same : now ≡ record before { next_cookie = now.next_cookie; guards = now.guards }
  -- Each guard that was asked counts that. Nothing else of a guard changes.
  pub asked : now.guards ≡ asked_each before.guards (asked_by before event)
  -- The next cookie is one further exactly if the event uses a serial.
  pub serial : now.next_cookie ≡ (if uses_serial before event then before.next_cookie + 1 else before.next_cookie)
