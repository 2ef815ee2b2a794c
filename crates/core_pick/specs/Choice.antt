-- Choice: what the lead and the choices of a selection are made of, and what the choices make of tasks.
use Rattle.std.specs.Prelude.{◌≡◌, ℕ, ◌+◌, ◌<◌, Bool, false, ◌==◌, ◌&&◌, if◌then◌else◌, List, length, map, Option, Some, None, is_some, unwrap_or}
use Rattle.std.specs.List.{range_with_len}
use Rattle.std.specs.Option.{option_and_then}
use Rattle.cs_types.specs.Room.{RoomState, is_online}
use Rattle.cs_types.specs.Order.{idle_class, foremost, outranks}
use Rattle.cs_types.specs.Selection.{first_on, snapshot_of, is_run, pid_of, cookie_of, choice, is_forced, forced_count, occupation_of, renews_snapshots, select_for, sibling_after_selection, task_after_selection}
use Rattle.task_table.specs.Table.{Table}
use Rattle.core_lanes.specs.declared.lane.Lane.{Lane}
use Rattle.core_lanes.specs.Lanes.{lane_state}
use Rattle.sibling_priority.specs.Offers.{class_of_first, rank_of_first, snapshot_of_first, rank_across, is_above as stands_above}
use Rattle.sibling_priority.specs.declared.standing.Standing.{Standing}
use Rattle.core_pick.specs.declared.choice.Choice.{Choice}
use Rattle.core_pick.specs.declared.choice.Counts.{Counts}
use Rattle.core_pick.specs.declared.lead.First.{First}
use Rattle.cs_types.specs.declared.task.Task.{Task}

-- a task that a sibling gets, or idle
abbrev pub choice_of : Option Task → Choice
choice_of task = record { cookie = cookie_of task; pid = unwrap_or (pid_of task) 0; class = class_of_first task }

-- the task of a choice, none for idle
abbrev pub run_of : Choice → Option ℕ
run_of choice = if choice.class == idle_class then None else Some choice.pid

-- what a selection keeps of a first task, under a snapshot
abbrev pub first_kept : ℕ → Option Task → First
first_kept snapshot first = record { rank_across = rank_across snapshot (class_of_first first) (rank_of_first first); choice = choice_of first }

-- under the snapshot of its own sibling
abbrev pub kept_in : RoomState → Option Task → First
kept_in room first = first_kept (snapshot_of_first (snapshot_of room) first) first

-- how a first stands among those of all siblings, and whether one stands above another
abbrev pub standing_of : First → Standing
standing_of first = record { class = first.choice.class; rank = first.rank_across }

abbrev pub is_above : First → First → Bool
is_above first other = stands_above (standing_of first) (standing_of other)

-- ---- what is asked of the siblings

-- the firsts of the siblings, in the order of their numbers
abbrev pub firsts_of : RoomState → List Choice
firsts_of room = map (λ cpu. choice_of (first_on room cpu)) (range_with_len 0 (length room.siblings))

-- what a sibling puts up to lead: its first, none if it is offline
abbrev pub offered : RoomState → ℕ → Option Task
offered room cpu = if is_online room cpu then first_on room cpu else None

-- the lead of what these siblings put up, and what is kept of it
abbrev pub lead_of : RoomState → List ℕ → Option Task
lead_of room cpus = option_and_then (λ first. first) (foremost (outranks (snapshot_of room)) (map (offered room) cpus))

abbrev pub lead_in : RoomState → List ℕ → First
lead_in room cpus = kept_in room (lead_of room cpus)

-- ---- what they get

-- what each sibling gets for a core cookie, in the order of their numbers
abbrev pub choices_of : RoomState → ℕ → List Choice
choices_of room core = map (λ cpu. choice_of (choice room core cpu)) (range_with_len 0 (length room.siblings))

-- whether this is the choice of the task with this pid
abbrev pub is_choice_of : ℕ → Choice → Bool
is_choice_of pid choice = is_run (run_of choice) (Some pid)

-- a task remembers the occupation if it is this choice
abbrev pub task_after_choice : Choice → ℕ → Task → Task
task_after_choice choice occupation task =
    if is_choice_of task.spec.pid choice then record task { occupation = occupation } else task

-- whether a sibling counts as forced idle, and whether it counts as one with a task
abbrev pub gets_none : RoomState → ℕ → ℕ → Bool
gets_none room core cpu = is_online room cpu && is_forced room core cpu

abbrev pub gets_task : RoomState → ℕ → ℕ → Bool
gets_task room core cpu = is_online room cpu && is_some (choice room core cpu)

-- one more sibling may be counted
pub record MayCount (counts : Counts) : Type 0 where
  pub forced : counts.forced < 255
  pub occupation : counts.occupation < 255

-- the counts once a sibling is counted
pub record IsCounted (room : RoomState) (core cpu : ℕ) (before now : Counts) : Type 0 where
  pub forced : now.forced ≡ before.forced + (if gets_none room core cpu then 1 else 0)
  pub occupation : now.occupation ≡ before.occupation + (if gets_task room core cpu then 1 else 0)

-- a sibling gets its choice for a core cookie, and is counted with it
pub record IsGivenAndCounted (room : RoomState) (core cpu : ℕ) (before now : Counts) (given : Choice) : Type 0 where
  pub gets : given ≡ choice_of (choice room core cpu)
  pub counts : IsCounted room core cpu before now

-- how many siblings are forced idle in a selection for a core cookie, and for how many a task is chosen
pub record AreCountsOf (room : RoomState) (core : ℕ) (counts : Counts) : Type 0 where
  pub forced : counts.forced ≡ forced_count room core
  pub occupation : counts.occupation ≡ occupation_of room core

-- what a selection for a core cookie changes siblings by: the choices, the occupation, and whether snapshots are
-- renewed
pub record IsPlan (room : RoomState) (core : ℕ) (choices : List Choice) (occupation : ℕ) (renews : Bool) : Type 0 where
  pub each : choices ≡ choices_of room core
  pub occupied : occupation ≡ occupation_of room core
  pub renewed : renews ≡ renews_snapshots room core

-- each sibling of the room gets its choice in a core-wide selection that the selector makes, and each task that is
-- chosen remembers the occupation
pub record HandsOut {Q : Type 0} (room : RoomState) (selector core : ℕ) (lanes : List (Lane Q)) (old new : Table) : Type 0 where
  pub states : map lane_state lanes ≡ (select_for room selector core).siblings
  pub tasks : new ≡ record old { tasks = map (task_after_selection room core) old.tasks }

-- what a selection for a core cookie hands to a sibling: whether it makes the selection itself, the occupation, and
-- whether snapshots are renewed
pub record IsTold (room : RoomState) (core selector cpu : ℕ) (selects : Bool) (occupation : ℕ) (renews : Bool) : Type 0 where
  pub itself : selects ≡ (cpu == selector)
  pub occupied : occupation ≡ occupation_of room core
  pub renewed : renews ≡ renews_snapshots room core

-- with that, a sibling is as the selection leaves it
abbrev pub IsHanded : {Q : Type 0} → RoomState → ℕ → ℕ → ℕ → Bool → ℕ → Bool → Lane Q → Lane Q → Type 0
IsHanded room core selector cpu selects occupation renews old new =
    IsTold room core selector cpu selects occupation renews → lane_state new ≡ sibling_after_selection room core selector cpu (lane_state old)

-- what a core-wide selection leaves as it is in a sibling: its own number and its queue
abbrev pub kept_in_selection : {Q : Type 0} → Lane Q → ℕ × Q
kept_in_selection lane = (lane.number, lane.queue)

-- a sibling that runs this from now on: nothing waits for it, and its reschedule is no longer pending
abbrev pub lane_running : {Q : Type 0} → Lane Q → Option ℕ → Lane Q
lane_running lane run = record lane { run = run; pending = false; waiting = None; ran = 0 }
