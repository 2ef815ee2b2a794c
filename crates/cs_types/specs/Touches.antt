-- Touches: how often an entry touches the queues of the core, and what follows from it. The kernel counts touches
-- (`core_task_seq` of `rq->core`) and notes the count of the last core-wide selection (`core_pick_seq`) and of
-- each sibling's last pick from one (`core_sched_seq`); here the three numbers are sums over the history.
use Rattle.std.specs.Prelude.{ℕ, ◌+◌, ◌*◌, Bool, true, false, ◌==◌, ◌&&◌, ◌||◌, not, if◌then◌else◌, List, [], ◌∷◌, length, sum_by, take_while, Option, Some, None, is_some}
use Rattle.std.specs.List.{list_any, list_all}
use Rattle.std.specs.Option.{option_map_or, option_and_then}
use Rattle.cs_types.specs.declared.event.Event.{Event}
use Rattle.cs_types.specs.declared.event.Event.TheVariants.{Turn, Resched, Block, Exit, Tick, Wake, Advance, Fork, Prctl, SetSched, Offline, Online, Load, Unload}
use Rattle.cs_types.specs.declared.reply.Kind.{Kind}
use Rattle.cs_types.specs.declared.reply.Kind.TheVariants.{Selected, Adopted, Plain}
use Rattle.cs_types.specs.declared.reply.Pick.{Pick}
use Rattle.cs_types.specs.declared.reply.Reply.{Reply}
use Rattle.cs_types.specs.declared.reply.Reply.TheVariants.{Picked, Slept, Ended, Stole, Woken, Child, Zero, Set, Done}
use Rattle.cs_types.specs.declared.reply.Entry.{Entry}
use Rattle.cs_types.specs.Room.{RoomState, task_of, queued_on}
use Rattle.cs_types.specs.declared.task.Task.{Task}
use Rattle.cs_types.specs.Prctl.{Setting, setting_of}

-- ---- the pick of an entry

-- whether a sibling came to its pick by a core-wide selection that it made
abbrev pub is_selected : Kind → Bool
is_selected Selected = true
is_selected Adopted = false
is_selected Plain = false

-- whether it took what an earlier selection of another sibling chose for it
abbrev pub is_adopted : Kind → Bool
is_adopted Selected = false
is_adopted Adopted = true
is_adopted Plain = false

-- the pick in a reply, if it has one
abbrev pub pick_of : Reply → Option Pick
pick_of (Picked pick) = Some pick
pick_of (Slept pid pick) = Some pick
pick_of (Ended pid pick) = Some pick
pick_of reply = None

-- the sibling that an event makes schedule, if it makes one
abbrev pub scheduler_of : Event → Option ℕ
scheduler_of (Turn cpu) = Some cpu
scheduler_of (Resched cpu) = Some cpu
scheduler_of (Block cpu) = Some cpu
scheduler_of (Exit cpu) = Some cpu
scheduler_of (Tick cpu) = None
scheduler_of (Wake pid) = None
scheduler_of (Advance delta) = None
scheduler_of (Fork caller thread) = None
scheduler_of (Prctl caller ask) = None
scheduler_of (SetSched pid policy) = None
scheduler_of (Offline cpu) = None
scheduler_of (Online cpu) = None
scheduler_of (Load index) = None
scheduler_of (Unload index) = None

-- the pick of a core-wide selection, if a reply has one
abbrev pub selection_of : Reply → Option Pick
selection_of reply = option_and_then (λ (pick : Pick). if is_selected pick.kind then Some pick else None) (pick_of reply)

-- whether an entry is of a core-wide selection
abbrev pub is_selection : Entry → Bool
is_selection entry = is_some (selection_of entry.reply)

-- whether an entry says that the sibling took a pick of a core-wide selection, its own or another's
abbrev pub is_taken_by : ℕ → Entry → Bool
is_taken_by cpu entry =
    option_map_or (λ other. other == cpu) (scheduler_of entry.event) false
    && option_map_or (λ (pick : Pick). is_selected pick.kind || is_adopted pick.kind) (pick_of entry.reply) false

-- ---- touches

-- a selected or plain pick touches once, and an adopted one does not
abbrev pub pick_touches : Pick → ℕ
pick_touches pick = if is_adopted pick.kind then 0 else 1

-- a queued task leaves the cookie order if its old cookie is not 0, and enters it if its new one is not 0
-- (`sched_core_dequeue` and `sched_core_enqueue` in `sched_core_update_cookie`, as of 6.1, which is this project's
-- choice)
abbrev pub cookie_touches : ℕ → Task → ℕ
cookie_touches cookie task =
    if task.queued
    then (if task.cookie == 0 then 0 else 1) + (if cookie == 0 then 0 else 1)
    else 0

-- the same for all tasks that are set
abbrev pub setting_touches : Setting → ℕ
setting_touches set = sum_by (cookie_touches set.cookie) set.tasks

-- what a call that was answered with 0 sets, in the room before it
abbrev pub set_touches : RoomState → Event → ℕ
set_touches room (Prctl caller ask) = setting_touches (setting_of room caller ask)
set_touches room event = 0

-- a task that leaves a queue and enters one touches twice (this project's rule): one whose policy is set, if it is
-- queued
abbrev pub policy_touches : Option Task → ℕ
policy_touches task = option_map_or (λ (task : Task). if task.queued then 2 else 0) task 0

abbrev pub policy_set_touches : RoomState → Event → ℕ
policy_set_touches room (SetSched pid policy) = policy_touches (task_of room pid)
policy_set_touches room event = 0

-- and each that is queued on a sibling that leaves
abbrev pub leaving_touches : RoomState → Event → ℕ
leaving_touches room (Offline cpu) = 2 * length (queued_on room cpu)
leaving_touches room event = 0

-- how often an entry touches the queues, read in the room before it
abbrev pub touches_by : RoomState → Event → Reply → ℕ
touches_by room event (Woken cpu) = 1
touches_by room event (Child pid) = 1
touches_by room event (Picked pick) = pick_touches pick
touches_by room event (Slept pid pick) = 1 + pick_touches pick
touches_by room event (Ended pid pick) = 1 + pick_touches pick
touches_by room event Zero = set_touches room event
touches_by room event (Stole pid from) = 2
touches_by room event Set = policy_set_touches room event
touches_by room event Done = leaving_touches room event
touches_by room event reply = 0

-- ---- the ledger: every entry so far with its touches, the latest first

-- an entry, and how often it touched the queues
pub record LedgerEntry : Type 0 where
  pub entry : Entry
  pub touches : ℕ

abbrev pub Ledger : Type 0
Ledger = List LedgerEntry

-- an entry, made in this room, as it stands in the ledger
abbrev pub ledger_entry : RoomState → Entry → LedgerEntry
ledger_entry room entry = record { entry = entry; touches = touches_by room entry.event entry.reply }

-- the ledger up to the last entry that passes, which is its first now
abbrev pub back_to : (Entry → Bool) → Ledger → Ledger
back_to test [] = []
back_to test (note ∷ ledger) = if test note.entry then note ∷ ledger else back_to test ledger

-- the task number: all touches
abbrev pub task_number : Ledger → ℕ
task_number ledger = sum_by (λ note. note.touches) ledger

-- the pick number: all touches up to the last core-wide selection and with it
abbrev pub pick_number : Ledger → ℕ
pick_number ledger = task_number (back_to is_selection ledger)

-- a sibling's own number: the pick number just after it last took a pick of a core-wide selection
abbrev pub own_number : ℕ → Ledger → ℕ
own_number cpu ledger = pick_number (back_to (is_taken_by cpu) ledger)

-- whether there was a core-wide selection, and nothing was touched since the last one
unfoldable pub is_fresh : Ledger → Bool
is_fresh ledger =
    list_any (λ note. is_selection note.entry) ledger
    && list_all (λ note. note.touches == 0) (take_while (λ note. not (is_selection note.entry)) ledger)
