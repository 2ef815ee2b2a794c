-- Waits: for how long a task waits from a wake until a sibling runs it (`sch delay` of `perf sched timehist`: from
-- `sched_wakeup` or `sched_wakeup_new` to the `sched_switch` to it).
use Rattle.std.specs.Prelude.{ℕ, ◌==◌, ◌||◌, not, Bool, false, if◌then◌else◌, List, [], ◌∷◌, ◌++◌, sum_by, Option, Some, None}
use Rattle.std.specs.List.{list_any, take_while}
use Rattle.std.specs.Option.{option_map_or}
use Rattle.cs_types.specs.declared.event.Event.{Event}
use Rattle.cs_types.specs.declared.event.Event.TheVariants.{Wake, Fork}
use Rattle.cs_types.specs.declared.reply.Entry.{Entry}
use Rattle.cs_types.specs.declared.reply.Reply.{Reply}
use Rattle.cs_types.specs.declared.reply.Reply.TheVariants.{Woken, Child}
use Rattle.cs_types.specs.Room.{Opening, RoomState, SiblingState}
use Rattle.cs_types.specs.Selection.{is_run}
use Rattle.cs_types.specs.History.{History, Moment, beginning, next}
use Rattle.run_times.specs.Times.{advance_of}

-- ---- what an entry is for a task

-- the task that an event wakes, by its reply: one that was asleep (`try_to_wake_up`), or a child that is born
-- (`wake_up_new_task`)
abbrev pub woken_by : Event → Reply → Option ℕ
woken_by (Wake pid) (Woken home) = Some pid
woken_by (Fork caller thread) (Child pid) = Some pid
woken_by event reply = None

-- whether an entry wakes the task with this pid
abbrev pub wakes : ℕ → Entry → Bool
wakes pid entry = option_map_or (λ woken. woken == pid) (woken_by entry.event entry.reply) false

-- whether some sibling runs the task with this pid
abbrev pub runs_task : RoomState → ℕ → Bool
runs_task room pid = list_any (λ (sibling : SiblingState). is_run sibling.run (Some pid)) room.siblings

-- the time that an event takes, in ns: only advances take any
abbrev pub event_time : Event → ℕ
event_time event = option_map_or (λ time. time) (advance_of event) 0

-- what an entry is for a task
pub record Look : Type 0 where
  -- whether some sibling runs the task before the entry
  pub runs : Bool
  -- whether the entry wakes it
  pub wakes : Bool
  -- the time that the entry takes, in ns
  pub time : ℕ

-- what an entry that is made in this room is for the task with this pid
abbrev pub look_at : ℕ → RoomState → Entry → Look
look_at pid room entry = record { runs = runs_task room pid; wakes = wakes pid entry; time = event_time entry.event }

-- what these entries, made from a moment on, are for it
abbrev pub looks_from : ℕ → Moment → List Entry → List Look
looks_from pid moment [] = []
looks_from pid moment (entry ∷ entries) =
    look_at pid moment.room entry ∷ looks_from pid (next moment entry) entries

-- ---- the waits

-- Whether a wait ends at an entry: a sibling runs the task before it, be it for no time, or the entry wakes the task
-- anew (which the rules allow only after it ran).
abbrev pub ends_wait : Look → Bool
ends_wait look = look.runs || look.wakes

-- for how long a task that was woken just before these entries waits in them, in ns: up to the first that ends the
-- wait, or in all of them
abbrev pub wait_before : List Look → ℕ
wait_before later = sum_by (λ (look : Look). look.time) (take_while (λ look. not (ends_wait look)) later)

-- The waits that begin in these entries, in ns and in their order: one after each entry that wakes the task. A task
-- that is queued when the run begins was not woken, so its time until it first runs is none of them.
abbrev pub waits_in : List Look → List ℕ
waits_in [] = []
waits_in (look ∷ later) = (if look.wakes then wait_before later ∷ [] else []) ++ waits_in later

-- the waits of the task with this pid in a history
abbrev pub waits_at : Opening → History → ℕ → List ℕ
waits_at opening history pid = waits_in (looks_from pid (beginning opening) history)
