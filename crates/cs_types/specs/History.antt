-- Histories: the room and the ledger after one, which of them are legal, and the one that steps make.
use Rattle.std.specs.Prelude.{◌≡◌, List, [], ◌∷◌, ◌++◌, map, filter, All}
use Rattle.cs_types.specs.declared.event.Actor.{Actor}
use Rattle.cs_types.specs.declared.event.Event.{Event}
use Rattle.cs_types.specs.declared.event.Step.{Step}
use Rattle.cs_types.specs.declared.reply.Reply.{Reply}
use Rattle.cs_types.specs.declared.reply.Entry.{Entry}
use Rattle.cs_types.specs.Scenario.{IsEvent, is_actor}
use Rattle.cs_types.specs.Room.{Opening, RoomState, start}
use Rattle.cs_types.specs.Step.{Stepped, step}
use Rattle.cs_types.specs.Touches.{Ledger, ledger_entry, is_fresh}

-- a history is a list of entries, the oldest first
abbrev pub History : Type 0
History = List Entry

-- a room, with the ledger of the entries that led to it
pub record Moment : Type 0 where
  pub room : RoomState
  pub ledger : Ledger

-- the start of a scenario, before its first entry
abbrev pub beginning : Opening → Moment
beginning opening = record { room = start opening; ledger = [] }

-- the step of an event from a moment
abbrev pub step_at : Moment → Event → Stepped
step_at moment event = step moment.room (is_fresh moment.ledger) event

-- the moment after the step of an entry
abbrev pub next : Moment → Entry → Moment
next moment entry =
    record { room = (step_at moment entry.event).room; ledger = ledger_entry moment.room entry ∷ moment.ledger }

-- the moment after the steps of these entries
abbrev pub after : Moment → List Entry → Moment
after moment [] = moment
after moment (entry ∷ entries) = after (next moment entry) entries

-- the start of the scenario, after the steps of the history's events in order
abbrev pub moment_of : Opening → History → Moment
moment_of opening history = after (beginning opening) history

-- the room after a history
abbrev pub fold_of : Opening → History → RoomState
fold_of opening history = (moment_of opening history).room

-- the ledger after a history
abbrev pub ledger_of : Opening → History → Ledger
ledger_of opening history = (moment_of opening history).ledger

-- the reply that the rules give to an event after a history
abbrev pub reply_to : Opening → History → Event → Reply
reply_to opening past event = (step_at (moment_of opening past) event).reply

-- each reply is the one that the rules give at its place
abbrev pub IsLegal : Opening → History → Type 0
IsLegal opening history =
    (past : History) (entry : Entry) (rest : List Entry) →
    history ≡ past ++ entry ∷ rest → entry.reply ≡ reply_to opening past entry.event

-- what each event names keeps its limits
abbrev pub AreEvents : Opening → History → Type 0
AreEvents opening history = All (λ entry. IsEvent opening.scenario.siblings entry.event) history

-- the events of an actor's entries
abbrev pub events_by : Actor → History → List Event
events_by actor history = map (λ entry. entry.event) (filter (λ entry. is_actor entry.actor actor) history)

-- ---- the one legal history of a list of steps

-- the entry of a step, made at a moment
abbrev pub entry_of : Moment → Step → Entry
entry_of moment made =
    record { actor = made.actor; event = made.event; reply = (step_at moment made.event).reply }

-- the entries of these steps, made from a moment on
abbrev pub made_from : Moment → List Step → List Entry
made_from moment [] = []
made_from moment (made ∷ steps) = entry_of moment made ∷ made_from (next moment (entry_of moment made)) steps

-- the legal history of these steps
abbrev pub history_of : Opening → List Step → History
history_of opening steps = made_from (beginning opening) steps

-- the history of all step lines in the file's order
abbrev pub file : Opening → History
file opening = history_of opening opening.scenario.steps
