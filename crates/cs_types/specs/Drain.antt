-- Drain: how a run ends (this project's rule). While an online sibling is pending, the final drain makes one of them
-- schedule.
use Rattle.std.specs.Prelude.{◌≡◌, ℕ, Bool, ◌&&◌, List, [], ◌∷◌, ◌++◌, filter, Option, Some, None, is_some}
use Rattle.cs_types.specs.declared.event.Actor.TheVariants.{End}
use Rattle.cs_types.specs.declared.event.Event.TheVariants.{Resched}
use Rattle.cs_types.specs.declared.reply.Entry.{Entry}
use Rattle.cs_types.specs.Room.{Opening, RoomState, sibling_of, online}
use Rattle.cs_types.specs.Touches.{is_fresh}
use Rattle.cs_types.specs.History.{History, Moment, moment_of, entry_of, next}

-- the online siblings that are pending, by rising number
abbrev pub pending : RoomState → List ℕ
pending room = filter (λ cpu. (sibling_of room cpu).pending) (online room)

-- whether a sibling's schedule would be an adoption: what waits for it is fresh
abbrev pub is_ready : Moment → ℕ → Bool
is_ready moment cpu = is_fresh moment.ledger && is_some (sibling_of moment.room cpu).waiting

-- the first of these siblings, none if there is none
abbrev pub lowest : List ℕ → Option ℕ
lowest [] = None
lowest (cpu ∷ cpus) = Some cpu

-- who schedules next: the lowest pending sibling that is ready, and if there is none, the lowest pending one
abbrev pub next_to_schedule : Moment → Option ℕ
next_to_schedule moment = lowest (filter (is_ready moment) (pending moment.room) ++ pending moment.room)

-- the entry of the schedule that the final drain has a sibling make
abbrev pub entry_by_end : Moment → ℕ → Entry
entry_by_end moment cpu = entry_of moment (record { actor = End; event = Resched cpu })

-- These are the entries of the final drain from a moment on: each is of the sibling that schedules next, and after the
-- last no sibling is pending.
abbrev pub IsEndFrom : Moment → List Entry → Type 0
IsEndFrom moment [] = pending moment.room ≡ []
IsEndFrom moment (entry ∷ entries) =
    (cpu : ℕ) × (next_to_schedule moment ≡ Some cpu) × (entry ≡ entry_by_end moment cpu) × IsEndFrom (next moment entry) entries

-- The one history is the other with the entries of the final drain.
pub record IsDrained (opening : Opening) (past now : History) : Type 0 where
  pub made : List Entry
  pub added : now ≡ past ++ made
  pub ends : IsEndFrom (moment_of opening past) made
