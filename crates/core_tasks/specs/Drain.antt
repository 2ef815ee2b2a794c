-- Drain: who schedules next in the final drain, as it is read off the state.
use Rattle.std.specs.Prelude.{ℕ, Bool, ◌&&◌, ◌||◌, not, is_some, ◌++◌, filter, Option}
use Rattle.cs_types.specs.Room.{RoomState, SiblingState, sibling_of}
use Rattle.cs_types.specs.Drain.{pending, lowest}

-- whether a sibling is online and pending, and, if the test asks for it, something waits for it
abbrev pub is_due : Bool → SiblingState → Bool
is_due has_waiting sibling = sibling.online && (sibling.pending && (not has_waiting || is_some sibling.waiting))

-- the lowest online sibling that is pending, and for which something waits if the test asks for it
abbrev pub lowest_pending : RoomState → Bool → Option ℕ
lowest_pending room has_waiting = lowest (filter (λ cpu. not has_waiting || is_some (sibling_of room cpu).waiting) (pending room))

-- who schedules next; the test says whether what waits is fresh
abbrev pub next_by : RoomState → Bool → Option ℕ
next_by room fresh =
    lowest (filter (λ cpu. fresh && is_some (sibling_of room cpu).waiting) (pending room) ++ pending room)
