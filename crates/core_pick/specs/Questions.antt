-- Questions: what a selection asks of the siblings, and what it keeps of their answers.
use Rattle.std.specs.Prelude.{◌≡◌, ℕ, ◌+◌, ◌-◌, ◌<◌, ◌≤◌, ◌++◌, List, [], ◌∷◌, None, length, slice_index_or}
use Rattle.std.specs.List.{range_with_len}
use Rattle.cs_types.specs.Room.{RoomState, sibling_of}
use Rattle.cs_types.specs.Selection.{first_on, cookie_of, lead_from}
use Rattle.task_table.specs.Table.{Table}
use Rattle.core_lanes.specs.declared.queue.SiblingQueue.{Ghosts}
use Rattle.core_lanes.specs.declared.lanes.Core.{Core}
use Rattle.core_lanes.specs.Queued.{queued_among}
use Rattle.core_lanes.specs.declared.lane.Lane.{Lane}
use Rattle.core_lanes.specs.Lanes.{Beside, lane_state, room_of, AgreesAt, HasLowTimes}
use Rattle.core_pick.specs.declared.choice.Choice.{Choice}
use Rattle.core_pick.specs.declared.choice.Counts.{Counts}
use Rattle.core_pick.specs.declared.lead.First.{First}
use Rattle.core_pick.specs.Choice.{choice_of, kept_in, firsts_of, lead_in, choices_of, IsGivenAndCounted, AreCountsOf}

-- ---- of one sibling

-- the sibling may be asked for its first task
pub record MayAsk {Q : Type 0} {g : Ghosts Q} (sibling : ℕ) (both : Core Q g × Table) : Type 0 where
  pub at : AgreesAt sibling both
  pub low : HasLowTimes both

-- its queue is asked, answers this, and makes no more comparisons than one question takes
pub record AsksOf (most_compared : ℕ → ℕ) (cpu : ℕ) (table : Table) (Answer : Type 0) (before after : ℕ) : Type 0 where
  pub answer : Answer
  pub counted : after ≤ before + most_compared (length (queued_among table.tasks cpu))

abbrev pub AsksOnce : {Q : Type 0} {g : Ghosts Q} → ℕ → Core Q g × Table → Type 0 → ℕ → ℕ → Type 0
AsksOnce {g = g} cpu both Answer before after = AsksOf g.most_compared cpu both.1 Answer before after

-- this is what is kept of its first task
abbrev pub KeepsFirst : {Q : Type 0} {g : Ghosts Q} → ℕ → Core Q g × Table → First → Type 0
KeepsFirst cpu both first = (beside : Beside) → let room = room_of beside both in first ≡ kept_in room (first_on room cpu)

-- this leads the sibling alone
abbrev pub LeadsAlone : {Q : Type 0} {g : Ghosts Q} → ℕ → Core Q g × Table → First → Type 0
LeadsAlone cpu both now = (beside : Beside) → now ≡ lead_in (room_of beside both) (cpu ∷ [])

-- if the one first leads some siblings, the other leads these and this sibling
abbrev pub LeadsWith : {Q : Type 0} {g : Ghosts Q} → ℕ → Core Q g × Table → First → First → Type 0
LeadsWith cpu both before now = (beside : Beside) (order : List ℕ) → let room = room_of beside both in
    before ≡ lead_in room order → now ≡ lead_in room (order ++ cpu ∷ [])

-- if the one is its first task, the other is what it gets for a core cookie, and it is counted with that
abbrev pub GetsCounted : {Q : Type 0} → ℕ → ℕ → Lane Q → Table → Counts → Counts → Choice → Choice → Type 0
GetsCounted cpu cookie lane table before now first given = (room : RoomState) →
    room.tasks ≡ table.tasks → sibling_of room cpu ≡ lane_state lane → first ≡ choice_of (first_on room cpu) →
    IsGivenAndCounted room cookie cpu before now given

-- ---- of several

-- each sibling from one on up to another may be asked for its first task
pub record MayAskPart {Q : Type 0} {g : Ghosts Q} (from to : ℕ) (both : Core Q g × Table) : Type 0 where
  pub order : from ≤ to
  pub within : to ≤ length both.0.lanes.items
  pub may : (cpu : ℕ) → cpu < length both.0.lanes.items → MayAsk cpu both

-- the first task of a sibling stands in its place
abbrev pub IsNoted : RoomState → List Choice → ℕ → Type 0
IsNoted room firsts cpu = slice_index_or firsts cpu (choice_of None) ≡ choice_of (first_on room cpu)

-- so do theirs, and all that did before, and if the one first leads some siblings, the other leads these too
pub record AsksPart {Q : Type 0} {g : Ghosts Q} (from to : ℕ) (both : Core Q g × Table) (old new : List Choice) (before now : First) : Type 0 where
  pub noted : (beside : Beside) (cpu : ℕ) → from ≤ cpu → cpu < to → IsNoted (room_of beside both) new cpu
  pub kept : (beside : Beside) (cpu : ℕ) → IsNoted (room_of beside both) old cpu → IsNoted (room_of beside both) new cpu
  pub lead : (beside : Beside) (order : List ℕ) → let room = room_of beside both in
      before ≡ lead_in room order → now ≡ lead_in room (order ++ range_with_len from (to - from))

-- these are the first tasks of all siblings, and the cookie of the lead of a selection that the sibling makes
pub record AsksAll {Q : Type 0} {g : Ghosts Q} (sibling : ℕ) (both : Core Q g × Table) (firsts : List Choice) (cookie : ℕ) : Type 0 where
  pub each : (beside : Beside) → firsts ≡ firsts_of (room_of beside both)
  pub lead : (beside : Beside) → cookie ≡ cookie_of (lead_from (room_of beside both) sibling)

-- this is what all of them get for a core cookie, and how many are counted
pub record GetAll {Q : Type 0} {g : Ghosts Q} (cookie : ℕ) (both : Core Q g × Table) (choices : List Choice) (counts : Counts) : Type 0 where
  pub each : (beside : Beside) → choices ≡ choices_of (room_of beside both) cookie
  pub counts_are : (beside : Beside) → AreCountsOf (room_of beside both) cookie counts
