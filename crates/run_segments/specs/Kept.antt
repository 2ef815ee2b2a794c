-- Kept: what is kept of a run while it is played.
use Rattle.std.specs.Prelude.{◌≡◌, ◌≤◌, ◌^◌, ℕ, ◌==◌, ◌&&◌, not, Bool, true, List, ◌∷◌, ◌++◌, [], length, slice_set, slice_index_or, nat_lt, if◌then◌else◌, Option, Some, None, ◌<◌, ◌+◌}
use Rattle.cs_types.specs.Room.{Opening, RoomState}
use Rattle.cs_types.specs.History.{History, fold_of}
use Rattle.run_times.specs.Doing.{has_queued}
use Rattle.run_times.specs.Times.{Span, spans_of, total_time}
use Rattle.run_segments.specs.declared.segments.Segment.{Segment}
use Rattle.run_segments.specs.Segments.{is_alike, begins, segment_in, segments_in}

-- ---- on which siblings a task is queued

-- a mark for each sibling, and whether the marks are right
pub record Marks : Type 0 where
  pub marks : List Bool
  pub is_known : Bool

-- There is a mark for each sibling of a core with this number of them. The marks say on which a task is queued in this
-- room, if that is known.
pub record AreMarksOf (siblings : ℕ) (room : RoomState) (queued : Marks) : Type 0 where
  pub each : length queued.marks ≡ siblings
  pub right : queued.is_known ≡ true → (cpu : ℕ) (none : Bool) → cpu < siblings → slice_index_or queued.marks cpu none ≡ has_queued room cpu

-- ---- the segments

-- the segments so far, and the place of the last one of each sibling, 0 if it has none yet
pub record Kept : Type 0 where
  pub segments : List Segment
  pub places : List ℕ

-- whether a segment goes on with the next one: that is of the same sibling, begins where this ends, and is alike
abbrev pub goes_on_with : Segment → Segment → Bool
goes_on_with segment next = (segment.cpu == next.cpu) && (segment.to == next.from) && is_alike segment next

-- the place of the last segment of a sibling, and that segment
abbrev pub place_of : Kept → ℕ → ℕ
place_of kept cpu = slice_index_or kept.places cpu 0

abbrev pub last_before : Segment → Kept → Segment
last_before next kept = slice_index_or kept.segments (place_of kept next.cpu) next

-- whether there is one, and it goes on with the next one
abbrev pub last_goes_on : Kept → Segment → Bool
last_goes_on kept next = nat_lt (place_of kept next.cpu) (length kept.segments) && goes_on_with (last_before next kept) next

-- it lasts longer
abbrev pub longer : Segment → Kept → Kept
longer next kept =
    record kept { segments = slice_set kept.segments (place_of kept next.cpu) (record (last_before next kept) { to = next.to }) }

-- the next one is one more
abbrev pub with_one : Segment → Kept → Kept
with_one next kept =
    record { segments = kept.segments ++ next ∷ []; places = slice_set kept.places next.cpu (length kept.segments) }

-- what is kept with the next segment of a sibling
abbrev pub kept_with : Segment → Kept → Kept
kept_with next kept = if last_goes_on kept next then longer next kept else with_one next kept

-- ---- what is kept of spans

-- spans that follow one another from this clock on, and each takes time
abbrev pub Follow : ℕ → List Span → Type 0
Follow clock [] = Unit {0}
Follow clock (span ∷ spans) = (span.room.clock ≡ clock) × (0 < span.time) × Follow (clock + span.time) spans

-- the last of these spans after another one or none
abbrev pub last_span : Option Span → List Span → Option Span
last_span past [] = past
last_span past (span ∷ spans) = last_span (Some span) spans

-- A segment stands where it is to: it is of one of these siblings, and lasts no longer than up to the clock of its
-- sibling. One that lasts up to that is the last one of its sibling, and stands at the place of that.
pub record IsPlaced (siblings : ℕ) (clock : ℕ → ℕ) (kept : Kept) (place : ℕ) (segment : Segment) : Type 0 where
  pub cpu : segment.cpu < siblings
  pub ended : segment.to ≤ clock segment.cpu
  pub last : segment.to ≡ clock segment.cpu → place_of kept segment.cpu ≡ place

-- The segments stand where they are to, if each sibling is kept up to a clock of its own and a last span, or none. Its
-- last segment goes on with what it does in the next span exactly if no segment of it begins with that.
pub record ArePlaced (siblings : ℕ) (clock : ℕ → ℕ) (past : ℕ → Option Span) (kept : Kept) : Type 0 where
  pub each : length kept.places ≡ siblings
  pub last : (place : ℕ) (none : Segment) → place < length kept.segments →
      IsPlaced siblings clock kept place (slice_index_or kept.segments place none)
  pub goes_on : (cpu : ℕ) (next : Span) → cpu < siblings → next.room.clock ≡ clock cpu →
      last_goes_on kept (segment_in next cpu) ≡ not (begins (past cpu) next cpu)

-- The segments of these spans are kept.
pub record AreKept (siblings : ℕ) (spans : List Span) (kept : Kept) : Type 0 where
  pub follow : Follow 0 spans
  pub segments : kept.segments ≡ segments_in siblings None spans
  pub placed : ArePlaced siblings (λ _. total_time spans) (λ _. last_span None spans) kept

-- The segments of a history are kept, as long as its clock fits into 64 bits.
abbrev pub HasSegmentsOf : Opening → History → Kept → Type 0
HasSegmentsOf opening history kept =
    total_time (spans_of opening history) < 2 ^ 64 → AreKept opening.scenario.siblings (spans_of opening history) kept

-- This is kept of a history.
pub record IsRecordOf (opening : Opening) (history : History) (kept : Kept) (queued : Marks) : Type 0 where
  pub each : length kept.places ≡ opening.scenario.siblings
  pub segments : HasSegmentsOf opening history kept
  pub marks : AreMarksOf opening.scenario.siblings (fold_of opening history) queued
