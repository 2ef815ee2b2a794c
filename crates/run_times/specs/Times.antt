-- Times: for how long a fact held in a history. Time passes in advances alone, so what holds before one holds in all of
-- it.
use Rattle.std.specs.Prelude.{ℕ, ◌+◌, max, Bool, List, [], ◌∷◌, ◌++◌, length, map, filter, fold, take, reverse, sum_by, Option, Some, None}
use Rattle.std.specs.List.{range_with_len, take_while}
use Rattle.std.specs.Option.{option_map, option_to_list}
use Rattle.cs_types.specs.declared.event.Event.{Event}
use Rattle.cs_types.specs.declared.event.Event.TheVariants.{Advance}
use Rattle.cs_types.specs.declared.reply.Entry.{Entry}
use Rattle.cs_types.specs.Room.{Opening, RoomState}
use Rattle.cs_types.specs.History.{History, Moment, beginning, next}

-- a span of time: the room before an advance, and how far that moved the clock, in ns
pub record Span : Type 0 where
  pub room : RoomState
  pub time : ℕ

-- how far an event moves the clock, in ns, none if it is no advance
abbrev pub advance_of : Event → Option ℕ
advance_of (Advance delta) = Some delta
advance_of event = None

-- the span of an event, made in a room, if it has one
abbrev pub span_of : RoomState → Event → List Span
span_of room event = option_to_list (option_map (λ time. record { room = room; time = time }) (advance_of event))

-- the spans of these entries, made from a moment on
abbrev pub spans_from : Moment → List Entry → List Span
spans_from moment [] = []
spans_from moment (entry ∷ entries) = span_of moment.room entry.event ++ spans_from (next moment entry) entries

-- the spans of a history, the oldest first
abbrev pub spans_of : Opening → History → List Span
spans_of opening history = spans_from (beginning opening) history

-- the time of these spans, in ns
abbrev pub total_time : List Span → ℕ
total_time spans = sum_by (λ span. span.time) spans

-- the time in which a fact held, in ns: that of the spans in whose room it holds
abbrev pub time_in : (RoomState → Bool) → List Span → ℕ
time_in fact spans = total_time (filter (λ span. fact span.room) spans)

-- for how long a fact has lasted at the end of these spans, in ns: the time of the last of them, as far back as it
-- holds
abbrev pub lasting : (RoomState → Bool) → List Span → ℕ
lasting fact spans = total_time (take_while (λ span. fact span.room) (reverse spans))

-- the longest time for which it held without a break, in ns: the longest that it has lasted at the end of any of them.
-- What takes no time is no break.
abbrev pub longest : (RoomState → Bool) → List Span → ℕ
longest fact spans = fold max 0 (map (λ n. lasting fact (take n spans)) (range_with_len 0 (length spans + 1)))
