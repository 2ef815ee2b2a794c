-- Segments: what each sibling did over time. Time passes in advances alone, so what holds before one holds in all of
-- it.
use Rattle.std.specs.Prelude.{◌≡◌, ℕ, ◌<◌, ◌+◌, ◌==◌, ◌&&◌, not, Bool, true, false, List, [], ◌∷◌, ◌++◌, map, filter, if◌then◌else◌, Option, Some, None, unwrap_or}
use Rattle.std.specs.List.{range_with_len, take_while}
use Rattle.cs_types.specs.Room.{Opening, RoomState, sibling_of, is_online}
use Rattle.cs_types.specs.History.{History}
use Rattle.run_times.specs.declared.doing.Doing.{Doing}
use Rattle.run_times.specs.declared.doing.Doing.TheVariants.{Offline, Runs, Idles, ForcedIdle}
use Rattle.run_times.specs.declared.by.By.TheVariants.{Group}
use Rattle.run_times.specs.Doing.{key_run, doing_of, is_pending}
use Rattle.run_times.specs.Times.{Span, spans_of, total_time}
use Rattle.run_segments.specs.declared.segments.Segment.{Segment}

-- the pid that a sibling runs, 0 if it is offline or runs idle
abbrev pub pid_run : RoomState → ℕ → ℕ
pid_run room cpu = if is_online room cpu then unwrap_or (sibling_of room cpu).run 0 else 0

-- the pid that leads the thread group of the task that a sibling runs, 0 if it is offline or runs idle
abbrev pub group_run : RoomState → ℕ → ℕ
group_run room cpu = unwrap_or (key_run Group room cpu) 0

-- whether a sibling does the same
abbrev pub is_same : Doing → Doing → Bool
is_same Offline Offline = true
is_same (Runs a) (Runs b) = a == b
is_same Idles Idles = true
is_same (ForcedIdle a) (ForcedIdle b) = a == b
is_same one other = false

-- what a sibling does in a span, as the segment of that span alone
abbrev pub segment_in : Span → ℕ → Segment
segment_in span cpu =
    record {
      from = span.room.clock;
      to = span.room.clock + span.time;
      cpu = cpu;
      pid = pid_run span.room cpu;
      group = group_run span.room cpu;
      doing = doing_of span.room cpu;
      pending = is_pending span.room cpu;
    }

-- whether two segments are alike: their sibling runs the same task or none, does the same, and is pending in both or in
-- neither
abbrev pub is_alike : Segment → Segment → Bool
is_alike one other =
    (one.pid == other.pid) && is_same one.doing other.doing && (if one.pending then other.pending else not other.pending)

-- whether a sibling goes on in a span with what it did in another
abbrev pub goes_on : ℕ → Span → Span → Bool
goes_on cpu past span = is_alike (segment_in past cpu) (segment_in span cpu)

-- whether a segment of a sibling begins with a span: at the first one, and if the sibling does not go on from the one
-- before
abbrev pub begins : Option Span → Span → ℕ → Bool
begins None span cpu = true
begins (Some past) span cpu = not (goes_on cpu past span)

-- the segment of a sibling that begins with a span, if these come after it: it lasts as long as the sibling goes on
abbrev pub segment_from : Span → List Span → ℕ → Segment
segment_from span later cpu =
    let first = segment_in span cpu in
    record first { to = first.to + total_time (take_while (goes_on cpu span) later) }

-- the segments that begin in these spans of a core with this number of siblings, after another span or none: by the
-- time they begin, and those that begin at the same time by rising sibling
abbrev pub segments_in : ℕ → Option Span → List Span → List Segment
segments_in siblings past [] = []
segments_in siblings past (span ∷ later) =
    map (segment_from span later) (filter (begins past span) (range_with_len 0 siblings)) ++ segments_in siblings (Some span) later

-- the segments of a history
abbrev pub segments_of : Opening → History → List Segment
segments_of opening history = segments_in opening.scenario.siblings None (spans_of opening history)

-- those of a sibling
abbrev pub segments_on : ℕ → List Segment → List Segment
segments_on cpu segments = filter (λ segment. segment.cpu == cpu) segments

-- these segments follow one another without a gap from one clock to another, and each lasts for some time
abbrev pub IsGapless : ℕ → List Segment → ℕ → Type 0
IsGapless from [] to = from ≡ to
IsGapless from (segment ∷ segments) to = (segment.from ≡ from) × (from < segment.to) × IsGapless segment.to segments to
