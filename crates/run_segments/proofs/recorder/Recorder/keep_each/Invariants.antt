use Rattle.std.proofs.Common.{◌≡◌, ◌+◌, ◌<◌, List, length, None}
use Rattle.cs_types.specs.History.{fold_of}
use Rattle.run_times.specs.Times.{Span, total_time}
use Rattle.run_segments.specs.Kept.{AreMarksOf, AreKept, last_span}
use Rattle.run_segments.proofs.Steps.{IsAt}
use Rattle.run_segments.proofs.recorder.Recorder.keep_each.Given as goal

abbrev pub invariant-loop-cpu : goal.invariant-loop-cpu
invariant-loop-cpu g l =
    let opening = g.R.Room.opening l.room in
    let siblings = opening.scenario.siblings in
    let room = fold_of opening (g.R.Room.history l.room) in
    let before = l.fn.self.segments in
    record {
      each : length l.self.segments.places ≡ siblings;
      marks : AreMarksOf siblings room l.self.queued;
      -- the siblings so far have gone on over the span
      kept : (spans : List Span) (span : Span) → span.room ≡ room → span.room.clock ≡ l.from → l.from + span.time ≡ l.to → 0 < span.time →
          total_time spans ≡ l.from → AreKept siblings spans before → IsAt siblings (last_span None spans) span before.segments l.cpu l.self.segments;
    }
