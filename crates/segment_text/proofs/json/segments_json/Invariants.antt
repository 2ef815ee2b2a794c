use Rattle.std.proofs.Common.{◌≡◌, drop}
use Rattle.cs_outside.proofs.Reached.{AreLeft}
use Rattle.segment_text.specs.Json.{object_line, segments_json_text}
use Rattle.segment_text.proofs.json.segments_json.Given as goal

abbrev pub invariant-loop-segment : goal.invariant-loop-segment
invariant-loop-segment g l =
    let written = g.K.Sink.written in
    let faults = g.K.Sink.faults in
    record {
      left : AreLeft object_line (written l.fn.sink) (segments_json_text l.fn.run) (drop l.segment-index l.fn.run) (written l.sink);
      faultless : faults l.sink ≡ faults l.fn.sink;
    }
