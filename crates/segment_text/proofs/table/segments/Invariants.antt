use Rattle.std.proofs.Common.{◌≡◌, drop}
use Rattle.cs_outside.proofs.Reached.{AreLeft}
use Rattle.segment_text.specs.Table.{row_text, segments_text}
use Rattle.segment_text.proofs.table.segments.Given as goal

abbrev pub invariant-loop-segment : goal.invariant-loop-segment
invariant-loop-segment g l =
    let written = g.K.Sink.written in
    let faults = g.K.Sink.faults in
    record {
      left : AreLeft row_text (written l.fn.sink) (segments_text l.fn.run) (drop l.segment-index l.fn.run) (written l.sink);
      faultless : faults l.sink ≡ faults l.fn.sink;
    }
