use Rattle.std.proofs.Common.{◌≡◌}
use Rattle.std.specs.List.{flat_map}
use Rattle.scenario_text.specs.Text.{line}
use Rattle.cs_outside.proofs.Reached.{AreLeft}
use Rattle.times_report.specs.Summary.{sibling_lines}
use Rattle.times_report.proofs.Left.{lines_from}
use Rattle.times_report.proofs.texts.write_siblings.Given as goal

abbrev pub invariant-loop-cpu : goal.invariant-loop-cpu
invariant-loop-cpu g l =
    let written = g.K.Sink.written in
    let faults = g.K.Sink.faults in
    record {
      left : AreLeft line (written l.fn.sink) (flat_map line (sibling_lines l.siblings)) (lines_from l.siblings l.cpu) (written l.sink);
      faultless : faults l.sink ≡ faults l.fn.sink;
    }
