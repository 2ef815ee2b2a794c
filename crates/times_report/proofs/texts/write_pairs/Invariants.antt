use Rattle.std.proofs.Common.{◌≡◌}
use Rattle.std.specs.List.{flat_map}
use Rattle.scenario_text.specs.Text.{line}
use Rattle.cs_outside.proofs.Reached.{AreLeft}
use Rattle.times_report.specs.Summary.{pair_lines}
use Rattle.times_report.proofs.Left.{pairs_from}
use Rattle.times_report.proofs.texts.write_pairs.Given as goal

abbrev pub invariant-loop-index : goal.invariant-loop-index
invariant-loop-index g l =
    let written = g.K.Sink.written in
    let faults = g.K.Sink.faults in
    record {
      left : AreLeft line (written l.fn.sink) (flat_map line (pair_lines l.by l.pairs)) (pairs_from l.by l.pairs l.index) (written l.sink);
      faultless : faults l.sink ≡ faults l.fn.sink;
    }
