use Rattle.std.proofs.Common.{◌≡◌, drop, map}
use Rattle.std.specs.List.{flat_map}
use Rattle.scenario_text.specs.Text.{line}
use Rattle.cs_outside.proofs.Reached.{AreLeft}
use Rattle.scenario_writer.proofs.scenario.write_lines.Given as goal

abbrev pub invariant-loop-item : goal.invariant-loop-item
invariant-loop-item g l =
    let written = g.K.Sink.written in
    let words = g.T.Lined.words in
    record {
      left : AreLeft line (written l.fn.sink) (flat_map line (map words l.items)) (map words (drop l.item-index l.items)) (written l.sink);
      faultless : g.K.Sink.faults l.sink ≡ g.K.Sink.faults l.fn.sink;
    }
