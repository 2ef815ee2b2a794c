use Rattle.std.proofs.Common.{◌≡◌}
use Rattle.std.specs.List.{flat_map}
use Rattle.scenario_text.specs.Text.{line}
use Rattle.cs_outside.proofs.Reached.{AreLeft}
use Rattle.times_report.specs.WaitLines.{line_of_waits, wait_lines}
use Rattle.times_report.proofs.Rows.{lines_from}
use Rattle.times_report.proofs.wait_lines.write_waits.Given as goal

abbrev pub invariant-loop-pid : goal.invariant-loop-pid
invariant-loop-pid g l =
    let written = g.K.Sink.written in
    let faults = g.K.Sink.faults in
    record {
      left : AreLeft line (written l.fn.sink) (flat_map line (wait_lines l.tasks)) (lines_from line_of_waits l.tasks l.pid) (written l.sink);
      faultless : faults l.sink ≡ faults l.fn.sink;
    }
