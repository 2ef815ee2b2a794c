use Rattle.std.proofs.Common.{◌≡◌}
use Rattle.std.specs.List.{flat_map}
use Rattle.scenario_text.specs.Text.{line}
use Rattle.cs_outside.proofs.Reached.{AreLeft}
use Rattle.times_report.specs.TaskLines.{line_of_cookie, lines_of_cookies}
use Rattle.times_report.proofs.Rows.{lines_from}
use Rattle.times_report.proofs.task_lines.write_cookies.Given as goal

abbrev pub invariant-loop-cookie : goal.invariant-loop-cookie
invariant-loop-cookie g l =
    let written = g.K.Sink.written in
    let faults = g.K.Sink.faults in
    record {
      left : AreLeft line (written l.fn.sink) (flat_map line (lines_of_cookies l.cookies)) (lines_from line_of_cookie l.cookies l.cookie) (written l.sink);
      faultless : faults l.sink ≡ faults l.fn.sink;
    }
