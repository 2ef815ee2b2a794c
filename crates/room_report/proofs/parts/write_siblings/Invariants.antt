use Rattle.std.proofs.Common.{◌≡◌}
use Rattle.cs_types.specs.History.{moment_of}
use Rattle.room_report.specs.Report.{cpu_lines, lines_text, part_text}
use Rattle.room_report.proofs.Left.{cpu_lines_from}
use Rattle.cs_outside.proofs.Reached.{Reached}
use Rattle.room_report.proofs.parts.write_siblings.Given as goal

abbrev pub invariant-loop-cpu : goal.invariant-loop-cpu
invariant-loop-cpu g l =
    let written = g.K.Sink.written in
    let faults = g.K.Sink.faults in
    record {
      reached : Reached (written l.fn.sink) (part_text cpu_lines (g.R.Room.opening l.room) (g.R.Room.history l.room)) (lines_text (cpu_lines_from (moment_of (g.R.Room.opening l.room) (g.R.Room.history l.room)) l.cpu)) (written l.sink);
      faultless : faults l.sink ≡ faults l.fn.sink;
    }
