use Rattle.std.proofs.Common.{◌≡◌}
use Rattle.cs_types.specs.History.{moment_of}
use Rattle.room_report.specs.Report.{ended_lines, lines_text, part_text}
use Rattle.room_report.proofs.Left.{ended_lines_from}
use Rattle.cs_outside.proofs.Reached.{Reached}
use Rattle.room_report.proofs.parts.write_ended.Given as goal

abbrev pub invariant-loop-index : goal.invariant-loop-index
invariant-loop-index g l =
    let written = g.K.Sink.written in
    let faults = g.K.Sink.faults in
    record {
      reached : Reached (written l.fn.sink) (part_text ended_lines (g.R.Room.opening l.room) (g.R.Room.history l.room)) (lines_text (ended_lines_from (moment_of (g.R.Room.opening l.room) (g.R.Room.history l.room)) l.index)) (written l.sink);
      faultless : faults l.sink ≡ faults l.fn.sink;
    }
