use Rattle.std.proofs.Common.{◌≡◌, ◌-◌}
use Rattle.cs_types.specs.History.{moment_of}
use Rattle.room_report.specs.Report.{guard_lines, lines_text, part_text}
use Rattle.room_report.proofs.Left.{guard_lines_from}
use Rattle.cs_outside.proofs.Reached.{Reached}
use Rattle.room_report.proofs.parts.write_guards.Given as goal

abbrev pub invariant-loop-guard : goal.invariant-loop-guard
invariant-loop-guard g l =
    let written = g.K.Sink.written in
    let faults = g.K.Sink.faults in
    record {
      reached : Reached (written l.fn.sink) (part_text guard_lines (g.R.Room.opening l.room) (g.R.Room.history l.room)) (lines_text (guard_lines_from (moment_of (g.R.Room.opening l.room) (g.R.Room.history l.room)) l.index)) (written l.sink);
      faultless : faults l.sink ≡ faults l.fn.sink;
    }

abbrev pub decreases-loop-guard : goal.decreases-loop-guard
decreases-loop-guard g l = 16 - l.index
