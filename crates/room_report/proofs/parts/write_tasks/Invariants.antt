use Rattle.std.proofs.Common.{◌≡◌, ◌-◌, ◌^◌}
use Rattle.cs_types.specs.History.{moment_of}
use Rattle.room_report.specs.Report.{task_lines, lines_text, part_text}
use Rattle.room_report.proofs.Left.{task_lines_above}
use Rattle.cs_outside.proofs.Reached.{Reached}
use Rattle.room_report.proofs.parts.write_tasks.Given as goal

abbrev pub invariant-loop-task : goal.invariant-loop-task
invariant-loop-task g l =
    let written = g.K.Sink.written in
    let faults = g.K.Sink.faults in
    record {
      reached : Reached (written l.fn.sink) (part_text task_lines (g.R.Room.opening l.room) (g.R.Room.history l.room)) (lines_text (task_lines_above (moment_of (g.R.Room.opening l.room) (g.R.Room.history l.room)) l.pid)) (written l.sink);
      faultless : faults l.sink ≡ faults l.fn.sink;
    }

abbrev pub decreases-loop-task : goal.decreases-loop-task
decreases-loop-task g l = 2 ^ 32 - l.pid
