use Rattle.std.proofs.Common.{◌≡◌, ◌+◌, take}
use Rattle.cs_types.specs.History.{AreEvents, history_of}
use Rattle.run_segments.specs.Kept.{IsRecordOf}
use Rattle.run_segments.proofs.run.play.Given as goal

abbrev pub invariant-loop-step : goal.invariant-loop-step
invariant-loop-step g l =
    let room = g.R.Room in
    record {
      history : room.history l.room ≡ history_of (room.opening l.fn.room) (take l.step-index l.steps);
      opening : room.opening l.room ≡ room.opening l.fn.room;
      spare : room.spare l.room + l.step-index ≡ room.spare l.fn.room;
      events : AreEvents (room.opening l.room) (room.history l.room);
      record_of : IsRecordOf (room.opening l.room) (room.history l.room) l.recorder.segments l.recorder.queued;
    }
