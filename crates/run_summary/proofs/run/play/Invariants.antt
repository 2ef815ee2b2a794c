use Rattle.std.proofs.Common.{◌≡◌, ◌+◌, ◌≤◌, take, drop, sum_by}
use Rattle.cs_types.specs.History.{history_of, AreEvents}
use Rattle.pair_times.specs.Pairs.{most_rows}
use Rattle.wait_times.specs.Rows.{AreWaitsSoFar}
use Rattle.run_summary.specs.Summaries.{spare_rows, ArePartsOf}
use Rattle.run_summary.proofs.run.play.Given as goal

abbrev pub invariant-loop-step : goal.invariant-loop-step
invariant-loop-step g l =
    let room = g.R.Room in
    record {
      history : room.history l.room ≡ history_of (room.opening l.fn.room) (take l.step-index l.steps);
      opening : room.opening l.room ≡ room.opening l.fn.room;
      spare : room.spare l.room + l.step-index ≡ room.spare l.fn.room;
      events : AreEvents (room.opening l.room) (room.history l.room);
      parts : ArePartsOf (room.opening l.room) (room.history l.room) l.summary;
      waits : AreWaitsSoFar (room.opening l.room) (room.history l.room) l.summary.waits;
      each : l.summary.waits.entries ≡ l.fn.summary.waits.entries;
      entries : l.summary.tasks.entries ≡ l.fn.summary.tasks.entries;
      rows : sum_by (λ step. most_rows (room.opening l.fn.room).scenario.siblings step.event) (drop l.step-index l.steps) ≤ spare_rows l.summary;
    }
