use Rattle.std.proofs.Common.{◌≡◌, ℕ, ◌<◌, length, take, get_or}
use Rattle.std.specs.Prelude.{All}
use Rattle.cs_types.specs.History.{fold_of}
use Rattle.wait_times.specs.declared.rows.TaskWaits.{TaskWaits}
use Rattle.wait_times.specs.Rows.{CanEnd, ended_where}
use Rattle.wait_times.proofs.Running.{runs_among}
use Rattle.wait_times.proofs.rows.end_running.Given as goal

abbrev pub invariant-loop-cpu : goal.invariant-loop-cpu
invariant-loop-cpu g l =
    let room = fold_of (g.R.Room.opening l.room) (g.R.Room.history l.room) in
    record {
      -- the tasks that the siblings so far run have none that goes on
      ended : (k : ℕ) (none : TaskWaits) → k < length l.initial.rows →
          get_or l.rows k none ≡ ended_where (runs_among (take l.cpu room.siblings) k) room.clock (get_or l.initial.rows k none);
      fits : All (CanEnd room.clock) l.rows;
    }
