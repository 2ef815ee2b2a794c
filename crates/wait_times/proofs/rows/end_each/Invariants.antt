use Rattle.std.proofs.Common.{◌≡◌, ℕ, ◌<◌, ◌≤◌, length, get_or}
use Rattle.wait_times.specs.declared.rows.TaskWaits.{TaskWaits}
use Rattle.wait_times.specs.Rows.{ended}
use Rattle.wait_times.proofs.rows.end_each.Given as goal

abbrev pub invariant-loop-row : goal.invariant-loop-row
invariant-loop-row l =
    record {
      done : (k : ℕ) (none : TaskWaits) → k < l.row-index → k < length l.initial.rows →
          get_or l.rows k none ≡ ended l.clock (get_or l.initial.rows k none);
      left : (k : ℕ) (none : TaskWaits) → l.row-index ≤ k → get_or l.rows k none ≡ get_or l.initial.rows k none;
    }
