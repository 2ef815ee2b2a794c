use Rattle.std.proofs.Common.{◌≡◌, ◌*◌, ◌≤◌, sum_by, take}
use Rattle.pair_times.specs.Pairs.{most_rows}
use Rattle.pair_times.proofs.pairs.rows_for.Given as goal

abbrev pub invariant-loop-step : goal.invariant-loop-step
invariant-loop-step l =
    record {
      rows : l.rows ≡ sum_by (λ step. most_rows l.siblings step.event) (take l.step-index l.steps);
      few : l.rows ≤ 65025 * l.step-index;
    }
