use Rattle.std.proofs.Common.{◌≡◌, ℕ, ◌<◌, ◌≤◌, ◌-◌, ◌^◌, length, get_or}
use Rattle.std.specs.Prelude.{◌==◌}
use Rattle.std.specs.List.{list_any}
use Rattle.cs_types.specs.History.{fold_of}
use Rattle.task_times.specs.declared.times.TaskTimes.{TaskTimes}
use Rattle.task_times.specs.TaskSums.{charged_where}
use Rattle.task_times.proofs.Charged.{charged_ended}
use Rattle.task_times.proofs.sums.charge_ended.Given as goal

abbrev pub invariant-loop-end : goal.invariant-loop-end
invariant-loop-end g l =
    let room = fold_of (g.R.Room.opening l.room) (g.R.Room.history l.room) in
    record {
      charged : (k : ℕ) (none : TaskTimes) → k < length l.initial.tasks →
          charged_ended room l.place k (get_or l.tasks k none) ≡ charged_where (list_any (λ other. other == k) room.ended) room k (get_or l.initial.tasks k none);
      place : l.place ≤ length room.ended;
    }

abbrev pub decreases-loop-end : goal.decreases-loop-end
decreases-loop-end g l = 2 ^ 36 - l.place
