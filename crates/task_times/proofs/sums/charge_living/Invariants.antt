use Rattle.std.proofs.Common.{◌≡◌, ℕ, ◌<◌, ◌-◌, ◌^◌, length, get_or}
use Rattle.cs_types.specs.Room.{task_of}
use Rattle.cs_types.specs.History.{fold_of}
use Rattle.task_times.specs.declared.times.TaskTimes.{TaskTimes}
use Rattle.task_times.specs.TaskSums.{charged_living}
use Rattle.task_times.proofs.Charged.{charged_above}
use Rattle.task_times.proofs.sums.charge_living.Given as goal

abbrev pub invariant-loop-task : goal.invariant-loop-task
invariant-loop-task g l =
    let room = fold_of (g.R.Room.opening l.room) (g.R.Room.history l.room) in
    (k : ℕ) (none : TaskTimes) → k < length l.initial.tasks →
    charged_above room l.pid k (get_or l.tasks k none) ≡ charged_living (task_of room k) room k (get_or l.initial.tasks k none)

abbrev pub decreases-loop-task : goal.decreases-loop-task
decreases-loop-task g l = 2 ^ 32 - l.pid
