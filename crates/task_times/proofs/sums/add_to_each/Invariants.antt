use Rattle.std.proofs.Common.{◌≡◌, ℕ, ◌<◌, ◌-◌, ◌^◌, length, get_or}
use Rattle.std.specs.Prelude.{filter}
use Rattle.cs_types.specs.History.{fold_of}
use Rattle.cs_types.proofs.Inserted.{is_above}
use Rattle.task_times.specs.declared.times.TaskTimes.{TaskTimes}
use Rattle.task_times.specs.declared.times.CookieTimes.{CookieTimes}
use Rattle.task_times.specs.Living.{doing_at}
use Rattle.task_times.specs.TaskSums.{with_span, with_doers}
use Rattle.task_times.proofs.Walked.{doing_in, with_doers_in}
use Rattle.task_times.proofs.sums.add_to_each.Given as goal

abbrev pub invariant-loop-task : goal.invariant-loop-task
invariant-loop-task g l =
    let room = fold_of (g.R.Room.opening l.room) (g.R.Room.history l.room) in
    let left = filter (is_above l.pid) room.tasks in
    record {
      -- with what the tasks above do, each has what it has in the end
      tasks : (k : ℕ) (none : TaskTimes) → k < length l.initial.tasks →
          with_span (doing_in room left k) l.time (get_or l.tasks k none) ≡ with_span (doing_at room k) l.time (get_or l.initial.tasks k none);
      cookies : (k : ℕ) (none : CookieTimes) → k < length l.initial.cookies →
          with_doers_in room left k l.time (get_or l.cookies k none) ≡ with_doers room k l.time (get_or l.initial.cookies k none);
    }

abbrev pub decreases-loop-task : goal.decreases-loop-task
decreases-loop-task g l = 2 ^ 32 - l.pid
