use Rattle.std.proofs.Common.{◌≡◌, ℕ, ◌+◌, ◌-◌, ◌*◌, ◌<◌, ◌≤◌, ◌^◌, length, take, get_or}
use Rattle.task_times.specs.declared.times.CookieTimes.{CookieTimes}
use Rattle.task_times.specs.TaskSums.{charged_to, charged_more}
use Rattle.task_times.proofs.sums.charge_cookies.Given as goal

abbrev pub invariant-loop-times : goal.invariant-loop-times
invariant-loop-times l =
    record {
      rows : (k : ℕ) (none : CookieTimes) → k < length l.initial.cookies →
          get_or l.cookies k none ≡ charged_more (charged_to (take l.times-index l.tasks) k) (get_or l.initial.cookies k none);
      -- the tasks that are left can be charged as much as one number holds each
      fits : (k : ℕ) (none : CookieTimes) → k < length l.initial.cookies →
          (get_or l.cookies k none).charged + (2 ^ 64 - 1) * (length l.tasks - l.times-index) ≤ 2 ^ 128 - 1;
    }
