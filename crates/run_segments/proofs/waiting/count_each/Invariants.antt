use Rattle.std.proofs.Common.{◌-◌, ◌^◌}
use Rattle.run_segments.proofs.waiting.count_each.Given as goal

abbrev pub decreases-loop-task : goal.decreases-loop-task
decreases-loop-task g l = 2 ^ 32 - l.pid
