use Rattle.std.proofs.Common.{◌≡◌, ◌-◌, ◌^◌}
use Rattle.cs_types.specs.Room.{queued_on}
use Rattle.cs_types.specs.History.{fold_of}
use Rattle.run_times.proofs.Shown.{queued_above}
use Rattle.run_times.proofs.looks.has_queued.Given as goal

abbrev pub invariant-loop-task : goal.invariant-loop-task
invariant-loop-task g l =
    let room = fold_of (g.R.Room.opening l.room) (g.R.Room.history l.room) in
    queued_above room l.cpu l.pid ≡ queued_on room l.cpu

abbrev pub decreases-loop-task : goal.decreases-loop-task
decreases-loop-task g l = 2 ^ 32 - l.pid
