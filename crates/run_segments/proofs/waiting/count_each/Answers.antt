use Rattle.std.proofs.Common.{arith}
use Rattle.cs_types.specs.History.{fold_of}
use Rattle.run_times.proofs.Shown.{next_above}
use Rattle.run_segments.proofs.waiting.count_each.Goals as goal

pub loop-task-smaller : goal.loop-task-smaller
loop-task-smaller g c =
    let opening = g.R.Room.opening c.args.room.now in
    let history = g.R.Room.history c.args.room.now in
    omega (arith, next_above (fold_of opening history) c.loop-task.pid c.in-Some.task c.in-Some.ensures.view)
