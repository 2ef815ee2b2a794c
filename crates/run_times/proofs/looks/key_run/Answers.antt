use Rattle.cs_types.specs.History.{moment_of}
use Rattle.run_times.proofs.Shown.{rises_of, key_online}
use Rattle.run_times.proofs.looks.key_run.Goals as goal

pub returns-in-Some-task_of : goal.returns-in-Some-task_of
returns-in-Some-task_of g c =
    let opening = g.R.Room.opening c.args.room.now in
    let history = g.R.Room.history c.args.room.now in
    key_online c.args.by (moment_of opening history) c.args.cpu c.key.result c.in-Some.view c.in-Some-task_of.task (rises_of opening history c.requires)
    c.in-Some.ensures.view c.if-view.true c.in-Some-task_of.ensures c.key.ensures
