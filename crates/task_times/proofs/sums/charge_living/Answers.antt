use Rattle.std.proofs.Common.{◌<◌, length, get_or, set, ap, ◌∙◌, arith}
use Rattle.std.proofs.lemmas.List.{get_or_default}
use Rattle.cs_types.specs.History.{fold_of}
use Rattle.run_times.proofs.Shown.{rises_of, next_above}
use Rattle.task_times.specs.declared.times.TaskTimes.{TaskTimes}
use Rattle.task_times.specs.TaskSums.{counted_for, with_charge}
use Rattle.task_times.proofs.Walk.{next_row}
use Rattle.task_times.proofs.Charged.{living_start, living_step, living_end}
use Rattle.task_times.proofs.sums.charge_living.Goals as goal

pub loop-task-init : goal.loop-task-init
loop-task-init g c = λ k none few.
    let opening = g.R.Room.opening c.args.room.now in
    let history = g.R.Room.history c.args.room.now in
    living_start (fold_of opening history) k (get_or c.args.tasks.now k none) (rises_of opening history c.requires.playable)

pub bounds-tasks-task : goal.bounds-tasks-task
bounds-tasks-task g c =
    let opening = g.R.Room.opening c.args.room.now in
    let history = g.R.Room.history c.args.room.now in
    omega (arith, (next_row (fold_of opening history) _ _ c.loop-task.pid c.in-Some.task c.requires.rows c.in-Some.ensures.view).0, c.loop-task.auto.tasks)

pub charge_for-requires : goal.charge_for-requires
charge_for-requires g c =
    let opening = g.R.Room.opening c.args.room.now in
    let history = g.R.Room.history c.args.room.now in
    (next_row (fold_of opening history) _ _ c.loop-task.pid c.in-Some.task c.requires.rows c.in-Some.ensures.view).1

pub loop-task-smaller : goal.loop-task-smaller
loop-task-smaller g c =
    let opening = g.R.Room.opening c.args.room.now in
    let history = g.R.Room.history c.args.room.now in
    omega (arith, next_above (fold_of opening history) c.loop-task.pid c.in-Some.task c.in-Some.ensures.view)

pub loop-task-preserved : goal.loop-task-preserved
loop-task-preserved g c = λ k none few.
    let opening = g.R.Room.opening c.args.room.now in
    let history = g.R.Room.history c.args.room.now in
    let row = next_row (fold_of opening history) _ _ c.loop-task.pid c.in-Some.task c.requires.rows c.in-Some.ensures.view in
    let below : c.in-Some.task.pid < length c.loop-task.tasks = omega (arith, row.0, c.loop-task.auto.tasks) in
    living_step (fold_of opening history) c.loop-task.pid c.in-Some.task (rises_of opening history c.requires.playable) c.in-Some.ensures.view c.loop-task.tasks _ k none
    below (ap (set c.loop-task.tasks c.in-Some.task.pid) (c.charge_for.ensures ∙ ap (λ (row : TaskTimes). with_charge c.in-Some.task.forced (counted_for c.in-Some.task.cookie row)) (get_or_default c.loop-task.tasks c.in-Some.task.pid _ none below)))
    ∙ c.loop-task.invariant k none few

pub returns : goal.returns
returns g c = λ pid none few.
    let opening = g.R.Room.opening c.args.room.now in
    let history = g.R.Room.history c.args.room.now in
    living_end (fold_of opening history) c.loop-task.pid c.in_default.ensures.view pid _ ∙ c.loop-task.invariant pid none few
