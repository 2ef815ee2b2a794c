use Rattle.std.proofs.Common.{get_or, ◌∙◌, arith}
use Rattle.cs_types.specs.History.{fold_of}
use Rattle.run_times.proofs.Shown.{rises_of, next_above}
use Rattle.task_times.proofs.Walk.{next_shown, next_row, next_has_room, next_part_fits, rows_start, parts_start, rows_step, parts_step, rows_end, parts_end}
use Rattle.task_times.proofs.sums.add_to_each.Goals as goal

pub loop-task-init : goal.loop-task-init
loop-task-init g c =
    let opening = g.R.Room.opening c.args.room.now in
    let history = g.R.Room.history c.args.room.now in
    let rises = rises_of opening history c.requires.playable in
    record {
      tasks = λ k none few. rows_start (fold_of opening history) c.args.time k (get_or c.args.tasks.now k none) rises;
      cookies = λ k none few. parts_start (fold_of opening history) c.args.time k (get_or c.args.cookies.now k none) rises;
    }

pub doing_of-doing-requires-clause-shown : goal.doing_of-doing-requires-clause-shown
doing_of-doing-requires-clause-shown g c =
    let opening = g.R.Room.opening c.args.room.now in
    let history = g.R.Room.history c.args.room.now in
    next_shown (fold_of opening history) c.loop-task.pid c.in-Some.task (rises_of opening history c.requires.playable) c.in-Some.ensures.view

pub add_to_one-requires-clause-task : goal.add_to_one-requires-clause-task
add_to_one-requires-clause-task g c =
    let opening = g.R.Room.opening c.args.room.now in
    let history = g.R.Room.history c.args.room.now in
    let row = next_row (fold_of opening history) _ _ c.loop-task.pid c.in-Some.task c.requires.rows c.in-Some.ensures.view in
    omega (arith, row.0, c.loop-task.auto.tasks)

pub add_to_one-requires-clause-cookie : goal.add_to_one-requires-clause-cookie
add_to_one-requires-clause-cookie g c =
    let opening = g.R.Room.opening c.args.room.now in
    let history = g.R.Room.history c.args.room.now in
    let row = next_row (fold_of opening history) _ _ c.loop-task.pid c.in-Some.task c.requires.rows c.in-Some.ensures.view in
    omega (arith, row.1, c.loop-task.auto.cookies)

pub add_to_one-requires-clause-lived : goal.add_to_one-requires-clause-lived
add_to_one-requires-clause-lived g c = λ none.
    let opening = g.R.Room.opening c.args.room.now in
    let history = g.R.Room.history c.args.room.now in
    let row = next_row (fold_of opening history) _ _ c.loop-task.pid c.in-Some.task c.requires.rows c.in-Some.ensures.view in
    next_has_room (fold_of opening history) c.loop-task.pid c.in-Some.task (rises_of opening history c.requires.playable) c.in-Some.ensures.view
    c.args.time _ _ _ (c.loop-task.invariant.tasks c.in-Some.task.pid none row.0) (c.requires.lived c.in-Some.task.pid none row.0) _

pub add_to_one-requires-clause-part : goal.add_to_one-requires-clause-part
add_to_one-requires-clause-part g c = λ none.
    let opening = g.R.Room.opening c.args.room.now in
    let history = g.R.Room.history c.args.room.now in
    let row = next_row (fold_of opening history) _ _ c.loop-task.pid c.in-Some.task c.requires.rows c.in-Some.ensures.view in
    next_part_fits (fold_of opening history) c.loop-task.pid c.in-Some.task c.doing_of-doing.result (rises_of opening history c.requires.playable) c.in-Some.ensures.view c.doing_of-doing.ensures
    c.args.time _ _ _ (c.loop-task.invariant.cookies c.in-Some.task.cookie none row.1) (c.requires.had c.in-Some.task.cookie none row.1)

pub loop-task-smaller : goal.loop-task-smaller
loop-task-smaller g c =
    let opening = g.R.Room.opening c.args.room.now in
    let history = g.R.Room.history c.args.room.now in
    omega (arith, next_above (fold_of opening history) c.loop-task.pid c.in-Some.task c.in-Some.ensures.view)

pub loop-task-preserved : goal.loop-task-preserved
loop-task-preserved g c =
    let opening = g.R.Room.opening c.args.room.now in
    let history = g.R.Room.history c.args.room.now in
    let room = fold_of opening history in
    let rises = rises_of opening history c.requires.playable in
    let row = next_row room _ _ c.loop-task.pid c.in-Some.task c.requires.rows c.in-Some.ensures.view in
    record {
      tasks = λ k none few.
          rows_step room c.loop-task.pid c.in-Some.task c.doing_of-doing.result rises c.in-Some.ensures.view c.doing_of-doing.ensures c.args.time c.loop-task.tasks _ k none
          (omega (arith, row.0, c.loop-task.auto.tasks)) (c.add_to_one.ensures.tasks none)
          ∙ c.loop-task.invariant.tasks k none few;
      cookies = λ k none few.
          parts_step room c.loop-task.pid c.in-Some.task c.doing_of-doing.result rises c.in-Some.ensures.view c.doing_of-doing.ensures c.args.time c.loop-task.cookies _ k none
          (omega (arith, row.1, c.loop-task.auto.cookies)) (c.add_to_one.ensures.cookies none)
          ∙ c.loop-task.invariant.cookies k none few;
    }

pub returns-clause-tasks : goal.returns-clause-tasks
returns-clause-tasks g c = λ pid none few.
    let opening = g.R.Room.opening c.args.room.now in
    let history = g.R.Room.history c.args.room.now in
    rows_end (fold_of opening history) c.loop-task.pid c.in_default.ensures.view pid c.args.time _ ∙ c.loop-task.invariant.tasks pid none few

pub returns-clause-cookies : goal.returns-clause-cookies
returns-clause-cookies g c = λ cookie none few.
    let opening = g.R.Room.opening c.args.room.now in
    let history = g.R.Room.history c.args.room.now in
    parts_end (fold_of opening history) c.loop-task.pid c.in_default.ensures.view cookie c.args.time _ ∙ c.loop-task.invariant.cookies cookie none few
