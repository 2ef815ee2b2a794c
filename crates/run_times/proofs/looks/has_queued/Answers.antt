use Rattle.std.proofs.Common.{◌≡◌, false, ◌∙◌, arith}
use Rattle.std.specs.Prelude.{◌==◌, ◌&&◌}
use Rattle.std.proofs.lemmas.Bool.{and_left, and_right, ne_eqb}
use Rattle.cs_types.specs.History.{fold_of}
use Rattle.run_times.proofs.Shown.{rises_of, queued_start, queued_here, queued_past, queued_none, next_above}
use Rattle.run_times.proofs.looks.has_queued.Goals as goal
use Rattle.run_times.proofs.looks.has_queued.Goals.{else-task-via-then-task+else-task-cpu, else-task-via-else-task}

pub loop-task-init : goal.loop-task-init
loop-task-init g c =
    let opening = g.R.Room.opening c.args.room.now in
    let history = g.R.Room.history c.args.room.now in
    queued_start (fold_of opening history) c.args.cpu (rises_of opening history c.requires)

pub returns-then-task-cpu : goal.returns-then-task-cpu
returns-then-task-cpu g c =
    let opening = g.R.Room.opening c.args.room.now in
    let history = g.R.Room.history c.args.room.now in
    queued_here (fold_of opening history) c.args.cpu c.loop-task.pid c.in-Some.task (rises_of opening history c.requires) c.loop-task.invariant c.in-Some.ensures.view c.if-task.true c.if-task-cpu.true

pub loop-task-smaller : goal.loop-task-smaller
loop-task-smaller g c =
    let opening = g.R.Room.opening c.args.room.now in
    let history = g.R.Room.history c.args.room.now in
    omega (arith, next_above (fold_of opening history) c.loop-task.pid c.in-Some.task c.in-Some.ensures.view)

pub loop-task-preserved : goal.loop-task-preserved
loop-task-preserved g c =
    let opening = g.R.Room.opening c.args.room.now in
    let history = g.R.Room.history c.args.room.now in
    let view = c.in-Some.task in
    let off : (view.queued && (view.cpu == c.args.cpu)) ≡ false =
    elim c.else-task.branch [
      | else-task-via-then-task+else-task-cpu w ↦ and_right view.queued (view.cpu == c.args.cpu) (ne_eqb view.cpu c.args.cpu w.if-task-cpu.false)
      | else-task-via-else-task w ↦ and_left view.queued (view.cpu == c.args.cpu) w.if-task.false
    ] in
    queued_past (fold_of opening history) c.args.cpu c.loop-task.pid view (rises_of opening history c.requires) c.in-Some.ensures.view off ∙ c.loop-task.invariant

pub returns : goal.returns
returns g c =
    let opening = g.R.Room.opening c.args.room.now in
    let history = g.R.Room.history c.args.room.now in
    queued_none (fold_of opening history) c.args.cpu c.loop-task.pid c.loop-task.invariant c.in_default.ensures.view
