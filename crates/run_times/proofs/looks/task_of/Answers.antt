use Rattle.std.proofs.Common.{sym, ap, ◌∙◌, arith}
use Rattle.cs_types.specs.History.{fold_of}
use Rattle.run_times.proofs.Shown.{rises_of, shown_at, shown_zero, shown_here, shown_other, shown_none}
use Rattle.run_times.proofs.looks.task_of.Goals as goal

pub returns-then-pid-eq0 : goal.returns-then-pid-eq0
returns-then-pid-eq0 g c =
    let opening = g.R.Room.opening c.args.room.now in
    let history = g.R.Room.history c.args.room.now in
    let room = fold_of opening history in
    shown_zero room (rises_of opening history c.requires) ∙ ap (shown_at room) (sym c.if-pid-eq0.true)

pub returns-in-Some : goal.returns-in-Some
returns-in-Some g c =
    let opening = g.R.Room.opening c.args.room.now in
    let history = g.R.Room.history c.args.room.now in
    shown_here (fold_of opening history) c.args.pid c.in-Some.task (rises_of opening history c.requires) (omega arith) c.in-Some.ensures.view c.if-task-pid.true

pub returns-in-Some-2 : goal.returns-in-Some-2
returns-in-Some-2 g c =
    let opening = g.R.Room.opening c.args.room.now in
    let history = g.R.Room.history c.args.room.now in
    shown_other (fold_of opening history) c.args.pid c.in-Some.task (rises_of opening history c.requires) (omega arith) c.in-Some.ensures.view c.if-task-pid.false

pub returns-in-None : goal.returns-in-None
returns-in-None g c =
    let opening = g.R.Room.opening c.args.room.now in
    let history = g.R.Room.history c.args.room.now in
    shown_none (fold_of opening history) c.args.pid (rises_of opening history c.requires) (omega arith) c.in-None.ensures.view
