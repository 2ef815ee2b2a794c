use Rattle.std.proofs.Common.{Some, None, arith}
use Rattle.cs_types.specs.History.{moment_of}
use Rattle.cs_laws.proofs.Siblings.{length-fold_of}
use Rattle.run_times.proofs.Shown.{rises_of}
use Rattle.task_times.proofs.Running.{running_shown}
use Rattle.task_times.proofs.looks.is_running.Goals as goal

pub returns-in-Some : goal.returns-in-Some
returns-in-Some g c =
    let opening = g.R.Room.opening c.args.room.now in
    let history = g.R.Room.history c.args.room.now in
    running_shown (moment_of opening history) c.args.task (Some c.in-Some.home) (rises_of opening history c.requires.playable) c.requires.shown
    (λ cpu below. (g.met.R.Room.consistent c.args.room.now c.requires.playable c.requires.events cpu (omega (arith, below, length-fold_of opening history))).running_is_queued)
    c.in-Some.ensures.view

pub returns-in-None : goal.returns-in-None
returns-in-None g c =
    let opening = g.R.Room.opening c.args.room.now in
    let history = g.R.Room.history c.args.room.now in
    running_shown (moment_of opening history) c.args.task None (rises_of opening history c.requires.playable) c.requires.shown
    (λ cpu below. (g.met.R.Room.consistent c.args.room.now c.requires.playable c.requires.events cpu (omega (arith, below, length-fold_of opening history))).running_is_queued)
    c.in-None.ensures.view
