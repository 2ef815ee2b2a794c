use Rattle.std.proofs.Common.{◌≡◌, true, sym, ◌∙◌}
use Rattle.cs_types.specs.Room.{is_online}
use Rattle.cs_types.specs.History.{fold_of, moment_of}
use Rattle.run_times.specs.declared.by.By.TheVariants.{Cookie}
use Rattle.run_times.proofs.Shown.{rises_of, shown_cpu}
use Rattle.run_times.proofs.Busy.{IsQueued, runs_idle, does_idle}
use Rattle.run_segments.proofs.Runs.{pid_shown, pid_idle}
use Rattle.run_segments.proofs.now.now_of.Goals as goal

pub returns-in-Some-cookie_run-clause-pid : goal.returns-in-Some-cookie_run-clause-pid
returns-in-Some-cookie_run-clause-pid g c =
    pid_shown (moment_of (g.R.Room.opening c.args.room.now) (g.R.Room.history c.args.room.now)) c.args.cpu c.in-Some.view c.in-Some.ensures.view c.if-view.true

pub returns-in-None-clause-pid : goal.returns-in-None-clause-pid
returns-in-None-clause-pid g c =
    let opening = g.R.Room.opening c.args.room.now in
    let history = g.R.Room.history c.args.room.now in
    let room = fold_of opening history in
    let cpu = c.args.cpu in
    let queued : IsQueued room cpu = (g.met.R.Room.consistent c.args.room.now c.requires.playable c.requires.events cpu c.requires.cpu).running_is_queued in
    let up : is_online room cpu ≡ true = sym (shown_cpu (moment_of opening history) cpu c.in-Some.view c.in-Some.ensures.view).0 ∙ c.if-view.true in
    sym (pid_idle room cpu (runs_idle Cookie room cpu (rises_of opening history c.requires.playable) queued up c.in-None.ensures))

pub returns-in-None-clause-doing : goal.returns-in-None-clause-doing
returns-in-None-clause-doing g c =
    let opening = g.R.Room.opening c.args.room.now in
    let history = g.R.Room.history c.args.room.now in
    let room = fold_of opening history in
    let cpu = c.args.cpu in
    let queued : IsQueued room cpu = (g.met.R.Room.consistent c.args.room.now c.requires.playable c.requires.events cpu c.requires.cpu).running_is_queued in
    let up : is_online room cpu ≡ true = sym (shown_cpu (moment_of opening history) cpu c.in-Some.view c.in-Some.ensures.view).0 ∙ c.if-view.true in
    c.idling.ensures.doing ∙ does_idle room cpu (rises_of opening history c.requires.playable) queued up c.in-None.ensures
