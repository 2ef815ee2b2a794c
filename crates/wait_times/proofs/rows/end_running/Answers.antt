use Rattle.std.proofs.Common.{◌≡◌, ◌<◌, List, [], length, set, get_or, sym, ap, ◌∙◌, subst, arith}
use Rattle.std.specs.Prelude.{All}
use Rattle.std.proofs.lemmas.List.{get_or_default, take_all}
use Rattle.cs_types.specs.Room.{SiblingState}
use Rattle.cs_types.specs.History.{moment_of, fold_of}
use Rattle.cs_laws.proofs.Siblings.{length-fold_of}
use Rattle.run_times.proofs.Shown.{rises_of}
use Rattle.run_times.proofs.Busy.{IsQueued}
use Rattle.wait_times.specs.declared.rows.TaskWaits.{TaskWaits}
use Rattle.wait_times.specs.Rows.{row_of, CanEnd, ended, ended_where}
use Rattle.wait_times.proofs.Running.{runs_among, runs_below, shown_some, shown_idle, shown_there, ended-idle, ended-running, can_end-running}
use Rattle.wait_times.proofs.rows.end_running.Goals as goal
use Rattle.wait_times.proofs.rows.end_running.Goals.{in-Some+then-view-gt0, in-Some+else-view-gt0, in_default}

pub bounds-rows-view : goal.bounds-rows-view
bounds-rows-view g c =
    let opening = g.R.Room.opening c.args.room.now in
    let history = g.R.Room.history c.args.room.now in
    let room = fold_of opening history in
    let cpu = c.loop-cpu.cpu in
    let few : cpu < opening.scenario.siblings = omega (arith, c.siblings-cpu-end.ensures.siblings, c.loop-cpu-test.true) in
    let queued : IsQueued room cpu = (g.met.R.Room.consistent c.args.room.now c.requires.playable c.requires.events cpu few).running_is_queued in
    let is = shown_some (moment_of opening history) cpu c.in-Some.view c.in-Some.ensures.view c.if-view-gt0.true in
    omega (arith, runs_below room cpu c.in-Some.view.run (rises_of opening history c.requires.playable) queued is, c.requires.rows, c.loop-cpu.auto.rows)

pub loop-cpu-preserved : goal.loop-cpu-preserved
loop-cpu-preserved g c =
    let opening = g.R.Room.opening c.args.room.now in
    let history = g.R.Room.history c.args.room.now in
    let moment = moment_of opening history in
    let room = moment.room in
    let cpu = c.loop-cpu.cpu in
    let rows = c.loop-cpu.rows in
    let few : cpu < opening.scenario.siblings = omega (arith, c.siblings-cpu-end.ensures.siblings, c.loop-cpu-test.true) in
    let below : cpu < length room.siblings = omega (arith, few, length-fold_of opening history) in
    let rises = rises_of opening history c.requires.playable in
    let queued : IsQueued room cpu = (g.met.R.Room.consistent c.args.room.now c.requires.playable c.requires.events cpu few).running_is_queued in
    elim c.match-cpu.branch [
      | in-Some+then-view-gt0 w ↦
          let own = w.in-Some.view.run in
          let is = shown_some moment cpu w.in-Some.view w.in-Some.ensures.view w.if-view-gt0.true in
          let low : own < length rows = omega (arith, runs_below room cpu own rises queued is, c.requires.rows, c.loop-cpu.auto.rows) in
          let clock = c.clock-clock.ensures in
          let made : (none : TaskWaits) → c.match-cpu.rows ≡ set rows own (ended room.clock (get_or rows own none)) =
          λ none. w.rows-is ∙ ap (set rows own) (w.end.ensures ∙ ap (ended c.clock-clock.result) (get_or_default rows own _ none low) ∙ ap (λ n. ended n (get_or rows own none)) clock) in
          record {
            ended = λ k none less. ended-running room cpu own room.clock c.args.rows.now rows c.match-cpu.rows below is low made k none (c.loop-cpu.invariant.ended k none less);
            fits = can_end-running own room.clock rows c.match-cpu.rows (get_or rows own (row_of [])) (made (row_of [])) c.loop-cpu.invariant.fits;
          }
      | in-Some+else-view-gt0 w ↦
          let idle = shown_idle moment cpu w.in-Some.view rises queued w.in-Some.ensures.view (omega (arith, w.if-view-gt0.false)) in
          record {
            ended = λ k none less. ap (λ (xs : List TaskWaits). get_or xs k none) w.rows-is ∙ c.loop-cpu.invariant.ended k none less
                ∙ ended-idle room cpu k room.clock (get_or c.args.rows.now k none) below idle;
            fits = subst (All (CanEnd room.clock)) (sym w.rows-is) c.loop-cpu.invariant.fits;
          }
      | in_default w ↦ absurd (shown_there moment cpu below w.in_default.ensures.view)
    ]

pub returns : goal.returns
returns g c = λ pid none few.
    let opening = g.R.Room.opening c.args.room.now in
    let history = g.R.Room.history c.args.room.now in
    let room = fold_of opening history in
    let all = take_all c.loop-cpu.cpu room.siblings (omega (arith, length-fold_of opening history, c.siblings-cpu-end.ensures.siblings, c.loop-cpu-test.false)) in
    c.loop-cpu.invariant.ended pid none few ∙ ap (λ (siblings : List SiblingState). ended_where (runs_among siblings pid) room.clock (get_or c.args.rows.now pid none)) all
