use Rattle.std.proofs.Common.{◌<◌, length, set, ap, ◌∙◌, refl, arith}
use Rattle.std.proofs.lemmas.List.{get_or_default}
use Rattle.cs_types.specs.History.{fold_of}
use Rattle.task_times.specs.TaskSums.{with_charge}
use Rattle.task_times.proofs.Charged.{ended_row, ended_step, ended_end}
use Rattle.task_times.proofs.sums.charge_ended.Goals as goal

pub loop-end-init : goal.loop-end-init
loop-end-init g c = record { charged = λ k none few. refl; place = omega arith }

pub bounds-tasks-end : goal.bounds-tasks-end
bounds-tasks-end g c =
    let room = fold_of (g.R.Room.opening c.args.room.now) (g.R.Room.history c.args.room.now) in
    omega (arith, (ended_row room c.loop-end.place _ c.in-Some.end c.requires.rows c.in-Some.ensures).0, c.loop-end.auto.tasks)

pub overflow_add-place : goal.overflow_add-place
overflow_add-place g c =
    let room = fold_of (g.R.Room.opening c.args.room.now) (g.R.Room.history c.args.room.now) in
    omega (arith, (ended_row room c.loop-end.place _ c.in-Some.end c.requires.rows c.in-Some.ensures).1, c.requires.few)

pub loop-end-smaller : goal.loop-end-smaller
loop-end-smaller g c =
    let room = fold_of (g.R.Room.opening c.args.room.now) (g.R.Room.history c.args.room.now) in
    omega (arith, (ended_row room c.loop-end.place _ c.in-Some.end c.requires.rows c.in-Some.ensures).1, c.requires.few)

pub loop-end-preserved : goal.loop-end-preserved
loop-end-preserved g c =
    let room = fold_of (g.R.Room.opening c.args.room.now) (g.R.Room.history c.args.room.now) in
    let row = ended_row room c.loop-end.place _ c.in-Some.end c.requires.rows c.in-Some.ensures in
    let below : c.in-Some.end.pid < length c.loop-end.tasks = omega (arith, row.0, c.loop-end.auto.tasks) in
    record {
      charged = λ k none few.
          ended_step room c.loop-end.place c.in-Some.end c.in-Some.ensures c.loop-end.tasks _ k none below
          (ap (set c.loop-end.tasks c.in-Some.end.pid) (c.charge.ensures ∙ ap (with_charge c.in-Some.end.forced) (get_or_default c.loop-end.tasks c.in-Some.end.pid _ none below)))
          ∙ c.loop-end.invariant.charged k none few;
      place = omega (arith, row.1);
    }

pub returns : goal.returns
returns g c = λ pid none few.
    let room = fold_of (g.R.Room.opening c.args.room.now) (g.R.Room.history c.args.room.now) in
    ended_end room c.loop-end.place c.in_default.ensures pid _ ∙ c.loop-end.invariant.charged pid none few
