use Rattle.std.proofs.Common.{◌<◌, Bool, length, get_or, ltb, refl, sym, ap, ◌∙◌, arith}
use Rattle.std.specs.Prelude.{◌||◌}
use Rattle.cs_types.specs.History.{fold_of}
use Rattle.run_times.proofs.Shown.{rises_of, next_above, queued_above}
use Rattle.run_segments.proofs.Marked.{unmarked, marked_more, marked_all}
use Rattle.run_segments.proofs.queued.mark_queued.Goals as goal

pub loop-task-init : goal.loop-task-init
loop-task-init g c = λ cpu none few.
    let opening = g.R.Room.opening c.args.room.now in
    let history = g.R.Room.history c.args.room.now in
    unmarked (fold_of opening history) cpu (get_or c.fill.new.self cpu none) (rises_of opening history c.requires)
    (c.fill.ensures.clones cpu none (omega (arith, few, c.fill.ensures.len)) refl)

pub loop-task-smaller : goal.loop-task-smaller
loop-task-smaller g c =
    let opening = g.R.Room.opening c.args.room.now in
    let history = g.R.Room.history c.args.room.now in
    omega (arith, next_above (fold_of opening history) c.loop-task.pid c.in-Some.task c.in-Some.ensures.view)

pub loop-task-preserved : goal.loop-task-preserved
loop-task-preserved g c = λ cpu none few.
    let opening = g.R.Room.opening c.args.room.now in
    let history = g.R.Room.history c.args.room.now in
    let before : cpu < length c.loop-task.marks = omega (arith, few, c.mark_home.auto.marks) in
    ap (λ (b : Bool). b || ltb 0 (length (queued_above (fold_of opening history) cpu c.in-Some.task.pid))) (c.mark_home.ensures cpu none before)
    ∙ sym (marked_more (fold_of opening history) cpu c.loop-task.pid c.in-Some.task (get_or c.loop-task.marks cpu none) (rises_of opening history c.requires) c.in-Some.ensures.view)
    ∙ c.loop-task.invariant cpu none before

pub returns : goal.returns
returns g c = λ cpu none few.
    let opening = g.R.Room.opening c.args.room.now in
    let history = g.R.Room.history c.args.room.now in
    let before : cpu < length c.loop-task.marks = omega (arith, few, c.fill.auto.self, c.loop-task.auto.marks) in
    sym (marked_all (fold_of opening history) cpu c.loop-task.pid (get_or c.loop-task.marks cpu none) c.in_default.ensures.view)
    ∙ c.loop-task.invariant cpu none before
