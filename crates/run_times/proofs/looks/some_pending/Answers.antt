use Rattle.std.proofs.Common.{length, sym, ◌∙◌, arith}
use Rattle.cs_types.specs.History.{fold_of}
use Rattle.cs_laws.proofs.Siblings.{length-fold_of}
use Rattle.run_times.specs.Doing.{is_pending}
use Rattle.run_times.proofs.Below.{some_below, none_below}
use Rattle.run_times.proofs.looks.some_pending.Goals as goal

pub returns-then-is_pending : goal.returns-then-is_pending
returns-then-is_pending g c =
    let opening = g.R.Room.opening c.args.room.now in
    let history = g.R.Room.history c.args.room.now in
    let room = fold_of opening history in
    sym (some_below (is_pending room) (length room.siblings) c.loop-cpu.cpu
    (omega (arith, length-fold_of opening history, c.siblings-cpu-end.ensures.siblings, c.loop-cpu-test.true))
    (sym c.is_pending.ensures ∙ c.if-is_pending.true))

pub returns : goal.returns
returns g c =
    let opening = g.R.Room.opening c.args.room.now in
    let history = g.R.Room.history c.args.room.now in
    let room = fold_of opening history in
    sym (none_below (is_pending room) (length room.siblings)
    (λ k below. c.loop-cpu.invariant k (omega (arith, below, length-fold_of opening history, c.siblings-cpu-end.ensures.siblings, c.loop-cpu-test.false))))
