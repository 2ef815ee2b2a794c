use Rattle.std.proofs.Common.{ℕ, ◌<◌, ◌≡◌, Option, Some, sym, subst, arith}
use Rattle.std.specs.Prelude.{IfSome}
use Rattle.cs_types.specs.History.{fold_of}
use Rattle.cs_laws.proofs.Siblings.{length-fold_of}
use Rattle.run_times.specs.Doing.{key_run}
use Rattle.run_times.proofs.Shown.{rises_of}
use Rattle.run_times.proofs.Busy.{IsQueued, busy_key}
use Rattle.run_times.proofs.Exposed.{apart_by, none_apart}
use Rattle.run_times.proofs.looks.some_apart.Goals as goal

pub returns-in-Some-2 : goal.returns-in-Some-2
returns-in-Some-2 g c =
    let opening = g.R.Room.opening c.args.room.now in
    let history = g.R.Room.history c.args.room.now in
    let room = fold_of opening history in
    let other : (k : ℕ) × (k < c.loop-cpu.cpu) × (key_run c.args.by room k ≡ Some c.in-Some-shared.other) =
    subst (λ (o : Option ℕ). IfSome o (λ key. (k : ℕ) × (k < c.loop-cpu.cpu) × (key_run c.args.by room k ≡ Some key))) c.in-Some-shared.is c.loop-cpu.invariant.shared in
    sym (apart_by c.args.by room other.0 c.loop-cpu.cpu c.in-Some-shared.other c.in-Some.key
    (omega (arith, other.1, length-fold_of opening history, c.siblings-cpu-end.ensures.siblings, c.loop-cpu-test.true))
    (omega (arith, length-fold_of opening history, c.siblings-cpu-end.ensures.siblings, c.loop-cpu-test.true))
    other.2 (sym c.in-Some.ensures) c.if-other-key.false)

pub returns : goal.returns
returns g c =
    let opening = g.R.Room.opening c.args.room.now in
    let history = g.R.Room.history c.args.room.now in
    let room = fold_of opening history in
    sym (none_apart c.args.by room c.loop-cpu.shared
    (λ k below busy.
    let few : k < opening.scenario.siblings = omega (arith, below, length-fold_of opening history) in
    let queued : IsQueued room k = (g.met.R.Room.consistent c.args.room.now c.requires.playable c.requires.events k few).running_is_queued in
    let own = busy_key c.args.by room k (rises_of opening history c.requires.playable) queued busy in (
      own.0,
      own.1,
      subst (λ (o : Option ℕ). IfSome o (λ key. c.loop-cpu.shared ≡ Some key)) own.1
          (c.loop-cpu.invariant.alike k (omega (arith, few, c.siblings-cpu-end.ensures.siblings, c.loop-cpu-test.false))),
    )))
