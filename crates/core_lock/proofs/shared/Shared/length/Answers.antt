use Rattle.std.proofs.Common.{rules, ◌+◌, ◌≤◌, length, sym, ap, subst, ◌∙◌}
use mathlib.Core.Option.{none}
use Rattle.atomic_table.specs.Table.{Me, Allows, step}
use Rattle.core_lock.specs.Board.{IsKept, noted}
use Rattle.core_lock.specs.Passes.{PassState, lock_of, pass_of}
use Rattle.core_lock.proofs.Reading.{notes}
use Rattle.core_lock.proofs.Going.{state_is, same_table}
use Rattle.core_lock.proofs.shared.Shared.length.Goals as goal

pub load-requires : goal.load-requires
load-requires g c =
    let top = c.self.inside.board.shared in
    let seat = c.pass.inside.seat in
    let p = c.pass.invariant in
    let is = state_is g.R.Room.opening g.R.Room.spare seat.table_id seat.me p.begun p.has c.args.pass.now p.idle c.pass.view_is in (
      same_table g.R.Room.opening g.R.Room.spare seat.table_id top.table_id p.begun top.key.value p.has c.args.pass.now c.args.self.now is c.self.view_is c.requires.lock,
      search rules,
      subst (λ (m : Me _ _). Allows (IsKept g.R.Room.opening g.R.Room.history g.R.Room.spare top.key.value) top.table_id.slots seat.id m 1 (λ n. n) (noted (step top.table_id.slots 1 0 0 none) m)) (sym p.idle)
          (notes g.R.Room.opening g.R.Room.history g.R.Room.spare top.key.value top.table_id.slots seat.id p.begun p.has),
    )

pub invariant_of-pass : goal.invariant_of-pass
invariant_of-pass g c =
    let p = c.pass.invariant in
    let read = c.load.ensures.2 p.begun p.has p.idle in
    record {
      begun = p.begun;
      has = record p.has { note = c.load.result; readings = p.has.readings + 1 };
      idle = read.0;
      listed = p.listed;
      counted = p.counted;
      within = p.within;
      fits = p.fits;
      fair = p.fair;
      legal = p.legal;
      own = p.own;
      first_steps = p.first_steps;
    }

pub returns-clause-seen : goal.returns-clause-seen
returns-clause-seen g c =
    let seat = c.pass.inside.seat in
    let p = c.pass.invariant in
    let is = state_is g.R.Room.opening g.R.Room.spare seat.table_id seat.me p.begun p.has c.args.pass.now p.idle c.pass.view_is in
    subst (λ (s : PassState). length s.progress.seen ≤ c.load.result) (sym is) (c.load.ensures.2 p.begun p.has p.idle).1

pub returns-clause-rises : goal.returns-clause-rises
returns-clause-rises g c =
    let seat = c.pass.inside.seat in
    let p = c.pass.invariant in
    let is = state_is g.R.Room.opening g.R.Room.spare seat.table_id seat.me p.begun p.has c.args.pass.now p.idle c.pass.view_is in
    subst (λ (s : PassState). s.progress.note ≤ c.load.result) (sym is) (c.load.ensures.2 p.begun p.has p.idle).2

pub returns-clause-noted : goal.returns-clause-noted
returns-clause-noted g c =
    let seat = c.pass.inside.seat in
    let p = c.pass.invariant in
    let is = state_is g.R.Room.opening g.R.Room.spare seat.table_id seat.me p.begun p.has c.args.pass.now p.idle c.pass.view_is in
    let read = c.load.ensures.2 p.begun p.has p.idle in
    let same = c.load.ensures.0 in
    let with_note : PassState → PassState = λ s. record s { progress = record s.progress { note = c.load.result; readings = s.progress.readings + 1 } } in
    ap (λ (m : Me _ _). pass_of g.R.Room.opening g.R.Room.spare c.load.new.seat.table_id m.0) read.0
    ∙ (ap (λ table. let s : PassState = record { lock = lock_of g.R.Room.opening g.R.Room.spare table p.begun; progress = record p.has { note = c.load.result; readings = p.has.readings + 1 } } in s) same
    ∙ ap with_note (sym is))
