use Rattle.std.proofs.Common.{◌≡◌, true, ◌<◌, ◌-◌, List, length, sym, ap, ◌∙◌, subst, arith}
use Rattle.std.specs.Prelude.{All, IfSome, is_some, not}
use Rattle.std.proofs.lemmas.List.{with_items_is}
use Rattle.cs_types.specs.History.{fold_of}
use Rattle.run_times.specs.Times.{advance_of}
use Rattle.task_times.proofs.Summed.{next_pid-le}
use Rattle.wait_times.specs.declared.rows.TaskWaits.{TaskWaits}
use Rattle.wait_times.specs.Waits.{woken_by}
use Rattle.wait_times.specs.Rows.{Waits, CanEnd, AreWaitsSoFar}
use Rattle.wait_times.proofs.SoFar.{rows-can_end, rows-can_end_before, rows-begun, rows-running, rows-advance, each_begun}
use Rattle.wait_times.proofs.Woken.{woken_below}
use Rattle.wait_times.proofs.waits.RunWaits.after.Goals as goal
use Rattle.wait_times.proofs.waits.RunWaits.after.Goals.{then-is_none, else-is_none}

pub begin_woken-requires-clause-row : goal.begin_woken-requires-clause-row
begin_woken-requires-clause-row g c =
    let opening = g.R.Room.opening c.args.room.now in
    let history = g.R.Room.history c.args.room.now in
    let before = c.requires.waits in
    let rows = c.as_mut_slice-rows.ensures.value ∙ ap (λ (w : Waits). w.rows) c.self.view_is in
    subst (λ n. IfSome (woken_by c.args.entry.event c.args.entry.reply) (λ pid. pid < n)) (sym (ap length rows ∙ before.so_far.long))
    (woken_below c.args.self.now.entries opening history before.past c.args.entry c.requires.playable (g.met.R.Room.legal c.args.room.now) before.added c.requires.few)

pub begin_woken-requires-clause-fits : goal.begin_woken-requires-clause-fits
begin_woken-requires-clause-fits g c =
    let opening = g.R.Room.opening c.args.room.now in
    let history = g.R.Room.history c.args.room.now in
    let rows = c.as_mut_slice-rows.ensures.value ∙ ap (λ (w : Waits). w.rows) c.self.view_is in
    let fits = rows-can_end_before opening history c.args.entry c.args.self.now c.requires.events (omega (arith, c.requires.few, c.requires.fits)) c.requires.waits in
    subst (λ n. All (CanEnd n) c.as_mut_slice-rows.result.now) (sym c.clock.ensures) (subst (All (CanEnd (fold_of opening history).clock)) (sym rows) fits)

pub end_running-requires-clause-rows : goal.end_running-requires-clause-rows
end_running-requires-clause-rows g c =
    let opening = g.R.Room.opening c.args.room.now in
    let history = g.R.Room.history c.args.room.now in
    let rows = c.as_mut_slice-rows.ensures.value ∙ ap (λ (w : Waits). w.rows) c.self.view_is in
    omega (
      arith,
      next_pid-le c.args.self.now.entries opening history c.requires.playable c.requires.few,
      ap length rows,
      c.requires.waits.so_far.long,
      c.begin_woken.auto.rows,
    )

pub end_running-requires-clause-fits : goal.end_running-requires-clause-fits
end_running-requires-clause-fits g c =
    let opening = g.R.Room.opening c.args.room.now in
    let history = g.R.Room.history c.args.room.now in
    let rows = c.as_mut_slice-rows.ensures.value ∙ ap (λ (w : Waits). w.rows) c.self.view_is in
    let many : length c.begin_woken.new.rows ≡ length c.args.self.now.rows = omega (arith, ap length rows, c.begin_woken.auto.rows) in
    rows-can_end opening history history c.begin_woken.new.rows c.requires.events (omega (arith, c.requires.few, c.requires.fits)) (omega arith) (omega arith)
    (rows-begun opening history c.args.entry c.args.self.now c.begin_woken.new.rows c.requires.waits many
    (each_begun c.args.entry _ _ _ c.begin_woken.new.rows _ rows c.clock.ensures c.begin_woken.ensures))

pub returns-clause-waits : goal.returns-clause-waits
returns-clause-waits g c =
    let opening = g.R.Room.opening c.args.room.now in
    let history = g.R.Room.history c.args.room.now in
    let entries = c.args.self.now.entries in
    let stored = c.self.inside.rows in
    let made = c.begin_woken.new.rows in
    let rows = c.as_mut_slice-rows.ensures.value ∙ ap (λ (w : Waits). w.rows) c.self.view_is in
    let before = c.requires.waits in
    let many : length made ≡ length c.args.self.now.rows = omega (arith, ap length rows, c.begin_woken.auto.rows) in
    let long : length made ≡ length stored.items = omega (arith, ap length c.as_mut_slice-rows.ensures.value, c.begin_woken.auto.rows) in
    let each = each_begun c.args.entry _ _ _ made _ rows c.clock.ensures c.begin_woken.ensures in
    elim c.if-is_none.branch [
      | then-is_none w ↦
          let new = w.end_running.new.rows in
          let kept = with_items_is stored new (w.end_running.auto.rows ∙ long ∙ sym stored.ok.0) in
          let same : entries ≡ length new - 10000 = omega (arith, many, before.so_far.long, w.end_running.auto.rows) in
          subst (AreWaitsSoFar opening history)
          (ap (λ n. record { entries = n; rows = new }) same ∙ sym (ap (λ (xs : List TaskWaits). record { entries = length xs - 10000; rows = xs }) kept)
          ∙ sym (ap (λ v. record { entries = length v.rows.items - 10000; rows = v.rows.items }) w.self-inside-is))
          (rows-running opening history entries made new (many ∙ before.so_far.long) w.end_running.auto.rows
          (rows-begun opening history c.args.entry c.args.self.now made before many each) w.end_running.ensures)
      | else-is_none w ↦
          let kept = with_items_is stored made (long ∙ sym stored.ok.0) in
          let same : entries ≡ length made - 10000 = omega (arith, many, before.so_far.long) in
          let advances : is_some (advance_of c.args.entry.event) ≡ true = ap is_some (sym c.advance_of.ensures) ∙ c.is_none.ensures ∙ ap not w.if-is_none.false in
          subst (AreWaitsSoFar opening history)
          (ap (λ n. record { entries = n; rows = made }) same ∙ sym (ap (λ (xs : List TaskWaits). record { entries = length xs - 10000; rows = xs }) kept)
          ∙ sym (ap (λ v. record { entries = length v.rows.items - 10000; rows = v.rows.items }) w.self-inside-is))
          (rows-advance opening history c.args.entry c.args.self.now made before advances many each)
    ]
