use Rattle.std.proofs.Common.{◌≡◌, ◌-◌, List, length, sym, ap, ◌∙◌, subst, arith}
use Rattle.std.specs.Prelude.{All}
use Rattle.std.proofs.lemmas.List.{with_items_is}
use Rattle.cs_types.specs.History.{fold_of}
use Rattle.wait_times.specs.declared.rows.TaskWaits.{TaskWaits}
use Rattle.wait_times.specs.Rows.{Waits, CanEnd}
use Rattle.wait_times.proofs.SoFar.{rows-can_end_at_end, rows-closed, sums-le, each_ended}
use Rattle.wait_times.proofs.waits.RunWaits.close.Goals as goal

pub end_each-requires : goal.end_each-requires
end_each-requires g c =
    let opening = g.R.Room.opening c.args.room.now in
    let history = g.R.Room.history c.args.room.now in
    let rows = c.as_mut_slice.ensures.value ∙ ap (λ (w : Waits). w.rows) c.self.view_is in
    let fits = rows-can_end_at_end opening history c.args.self.now c.requires.events (omega (arith, c.requires.few, c.requires.fits)) c.requires.waits in
    record { fits = subst (λ n. All (CanEnd n) c.as_mut_slice.result.now) (sym c.clock.ensures) (subst (All (CanEnd (fold_of opening history).clock)) (sym rows) fits) }

pub returns-clause-waits : goal.returns-clause-waits
returns-clause-waits g c =
    let opening = g.R.Room.opening c.args.room.now in
    let history = g.R.Room.history c.args.room.now in
    let inside = c.self.inside in
    let new = c.end_each.new.rows in
    let rows = c.as_mut_slice.ensures.value ∙ ap (λ (w : Waits). w.rows) c.self.view_is in
    let long : length new ≡ length inside.rows.items = omega (arith, ap length c.as_mut_slice.ensures.value, c.end_each.auto.rows) in
    let many : length new ≡ length c.args.self.now.rows = omega (arith, ap length rows, c.end_each.auto.rows) in
    let entries : length new - 10000 ≡ c.args.self.now.entries = omega (arith, many, c.requires.waits.so_far.long) in
    ap (λ (xs : List TaskWaits). record { entries = length xs - 10000; rows = xs }) (with_items_is inside.rows new (long ∙ sym inside.rows.ok.0))
    ∙ ap (λ n. record { entries = n; rows = new }) entries
    ∙ rows-closed opening history c.args.self.now new c.requires.waits many (each_ended _ _ _ new _ rows c.clock.ensures c.end_each.ensures)

pub returns-clause-waited : goal.returns-clause-waited
returns-clause-waited g c =
    sums-le c.args.self.now.entries (g.R.Room.opening c.args.room.now) (g.R.Room.history c.args.room.now) _ c.requires.playable (g.met.R.Room.legal c.args.room.now)
    (ap (λ (w : Waits). w.rows) (returns-clause-waits g c))
