use Rattle.std.proofs.Common.{◌≡◌, ◌<◌, length, get_or, refl, sym, ap, ◌∙◌, subst, arith}
use Rattle.std.proofs.lemmas.List.{get_or_read_under}
use Rattle.pair_times.specs.declared.rows.PairTime.{PairTime}
use Rattle.pair_times.specs.Pairs.{AreRows}
use Rattle.pair_times.proofs.Order.{rows_inserted}
use Rattle.pair_times.proofs.rows.add.Goals as goal
use Rattle.pair_times.proofs.rows.add.Goals.{else-position-len-via-then-position-len+then-index-low+else-index-high, else-position-len-via-then-position-len+else-index-low, else-position-len-via-else-position-len}

pub returns-else-position-len-clause-rows : goal.returns-else-position-len-clause-rows
returns-else-position-len-clause-rows c =
    let rows = c.args.rows.now.items in
    let position = c.position_of-position.result in
    let many : length rows ≡ c.args.rows.now.len = omega (arith, c.args.rows.now.ok.0) in
    let row : PairTime = record { low = c.args.low; high = c.args.high; time = c.args.time } in
    let other : (d : PairTime) → position < length rows → ((get_or rows position d).low ≡ c.args.low) × ((get_or rows position d).high ≡ c.args.high) → ⊥ =
    λ d few same. elim c.else-position-len.branch [
      | else-position-len-via-then-position-len+then-index-low+else-index-high w ↦
          w.if-index-high.false (ap (λ (r : PairTime). r.high) (get_or_read_under rows position _ _ d w.index-then-index-low.ensures few refl) ∙ same.1)
      | else-position-len-via-then-position-len+else-index-low w ↦
          w.if-index-low.false (ap (λ (r : PairTime). r.low) (get_or_read_under rows position _ _ d w.index.ensures few refl) ∙ same.0)
      | else-position-len-via-else-position-len w ↦ absurd (omega (arith, w.if-position-len.false, c.len.ensures, few, many))
    ] in
    subst AreRows (sym (rw c.unwrap.ensures at c.insert.ensures.items))
    (rows_inserted rows position row c.requires.rows (omega (arith, rw c.deref.ensures.value at c.position_of-position.ensures.bound))
    (rw c.deref.ensures.value at c.position_of-position.ensures.point) other c.requires.distinct c.requires.some)
