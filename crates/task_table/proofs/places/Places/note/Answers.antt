use Rattle.std.proofs.Common.{ℕ, ◌≡◌, ◌∙◌, length, ap, arith}
use Rattle.bounded_list.proofs.Items.{with_items_is}
use Rattle.task_table.proofs.places.Places.note.Goals as goal

pub bounds-noted-entry : goal.bounds-noted-entry
bounds-noted-entry c = omega (arith, c.loop-entry.auto.noted, ap length c.as_mut_slice-noted.ensures.value, c.args.self.now.all)

pub invariant_of-self : goal.invariant_of-self
invariant_of-self c =
    let places = c.args.self.now in
    let old : ◌≡◌ {A = ℕ} (length places.noted.items) 8192 = places.all in
    let same = c.loop-entry.auto.noted ∙ ap length c.as_mut_slice-noted.ensures.value in
    record {
      all = ap length (with_items_is places.noted c.loop-entry.noted same) ∙ same ∙ old;
      each = places.each;
    }
