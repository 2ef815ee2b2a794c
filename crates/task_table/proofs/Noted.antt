-- Noted: a slot that has a task is that of an entry, since there are as many entries as slots that have one.
use Rattle.std.proofs.Common.{◌≡◌, ℕ, zero, suc, ◌+◌, ◌≤◌, cond, List, [], ◌∷◌, length, get_or, set, Some, None, is_some, refl, sym, ap, ◌∙◌, subst, arith, inl, inr}
use Rattle.std.proofs.lemmas.Bool.{cases_eq}
use Rattle.std.proofs.lemmas.List.Sums.{sum_by-set}
use Rattle.task_table.specs.Slots.{Slotted, get, filled_count, Updates}
use Rattle.task_table.proofs.Writes.{filled_within, Updates-set}
use Rattle.cs_types.specs.declared.task.Task.{Task}
use Rattle.task_table.specs.declared.entry.Entry.{Entry}
use Rattle.task_table.specs.Table.{pid_of, RisesFrom}
use Rattle.task_table.specs.Positions.{IsAt}
use Rattle.task_table.specs.Inside.{Holds, IsSlotOf}
use Rattle.task_table.proofs.Held.{above_elsewhere, same_elsewhere}

-- ---- a slot that is emptied

emptied : Slotted → ℕ → Slotted
emptied slots key = record slots { slots = set slots.slots key None }

empties : (slots : Slotted) (key : ℕ) (task : Task) → get slots key ≡ Some task → Updates slots (emptied slots key) key None
unfolding emptied
empties slots key task has = Updates-set slots (emptied slots key) key None (filled_within slots key (rw has refl)) refl

one_less : (slots : Slotted) (key : ℕ) (task : Task) → get slots key ≡ Some task → filled_count (emptied slots key) + 1 ≡ filled_count slots
unfolding emptied
one_less slots key task has =
    let inside = filled_within slots key (rw has refl) in
    let counts = sum_by-set (λ slot. cond (is_some slot) 1 0) slots.slots key None None inside in
    let one : ◌≡◌ {A = ℕ} (cond (is_some (get_or slots.slots key None)) 1 0) 1 = rw has refl in
    omega (arith, counts, one)

-- ---- where its task stands

-- a task that stands among those that rise from a number has that pid or a higher one
at_low : (low pid position : ℕ) (tasks : List Task) → RisesFrom low tasks → IsAt pid position tasks → low ≤ pid
at_low low pid position [] rises at = absurd at
at_low low pid zero (task ∷ rest) rises at = omega (arith, rises.0, at.0)
at_low low pid (suc position) (task ∷ rest) rises at = omega (arith, rises.0, at.0)

-- a slot that has a task is that of the entry with its pid
pub stands : (slots : Slotted) (low : ℕ) (entries : List Entry) (tasks : List Task) → Holds slots entries tasks → RisesFrom low tasks → filled_count slots ≡ length entries →
    (key : ℕ) (task : Task) → get slots key ≡ Some task → IsSlotOf key task.spec.pid entries tasks
stands slots low [] tasks holds rises counted key task has = absurd (omega (arith, counted, one_less slots key task has))
stands slots low (entry ∷ entries) [] holds rises counted key task has = absurd cc
stands slots low (entry ∷ entries) (first ∷ tasks) holds rises counted key task has =
    let head : get slots entry.key ≡ Some first = cc in
    elim (cases_eq key entry.key) [
      | inl same ↦
          let found : first ≡ task = (let both = sym head ∙ ap (get slots) (sym same) ∙ has in cc) in
          record {
            position = zero;
            entry = entry;
            at = (ap pid_of found, subst (λ (t : Task). RisesFrom (t.spec.pid + 1) tasks) found rises.1);
            is = refl;
            slot = sym same;
          }
      | inr apart ↦
          let empty = empties slots entry.key first head in
          let elsewhere = above_elsewhere slots entry.key first head (first.spec.pid + 1) (omega arith) entries tasks (cc) rises.1 in
          let later = stands (emptied slots entry.key) (first.spec.pid + 1) entries tasks
          (same_elsewhere slots (emptied slots entry.key) entry.key None empty entries elsewhere ∙ cc) rises.1
          (omega (arith, one_less slots entry.key first head, counted)) key task (empty.others key apart ∙ has) in
          record {
            position = suc later.position;
            entry = later.entry;
            at = (omega (arith, at_low (first.spec.pid + 1) task.spec.pid later.position tasks rises.1 later.at), later.at);
            is = later.is;
            slot = later.slot;
          }
    ]
