-- Writes: what a write of one slot changes.
use Rattle.std.proofs.Common.{◌≡◌, ℕ, ◌<◌, length, set, Option, Some, None, refl, arith}
use Rattle.std.proofs.lemmas.List.{get_or-set_same, get_or-set_other, get_or_past}
use Rattle.cs_types.specs.declared.task.Task.{Task}
use Rattle.task_table.specs.Slots.{Slotted, IsFilled, with_task, Updates}

-- a slot that has a task was used
pub filled_within : (slots : Slotted) (key : ℕ) → IsFilled slots key → key < length slots.slots
filled_within slots key filled = grind (arith, get_or_past)

-- a write of one slot changes what it has, and no other
pub Updates-set : (old new : Slotted) (key : ℕ) (slot : Option Task) → key < length old.slots → new.slots ≡ set old.slots key slot → Updates old new key slot
Updates-set old new key slot within written = record {
  changed = rw written (get_or-set_same old.slots key slot None within);
  others = λ other differs. rw written (get_or-set_other old.slots key other slot None differs);
}

-- so does a write of the task in one
pub Updates-with_task : (slots : Slotted) (key : ℕ) (task : Task) → IsFilled slots key → Updates slots (with_task slots key task) key (Some task)
Updates-with_task slots key task filled = Updates-set slots _ key (Some task) (filled_within slots key filled) refl
