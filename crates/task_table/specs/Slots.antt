-- Slots: where a table keeps its tasks. No public clause cites this module.
use Rattle.std.specs.Prelude.{◌≡◌, ◌≢◌, ℕ, List, Option, Some, None, is_some, IsSome, count_by, slice_index_or, slice_set}
use Rattle.cs_types.specs.declared.task.Task.{Task}

-- the task or nothing in each slot that was used, and how many tasks there can be
pub record Slotted : Type 0 where
  pub slots : List (Option Task)
  pub room : ℕ

-- the task in a slot
abbrev pub get : Slotted → ℕ → Option Task
get slotted key = slice_index_or slotted.slots key None

-- the slot has a task
abbrev pub IsFilled : Slotted → ℕ → Type 0
IsFilled slotted key = IsSome (get slotted key)

-- how many slots have a task
abbrev pub filled_count : Slotted → ℕ
filled_count slotted = count_by is_some slotted.slots

-- the slots after a write of the task in one
abbrev pub with_task : Slotted → ℕ → Task → Slotted
with_task slotted key task = record { slots = slice_set slotted.slots key (Some task); room = slotted.room }

-- the slot has this now, and each other slot what it had
pub record Updates (old new : Slotted) (key : ℕ) (slot : Option Task) : Type 0 where
  pub changed : get new key ≡ slot
  pub others : (other : ℕ) → other ≢ key → get new other ≡ get old other
