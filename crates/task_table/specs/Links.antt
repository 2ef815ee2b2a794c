-- Links: how the slots without a task are found. No public clause cites this module.
use Rattle.std.specs.Prelude.{◌≡◌, ℕ, zero, suc, ◌+◌, List, map, length, Option, Some, None, is_some, count_by, slice_get}
use Rattle.cs_types.specs.declared.task.Task.{Task}
use Rattle.task_table.specs.declared.slots.Slot.{Slot}
use Rattle.task_table.specs.declared.slots.Slot.TheVariants.{Empty, Filled}

-- the task in a slot, if it has one
abbrev pub task_of : Slot → Option Task
task_of (Empty next) = None
task_of (Filled task) = Some task

-- from this slot on, this many empty ones each name the next, and the last names the end of the slots
abbrev pub AreChained : List Slot → ℕ → ℕ → Type 0
AreChained slots zero key = key ≡ length slots
AreChained slots (suc count) key = (next : ℕ) × (slice_get slots key ≡ Some (Empty next)) × AreChained slots count next

-- each slot has a task or is one of those from the first empty one on
pub record AreLinked (slots : List Slot) (first : ℕ) : Type 0 where
  pub count : ℕ
  pub total : count_by is_some (map task_of slots) + count ≡ length slots
  pub chained : AreChained slots count first
