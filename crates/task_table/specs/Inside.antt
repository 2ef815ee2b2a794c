-- How a table keeps its tasks: in slots, with an index of entries. No public clause cites this module.
use Rattle.std.specs.Prelude.{◌≡◌, ℕ, Bool, true, ◌==◌, ◌≤◌, List, map, length, filter, Option, Some, slice_index_or}
use Rattle.std.specs.List.{filter_map}
use Rattle.task_table.specs.Slots.{Slotted, get, filled_count}
use Rattle.cs_types.specs.declared.task.Task.{Task}
use Rattle.task_table.specs.declared.entry.Entry.{Entry}
use Rattle.task_table.specs.declared.group.Group.{Group}
use Rattle.task_table.specs.declared.group.Group.TheVariants.{All, Threads, Process}
use Rattle.task_table.specs.Table.{IsSound}
use Rattle.task_table.specs.Positions.{IsIndexOf, IsAt}
use Rattle.task_table.specs.Group.{is_in_group}
use Rattle.task_table.specs.declared.spans.Span.{Span}
use Rattle.task_table.specs.Grouping.{AreGrouped}

-- the task in the slot of an entry
abbrev pub slot_of : Slotted → Entry → Option Task
slot_of slots entry = get slots entry.key

-- the tasks in the slots of the entries
abbrev pub tasks_at : Slotted → List Entry → List Task
tasks_at slots entries = filter_map (slot_of slots) entries

-- what each entry's task was charged, by its pid
abbrev pub totals_of : List Entry → List (ℕ × ℕ)
totals_of entries = map (λ entry. (entry.pid, entry.forced)) entries

-- the slots of the entries have these tasks
abbrev pub Holds : Slotted → List Entry → List Task → Type 0
Holds slots entries tasks = map (slot_of slots) entries ≡ map Some tasks

-- each entry's slot has a task
abbrev pub EachFilled : Slotted → List Entry → Type 0
EachFilled slots entries = Holds slots entries (tasks_at slots entries)

-- the slot is that of the entry at the position of the pid
pub record IsSlotOf (key pid : ℕ) (entries : List Entry) (tasks : List Task) : Type 0 where
  pub position : ℕ
  pub entry : Entry
  pub at : IsAt pid position tasks
  pub is : entry ≡ slice_index_or entries position entry
  pub slot : entry.key ≡ key

-- whether an entry says that its task is of the group
abbrev pub tells_group : Group → Entry → Bool
tells_group All entry = true
tells_group (Threads leader) entry = entry.tgid == leader
tells_group (Process number) entry = entry.pgid == number

-- the thread group and the process group of a task, and those that an entry has
abbrev pub groups_of : Task → ℕ × ℕ
groups_of task = (task.spec.tgid, task.spec.pgid)

abbrev pub groups_told : Entry → ℕ × ℕ
groups_told entry = (entry.tgid, entry.pgid)

-- each entry has the groups of its task
abbrev pub TellGroups : List Entry → List Task → Type 0
TellGroups entries tasks = map groups_told entries ≡ map groups_of tasks

-- a walk over these entries finds a task in each slot, and its groups in the entry, and at most this many are of the
-- group
pub record IsWalk (slots : Slotted) (entries : List Entry) (group : Group) (most : ℕ) : Type 0 where
  pub filled : EachFilled slots entries
  pub told : TellGroups entries (tasks_at slots entries)
  pub bound : length (filter (is_in_group group) (tasks_at slots entries)) ≤ most

-- the entries name all slots that have a task, these tasks make a sound table, the spans count them, and the slots can
-- take the limit
pub record IsKept (slots : Slotted) (entries : List Entry) (threads processes : List Span) (room limit : ℕ) (tasks : List Task) : Type 0 where
  pub holds : Holds slots entries tasks
  pub index : IsIndexOf entries tasks
  pub groups : TellGroups entries tasks
  pub sound : IsSound (record { tasks = tasks; totals = totals_of entries; limit = limit })
  pub grouped : AreGrouped threads processes tasks
  pub counted : filled_count slots ≡ length entries
  pub room_for_entries : limit ≤ room
  pub room_for_tasks : limit ≤ slots.room
