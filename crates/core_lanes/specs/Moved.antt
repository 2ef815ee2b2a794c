-- Moved: the tasks of a queue once all of them moved to another sibling, and their queue with them.
use Rattle.std.specs.Prelude.{◌≡◌, ℕ, ◌+◌, ◌-◌, ◌≤◌, ◌==◌, nat_lt, if◌then◌else◌, List, map, count_by, All}
use Rattle.cs_types.specs.declared.queue.Queued.{Queued}
use Rattle.cs_types.specs.Order.{fair_class}
use Rattle.task_table.specs.Table.{Table, IsSound as IsTable}
use Rattle.core_lanes.specs.Queued.{queued_at}

-- A task keeps what it was ahead of the one least virtual time over the other. The tasks get the stamps from the next
-- one on in the order of those that they had.
abbrev pub again : ℕ → ℕ → ℕ → List Queued → Queued → Queued
again from to next was task =
    record task {
      rank = if task.class == fair_class then to + (task.rank - from) else task.rank;
      stamp = next + count_by (λ other. nat_lt other.stamp task.stamp) was;
    }

-- These are the tasks of a queue once all of them moved so. No fair one of them was below the least virtual time.
pub record HaveMoved (Held : List Queued → Type 0) (now : List Queued) : Type 0 where
  pub was : List Queued
  pub from : ℕ
  pub to : ℕ
  pub next : ℕ
  pub holds : Held was
  pub are : now ≡ map (again from to next was) was
  pub ahead : All (λ task. task.class ≡ fair_class → from ≤ task.rank) was

-- A queue may move to a sibling with its tasks: they moved there in the table.
pub record MayRenew (Held : List Queued → Type 0) (cpu : ℕ) (all : Table) : Type 0 where
  pub table : IsTable all
  pub moved : HaveMoved Held (queued_at all.tasks cpu)
