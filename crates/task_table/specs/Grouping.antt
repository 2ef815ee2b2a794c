-- Spans: how many tasks groups have, and from which pid on. No public clause cites this module.
use Rattle.std.specs.Prelude.{◌≡◌, ◌≢◌, ℕ, ◌+◌, ◌^◌, ◌%◌, ◌==◌, ◌<◌, ◌≤◌, Bool, List, length, map, count_by, slice_index_or}
use Rattle.std.specs.List.{AllByRecursion}
use Rattle.cs_types.specs.declared.task.Task.{Task}
use Rattle.task_table.specs.declared.spans.Span.{Span}

-- the place of the span of the group with this number
abbrev pub place_of : ℕ → ℕ
place_of number = number % 8192

-- the span of groups that have no task
abbrev pub no_span : Span
no_span = record { count = 0; least = 0 }

-- the span at a place
abbrev pub span_at : List Span → ℕ → Span
span_at spans place = slice_index_or spans place no_span

-- a task with the pid joins a group of the span
pub record Joins (pid : ℕ) (old new : Span) : Type 0 where
  pub count : new.count ≡ old.count + 1
  pub own : new.least ≤ pid
  pub others : old.count ≢ 0 → new.least ≤ old.least

-- a task leaves a group of the span
pub record Leaves (old new : Span) : Type 0 where
  pub count : new.count + 1 ≡ old.count
  pub least : new.least ≡ old.least

-- the other spans are as they were
abbrev pub OthersStay : ℕ → List Span → List Span → Type 0
OthersStay place old new = (other : ℕ) → other ≢ place → span_at new other ≡ span_at old other

-- whether a task, by the number of its group and its pid, is of the span at the place
abbrev pub is_at_place : ℕ → ℕ × ℕ → Bool
is_at_place place member = place_of member.0 == place

-- each span counts its tasks, and none of them has a lower pid than it says
pub record AreSpans (spans : List Span) (members : List (ℕ × ℕ)) : Type 0 where
  pub counts : (place : ℕ) → (span_at spans place).count ≡ count_by (is_at_place place) members
  pub leasts : AllByRecursion (λ member. (span_at spans (place_of member.0)).least ≤ member.1) members

-- the member is at the position
pub record HasMember (members : List (ℕ × ℕ)) (position : ℕ) (member : ℕ × ℕ) : Type 0 where
  pub within : position < length members
  pub is : slice_index_or members position member ≡ member

-- the spans are those of fewer than 2^16 tasks, and one of them is of the group with the number and has the pid
pub record Counts (spans : List Span) (number pid : ℕ) : Type 0 where
  pub members : List (ℕ × ℕ)
  pub position : ℕ
  pub has : HasMember members position (number, pid)
  pub are : AreSpans spans members
  pub few : length members < 2 ^ 16

-- the number of a task's thread group and of its process group, each with its pid
abbrev pub thread_of : Task → ℕ × ℕ
thread_of task = (task.spec.tgid, task.spec.pid)

abbrev pub process_of : Task → ℕ × ℕ
process_of task = (task.spec.pgid, task.spec.pid)

-- the spans are those of the tasks' thread groups, and of their process groups
pub record AreGrouped (threads processes : List Span) (tasks : List Task) : Type 0 where
  pub by_threads : AreSpans threads (map thread_of tasks)
  pub by_processes : AreSpans processes (map process_of tasks)
