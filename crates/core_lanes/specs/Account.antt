-- Account: who is charged for forced idle, as it is asked of each sibling.
use Rattle.std.specs.Prelude.{◌≡◌, ℕ, ◌+◌, ◌==◌, ◌&&◌, if◌then◌else◌, List, find, is_some, Option, None}
use Rattle.std.specs.List.{list_any}
use Rattle.cs_types.specs.Room.{SiblingState, has_pid, to_run}
use Rattle.task_table.specs.Table.{Table, total_in, IsSound}

-- the pid that is charged for a sibling, none if it is offline
abbrev pub charged_for : SiblingState → Option ℕ
charged_for sibling = if sibling.online then to_run sibling else None

-- Each task that has one of these pids has the share more, however often the pid stands among them, and nothing else
-- changes.
pub record Owes (pids : List ℕ) (share : ℕ) (old new : Table) : Type 0 where
  pub rest : new ≡ record old { totals = new.totals }
  pub totals : (pid : ℕ) → total_in new pid ≡ total_in old pid
      + (if list_any (λ one. one == pid) pids && is_some (find (has_pid pid) old.tasks) then share else 0)
  pub sound : IsSound new
