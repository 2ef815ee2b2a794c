-- Comparisons: how many keys the queues compare (no rule of the kernel's: the bounds are this project's).
use Rattle.std.specs.Prelude.{ℕ, ◌+◌, ◌*◌, ◌≤◌, length}
use Rattle.task_table.specs.Table.{Table}
use Rattle.core_lanes.specs.declared.queue.SiblingQueue.{Ghosts}
use Rattle.core_lanes.specs.declared.lanes.Core.{Core}

-- The new count of comparisons is above the old one by no more than this number of calls make on a queue in which each
-- living task is queued. No queue has more.
abbrev pub ComparesFor : {Q : Type 0} {g : Ghosts Q} → ℕ → Core Q g × Table → ℕ → ℕ → Type 0
ComparesFor {g = g} calls both old new = new ≤ old + calls * g.most_compared (length both.1.tasks)
