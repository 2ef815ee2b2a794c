-- Comparisons: how many a schedule may make (no rule of the kernel's: the bound is this project's).
use Rattle.std.specs.Prelude.{ℕ, ◌+◌, ◌*◌, ◌≤◌, length}
use Rattle.task_table.specs.Table.{Table}
use Rattle.core_lanes.specs.declared.queue.SiblingQueue.{Ghosts}
use Rattle.core_lanes.specs.declared.lanes.Core.{Core}
use Rattle.core_lanes.specs.Lanes.{AreNoLonger}

-- the most of a schedule, by the number of siblings and the most that one question takes: each sibling is asked twice
abbrev pub most_of_schedule : ℕ → ℕ → ℕ
most_of_schedule siblings most = 2 * (siblings * most)

-- this holds of the most that one question takes, if no sibling has more tasks than the longest queue
abbrev pub Compares : {Q : Type 0} {g : Ghosts Q} → Core Q g × Table → (ℕ → Type 0) → Type 0
Compares {g = g} both Holds = (longest : ℕ) → AreNoLonger longest both → Holds (g.most_compared longest)

-- the new count of comparisons is above the old one by no more than the most of a schedule
abbrev pub ComparesForSchedule : {Q : Type 0} {g : Ghosts Q} → Core Q g × Table → ℕ → ℕ → Type 0
ComparesForSchedule both old new = Compares both (λ most. new ≤ old + most_of_schedule (length both.0.lanes.items) most)
