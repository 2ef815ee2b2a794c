-- Arrivals: tasks in the order in which they came to a queue.
use Rattle.std.specs.Prelude.{◌≡◌, ℕ, ◌<◌, ◌≤◌, List, [], ◌∷◌, length, take, map, Contains}
use Rattle.std.specs.List.{AllByRecursion}

-- each has a smaller stamp than those after it
abbrev pub AreRising : List (ℕ × ℕ) → Type 0
AreRising [] = Unit {0}
AreRising (mover ∷ movers) = AllByRecursion (λ other. mover.0 < other.0) movers × AreRising movers

-- These are the pids of some of the tasks, each of which has its stamp here and its pid, by rising stamp.
pub record AreAmong (tasks : List (ℕ × ℕ)) (pids : List ℕ) : Type 0 where
  pub movers : List (ℕ × ℕ)
  pub there : AllByRecursion (Contains tasks) movers
  pub rising : AreRising movers
  pub are : pids ≡ map (λ mover. mover.1) movers

-- The same, and these stamps are all below one.
pub record AreBelow (tasks : List (ℕ × ℕ)) (above : ℕ) (pids : List ℕ) : Type 0 where
  pub among : AreAmong tasks pids
  pub below : AllByRecursion (λ mover. mover.0 < above) among.movers

-- The list begins with this number of pids of such tasks.
pub record BeginsBelow (tasks : List (ℕ × ℕ)) (above told : ℕ) (pids : List ℕ) : Type 0 where
  pub within : told ≤ length pids
  pub below : AreBelow tasks above (take told pids)
