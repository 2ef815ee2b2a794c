-- Comparisons: how many a walk over a sibling's tasks makes (no rule of the kernel's: the bound is this project's).
use Rattle.std.specs.Prelude.{ℕ, ◌*◌}

-- the most of one walk, by the number of queued tasks: each is compared at most with the task that is asked about, and
-- with the first so far
abbrev pub most_of_walk : ℕ → ℕ
most_of_walk count = 2 * count
