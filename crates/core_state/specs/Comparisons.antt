-- Comparisons: how many a schedule over the trees of siblings may make (no rule of the kernel's: the bound is this
-- project's).
use Rattle.std.specs.Prelude.{ℕ, ◌*◌}
use Rattle.cs_types.specs.Comparisons.{most_comparisons}

-- the most of a schedule, by the number of siblings and of the tasks in the longest queue
abbrev pub most_over_trees : ℕ → ℕ → ℕ
most_over_trees siblings longest = 8 * (siblings * most_comparisons longest)
