-- Comparisons: how many the trees of a sibling may make (no rule of the kernel's: the bound is this project's).
use Rattle.std.specs.Prelude.{ℕ, ◌*◌}
use Rattle.cs_types.specs.Comparisons.{most_comparisons}

-- the most of one call, by the number of queued tasks: at most the trees of the four classes are asked
abbrev pub most_of_call : ℕ → ℕ
most_of_call count = 4 * most_comparisons count
