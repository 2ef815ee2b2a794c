-- Compared: how many comparisons a schedule over the trees of siblings takes.
use Rattle.std.proofs.Common.{◌≡◌, ℕ, arith}
use Rattle.std.proofs.Math.Nat.{mul_left_comm}
use Rattle.cs_types.specs.Comparisons.{most_comparisons}
use Rattle.core_pick.specs.Comparisons.{most_of_schedule}
use Rattle.tree_queue.specs.Comparisons.{most_of_call}
use Rattle.core_state.specs.Comparisons.{most_over_trees}

-- a schedule over trees takes no more than its number
pub most_of_schedule-trees : (siblings longest : ℕ) → most_of_schedule siblings (most_of_call longest) ≡ most_over_trees siblings longest
most_of_schedule-trees siblings longest = omega (arith, mul_left_comm siblings 4 (most_comparisons longest))
