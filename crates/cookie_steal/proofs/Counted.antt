-- Counted: how the comparisons of a search add up, each of whose turns asks once.
use Rattle.std.proofs.Common.{ℕ, suc, ◌+◌, ◌*◌, ◌<◌, ◌≤◌, arith}
use Rattle.std.proofs.Math.Nat.{suc-mul, add-mul, mul-le-mul_right}

-- the first question, and then no more than one for each task
pub first_asked : (start first left tasks most : ℕ) → first ≤ start + most → left ≤ tasks → first + left * most ≤ start + (tasks + 1) * most
first_asked start first left tasks most once few = omega (arith, once, mul-le-mul_right most few, suc-mul tasks most)

-- one question more, where fewer tasks are left
pub one_further : (start before after left rest all most : ℕ) → before + left * most ≤ start + all * most → rest < left → after ≤ before + most →
    after + rest * most ≤ start + all * most
one_further start before after left rest all most so_far fewer once = omega (arith, so_far, once, mul-le-mul_right {m = suc rest} {n = left} most fewer, suc-mul rest most)

-- a search and then three calls, or none
pub search_and_steal : (start found stolen tasks most : ℕ) → found ≤ start + (tasks + 1) * most → stolen ≤ found + 3 * most → stolen ≤ start + (tasks + 4) * most
search_and_steal start found stolen tasks most search steal = omega (arith, search, steal, add-mul tasks 1 most, add-mul tasks 4 most)

pub search_alone : (start found tasks most : ℕ) → found ≤ start + (tasks + 1) * most → found ≤ start + (tasks + 4) * most
search_alone start found tasks most search = omega (arith, search, add-mul tasks 1 most, add-mul tasks 4 most)
