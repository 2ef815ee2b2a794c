-- Asked: how the comparisons of the questions of the siblings add up.
use Rattle.std.proofs.Common.{◌≡◌, ℕ, zero, suc, ◌+◌, ◌-◌, ◌*◌, ◌<◌, ◌≤◌, sym, subst, arith}
use Rattle.std.proofs.Math.Nat.{suc-mul, add-mul}

-- one sibling more is asked
pub one_more : (start before after asked most : ℕ) → before ≤ start + asked * most → after ≤ before + most → after ≤ start + (asked + 1) * most
one_more start before after asked most so_far once = omega (arith, so_far, once, suc-mul asked most)

-- those behind the own one are asked, and those before it, and it is spared
pub all_but_own : (own siblings start mid end most : ℕ) → own < siblings → mid ≤ start + (siblings - (own + 1)) * most → end ≤ mid + own * most →
    end + most ≤ start + siblings * most
all_but_own own siblings start mid end most below first second =
    let rest = siblings - (own + 1) in
    let all : siblings ≡ suc own + rest = omega arith in
    subst (λ n. end + most ≤ start + n * most) (sym all) (omega (arith, first, second, add-mul (suc own) rest most, suc-mul own most))

-- one question is no more than one of each sibling
pub one_of_each : (cpu siblings most : ℕ) → cpu < siblings → most ≤ siblings * most
one_of_each cpu zero most below = absurd (omega arith)
one_of_each cpu (suc siblings) most below = omega (arith, suc-mul siblings most)
