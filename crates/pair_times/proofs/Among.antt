-- Among: how many pairs there are among so many.
use Rattle.std.proofs.Common.{◌≡◌, ℕ, zero, suc, ◌+◌, ◌*◌, ◌-◌, ◌/◌, ◌≤◌, refl, sym, ap, ◌∙◌, arith}
use Rattle.pair_times.specs.Pairs.{pairs_among}

-- one more makes a pair with each
halved : (n : ℕ) → (n + 1 + 1) * (n + 1) / 2 ≡ (n + 1) * n / 2 + (n + 1)
halved n = omega arith

pub pairs_among-more : (n : ℕ) → pairs_among (n + 1) ≡ pairs_among n + n
pairs_among-more zero = refl
pairs_among-more (suc n) =
    let one : suc n ≡ n + 1 = omega arith in
    let up : suc n + 1 - 1 ≡ n + 1 = omega arith in
    let down : suc n - 1 ≡ n = omega arith in
    (λ i. (one i + 1) * up i / 2) ∙ halved n ∙ (λ i. sym one i * sym down i / 2 + sym one i)

-- more make no fewer
pub pairs_among-le : (n more : ℕ) → pairs_among n ≤ pairs_among (n + more)
pairs_among-le n zero = let same : n + 0 ≡ n = omega arith in omega (arith, ap pairs_among same)
pairs_among-le n (suc more) =
    let same : n + suc more ≡ n + more + 1 = omega arith in
    omega (arith, ap pairs_among same, pairs_among-more (n + more), pairs_among-le n more)

-- a core has at most 255 siblings
pub pairs_among-most : (n : ℕ) → n ≤ 255 → pairs_among n ≤ 255 * n
pairs_among-most zero few = omega arith
pairs_among-most (suc n) few =
    let same : suc n ≡ n + 1 = omega arith in
    omega (arith, few, ap pairs_among same, pairs_among-more n, pairs_among-most n (omega (arith, few)))
