-- How many entries a tree of some height has, and so how high a tree of some entries is.
use Rattle.std.proofs.Common.{◌≡◌, ℕ, zero, suc, ◌+◌, ◌*◌, ◌/◌, ◌≤◌, Bool, true, false, not, cond, max, inl, inr, ap, ◌∙◌, subst, arith}
use Rattle.std.proofs.lemmas.Bool.{cases_lt}
use Rattle.cs_types.specs.Comparisons.{digits}
use Rattle.cs_types.proofs.Comparisons.{digits-step}
use Rattle.order_tree.specs.Balance.{fewest, AreNear}

fewest-suc : (h : ℕ) → fewest h ≤ fewest (suc h)
fewest-suc zero = omega arith
fewest-suc (suc h) = omega arith

-- a node over a tree that is one higher than the other, or as high
fewest-over : (l r nl nr : ℕ) → r ≤ l → l ≤ r + 1 → fewest l ≤ nl → fewest r ≤ nr → fewest (suc l) ≤ nl + nr + 1
fewest-over zero r nl nr le near left right = omega arith
fewest-over (suc l) r nl nr le near left right =
    elim (cases_lt l r) [
      | inl more ↦
          let same : r ≡ suc l = omega arith in
          let most = subst (λ n. fewest n ≤ nr) same right in
          omega (arith, fewest-suc l)
      | inr less ↦ let same : r ≡ l = omega arith in let least = subst (λ n. fewest n ≤ nr) same right in omega arith
    ]

-- a node over trees with enough entries has enough of them
pub fewest-fork : (l r nl nr : ℕ) → AreNear l r → fewest l ≤ nl → fewest r ≤ nr → fewest (max l r + 1) ≤ nl + suc nr
fewest-fork l r nl nr even left right =
    elim (cases_lt l r) [
      | inl less ↦
          let same : suc r ≡ max l r + 1 = omega arith in
          let here : fewest (suc r) ≤ nl + suc nr = omega (arith, fewest-over r l nr nl (omega arith) (omega arith) right left) in
          subst (λ n. fewest n ≤ nl + suc nr) same here
      | inr more ↦
          let same : suc l ≡ max l r + 1 = omega arith in
          let here : fewest (suc l) ≤ nl + suc nr = omega (arith, fewest-over l r nl nr (omega arith) (omega arith) left right) in
          subst (λ n. fewest n ≤ nl + suc nr) same here
    ]

-- two levels more have twice as many entries
pub height-le : (h n : ℕ) → fewest h ≤ n → h ≤ 2 * digits n
height-le zero n many = omega arith
height-le (suc zero) n many = omega (arith, digits-step n many)
height-le (suc (suc h)) n many =
    let below = fewest-suc h in
    let half : fewest h ≤ n / 2 = omega arith in
    omega (arith, height-le h (n / 2) half, digits-step n (omega arith))

fewest-suc-pos : (h : ℕ) → 1 ≤ fewest (suc h)
fewest-suc-pos zero = omega arith
fewest-suc-pos (suc h) = omega arith

-- where there is an entry, one comparison more is within the bound
pub height-lt : (h n : ℕ) → 1 ≤ n → fewest h ≤ n → h + 1 ≤ 2 * digits n
height-lt zero n some many = omega (arith, digits-step n some)
height-lt (suc zero) n some many = omega (arith, digits-step n some)
height-lt (suc (suc h)) n some many =
    let pos = fewest-suc-pos h in
    let below = fewest-suc h in
    let half : fewest h ≤ n / 2 = omega arith in
    let half_some : 1 ≤ n / 2 = omega arith in
    omega (arith, height-lt h (n / 2) half_some half, digits-step n some)

-- a height by whether it is a level lower than before
pub level_kept : (before after : ℕ) {lower : Bool} → before ≡ after + cond lower 1 0 → lower ≡ false → after ≡ before
level_kept before after is kept = let told = is ∙ ap (λ b. after + cond b 1 0) kept in omega arith

pub level_lost : (before after : ℕ) {lower : Bool} → before ≡ after + cond lower 1 0 → lower ≡ true → before ≡ after + 1
level_lost before after is lost = is ∙ ap (λ b. after + cond b 1 0) lost

pub no_more : (before after : ℕ) → before ≡ after → before ≡ after + 0
no_more before after is = omega arith

-- a tree a side of which is a level lower then, and which is so too unless it kept its height
pub lowered : (before levels after : ℕ) (kept : Bool) → before ≡ levels + 1 → after ≡ levels + cond kept 1 0 → before ≡ after + cond (not kept) 1 0
lowered before levels after true is kept_is = omega arith
lowered before levels after false is kept_is = omega arith

-- ---- the two sides of a node of which one is a level higher than the node says

pub evened : (l r : ℕ) → l + 1 ≡ r + 1 → l ≡ r
evened l r is = omega arith

pub evened-left : (l r : ℕ) → l + 1 ≡ r + 1 → max l r + 1 ≡ max l (r + 1) + 0
evened-left l r is = omega arith

pub evened-right : (l r : ℕ) → l + 1 ≡ r + 1 → max l r + 1 ≡ max (l + 1) r + 0
evened-right l r is = omega arith

pub leant-left : (l r : ℕ) → l ≡ r + 1 → max l r + 1 ≡ max l (r + 1) + 1
leant-left l r is = omega arith

pub leant-right : (l r : ℕ) → l + 1 ≡ r → max l r + 1 ≡ max (l + 1) r + 1
leant-right l r is = omega arith

pub twice : (low high : ℕ) → high ≡ low + 1 + 1 → high ≡ low + 2
twice low high is = omega arith
