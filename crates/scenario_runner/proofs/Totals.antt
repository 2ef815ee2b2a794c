-- Totals: the totals of distinct tasks are together no more than the forced-idle time of the intervals.
use Rattle.std.proofs.Common.{◌≡◌, ◌≢◌, ℕ, suc, ◌+◌, ◌*◌, ◌≤◌, Bool, true, false, cond, eqb-true, List, [], ◌∷◌, length, inl, inr, refl, sym, ap, ◌∙◌, subst, le_refl, arith}
use Rattle.std.specs.Prelude.{◌==◌, ◌||◌, filter, sum_by, count_by, All, AllPairs}
use Rattle.std.specs.List.{list_any}
use Rattle.std.proofs.lemmas.Bool.{cases_Bool, cond_both}
use Rattle.std.proofs.lemmas.Nat.{mul-le}
use Rattle.std.proofs.lemmas.List.Sums.{sum_by-cons}
use Rattle.std.proofs.lemmas.List.Elements.{All-head, All-tail}
use Rattle.cs_types.specs.Room.{Interval}
use Rattle.cs_types.specs.Accounting.{share, charged_time, forced_time, charges, total_of}

-- ---- sums and counts

module _ {X : Type 0} where
  sum_by-zero : (xs : List X) → sum_by (λ x. 0) xs ≡ 0
  sum_by-zero [] = refl
  sum_by-zero (x ∷ xs) = omega (arith, sum_by-cons (λ y. 0) x xs, sum_by-zero xs)

  sum_by-both : (f g : X → ℕ) (xs : List X) → sum_by (λ x. f x + g x) xs ≡ sum_by f xs + sum_by g xs
  sum_by-both f g [] = refl
  sum_by-both f g (x ∷ xs) = omega (arith, sum_by-cons (λ y. f y + g y) x xs, sum_by-cons f x xs, sum_by-cons g x xs, sum_by-both f g xs)

  sum_by-times : (p : X → Bool) (n : ℕ) (xs : List X) → sum_by (λ x. cond (p x) n 0) xs ≡ count_by p xs * n
  sum_by-times p n [] = omega arith
  sum_by-times p n (x ∷ xs) =
      sum_by-cons (λ y. cond (p y) n 0) x xs
      ∙ ap (λ m. cond (p x) n 0 + m) (sum_by-times p n xs)
      ∙ one (p x) (count_by p xs)
      ∙ ap (λ m. m * n) (sym (sum_by-cons (λ y. cond (p y) 1 0) x xs)) where
        one : (b : Bool) (m : ℕ) → cond b n 0 + m * n ≡ (cond b 1 0 + m) * n
        one true m = omega arith
        one false m = omega arith

  count_by-either : (p q : X → Bool) (xs : List X) → count_by (λ x. p x || q x) xs ≤ count_by p xs + count_by q xs
  count_by-either p q [] = omega arith
  count_by-either p q (x ∷ xs) =
      omega (
        arith,
        sum_by-cons (λ y. cond (p y || q y) 1 0) x xs,
        sum_by-cons (λ y. cond (p y) 1 0) x xs,
        sum_by-cons (λ y. cond (q y) 1 0) x xs,
        one (p x) (q x),
        count_by-either p q xs,
      ) where
        one : (a b : Bool) → cond (a || b) 1 0 ≤ cond a 1 0 + cond b 1 0
        one true b = omega arith
        one false b = omega arith

-- ---- a list has no more distinct numbers than elements

-- one that is not among them is none of them
none_of : (x : ℕ) (ys : List ℕ) → All (λ y. x ≢ y) ys → count_by (λ y. x == y) ys ≡ 0
none_of x [] apart = refl
none_of x (y ∷ ys) apart =
    sum_by-cons (λ z. cond (x == z) 1 0) y ys
    ∙ ap (λ n. cond (x == y) 1 0 + n) (none_of x ys (All-tail (λ z. x ≢ z) y ys apart))
    ∙ cond_both (x == y) 1 0 (λ n. n + 0 ≡ 0) (λ same. absurd (All-head (λ z. x ≢ z) y ys apart (eqb-true x y same))) (λ _. refl)

-- 1 where the test is passed, else 0
abbrev one_or_none : Bool → ℕ
one_or_none b = cond b 1 0

at_most_one : (x : ℕ) (ys : List ℕ) → AllPairs (λ a b. a ≢ b) ys → count_by (λ y. x == y) ys ≤ 1
at_most_one x [] distinct = omega arith
at_most_one x (y ∷ ys) distinct =
    let cons = sum_by-cons (λ z. cond (x == z) 1 0) y ys in
    elim (cases_Bool (x == y)) [
      | inl same ↦
          let rest = none_of x ys (λ k d lt e. distinct 0 (suc k) d (omega arith) (omega (arith, lt)) (sym (eqb-true x y same) ∙ e)) in
          omega (arith, cons, ap one_or_none same, rest)
      | inr differs ↦
          let rest = at_most_one x ys (λ i j d lt within. distinct (suc i) (suc j) d (omega (arith, lt)) (omega (arith, within))) in
          omega (arith, cons, ap one_or_none differs, rest)
    ]

no_more_than : (xs pids : List ℕ) → AllPairs (λ a b. a ≢ b) pids → count_by (λ pid. list_any (λ x. x == pid) xs) pids ≤ length xs
no_more_than [] pids distinct = omega (arith, sum_by-zero pids)
no_more_than (x ∷ xs) pids distinct =
    omega (arith, count_by-either (λ pid. x == pid) (λ pid. list_any (λ y. y == pid) xs) pids, at_most_one x pids distinct, no_more_than xs pids distinct)

-- ---- the totals

total_of-cons : (pid : ℕ) (interval : Interval) (intervals : List Interval) →
    total_of pid (interval ∷ intervals) ≡ cond (charges pid interval) (share interval) 0 + total_of pid intervals
unfolding total_of
total_of-cons pid interval intervals = by_test (charges pid interval) where
  rest : List Interval
  rest = filter (charges pid) intervals

  by_test : (b : Bool) → sum_by share (cond b (interval ∷ rest) rest) ≡ cond b (share interval) 0 + sum_by share rest
  by_test true = sum_by-cons share interval rest
  by_test false = omega arith

total_of-nil : (pid : ℕ) → total_of pid [] ≡ 0
unfolding total_of
total_of-nil pid = refl

-- the totals that one interval adds to are together no more than what it charges
spread : (interval : Interval) (pids : List ℕ) → AllPairs (λ a b. a ≢ b) pids → sum_by (λ pid. cond (charges pid interval) (share interval) 0) pids ≤ charged_time interval
spread interval pids distinct =
    subst (λ n. n ≤ charged_time interval) (sym (sum_by-times (λ pid. charges pid interval) (share interval) pids))
    (mul-le (count_by (λ pid. charges pid interval) pids) (share interval) (length interval.charged) (share interval) (no_more_than interval.charged pids distinct) (le_refl (share interval)))

pub totals-le : (intervals : List Interval) (pids : List ℕ) → AllPairs (λ a b. a ≢ b) pids → All (λ interval. charged_time interval ≤ forced_time interval) intervals →
    sum_by (λ pid. total_of pid intervals) pids ≤ sum_by forced_time intervals
totals-le [] pids distinct all = omega (arith, (λ i. sum_by (λ pid. total_of-nil pid i) pids) ∙ sum_by-zero pids)
totals-le (interval ∷ intervals) pids distinct all =
    let more : ℕ → ℕ = λ pid. cond (charges pid interval) (share interval) 0 in
    let sums = (λ i. sum_by (λ pid. total_of-cons pid interval intervals i) pids) ∙ sum_by-both more (λ pid. total_of pid intervals) pids in
    omega (
      arith,
      sums,
      sum_by-cons forced_time interval intervals,
      spread interval pids distinct,
      All-head (λ one. charged_time one ≤ forced_time one) interval intervals all,
      totals-le intervals pids distinct (All-tail (λ one. charged_time one ≤ forced_time one) interval intervals all),
    )
