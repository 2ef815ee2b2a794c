-- Below: whether some number below a bound passes a test.
use Rattle.std.proofs.Common.{◌≡◌, ℕ, ◌<◌, Bool, true, false, ap, ◌∙◌, zero-add, arith}
use Rattle.std.specs.List.{list_any, range_with_len}
use Rattle.std.proofs.lemmas.List.Folds.{list_any_at, list_any_none}
use Rattle.std.proofs.lemmas.List.FromFn.{length-range_with_len, get_or-range_with_len}

-- one that passes settles it
pub some_below : (p : ℕ → Bool) (n k : ℕ) → k < n → p k ≡ true → list_any p (range_with_len 0 n) ≡ true
some_below p n k below passes =
    list_any_at p (range_with_len 0 n) k 0 (omega (arith, length-range_with_len 0 n))
    (ap p (get_or-range_with_len 0 n k 0 below ∙ zero-add k) ∙ passes)

-- where none passes, none does
pub none_below : (p : ℕ → Bool) (n : ℕ) → ((k : ℕ) → k < n → p k ≡ false) → list_any p (range_with_len 0 n) ≡ false
none_below p n fails =
    list_any_none p (range_with_len 0 n)
    (λ k d few. let below : k < n = omega (arith, few, length-range_with_len 0 n) in ap p (get_or-range_with_len 0 n k d below ∙ zero-add k) ∙ fails k below)
