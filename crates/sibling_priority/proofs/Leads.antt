-- What a scan that keeps the first best of a list has found, as the index and as the foremost.
use Rattle.std.proofs.Common.{ltb, ◌≡◌, ℕ, zero, suc, ◌+◌, ◌<◌, Bool, true, false, not, List, [], ◌∷◌, length, get_or, refl, ap, ◌∙◌, arith, Some, None}
use Rattle.std.specs.Prelude.{position}
use Rattle.std.specs.Cmp.{IsStrictWeakOrder}
use Rattle.std.proofs.lemmas.List.MinMax.{IsFirstBest-keeps, IsFirstBest-takes}
use Rattle.std.specs.List.{list_all, AllPass, IsFirstBest, position_or_len, slice_get}
use Rattle.std.proofs.lemmas.Bool.{not_from_false, not_from_true, cond-true, lt-ltb}
use Rattle.std.proofs.lemmas.List.{get_or_default}
use Rattle.std.proofs.lemmas.List.Folds.{list_all_at, find_at}
use Rattle.std.proofs.lemmas.List.Sums.{list_all-from_AllPass}
use Rattle.std.proofs.lemmas.Option.{slice_get-get_or}
use Rattle.cs_types.specs.Order.{foremost}

-- the first index that passes
position_or_len_at : {X : Type 0} (p : X → Bool) (xs : List X) (n : ℕ) (d : X) → n < length xs → p (get_or xs n d) ≡ true →
    ((k : ℕ) → k < n → p (get_or xs k d) ≡ false) → position_or_len p xs ≡ n
position_or_len_at p [] n d l h before = absurd (omega arith)
position_or_len_at p (x ∷ xs) zero d l h before = rw h refl
position_or_len_at p (x ∷ xs) (suc n) d l h before =
    rw (before 0 (omega arith)) (let rest = position_or_len_at p xs n d (omega arith) h (λ k m. before (suc k) (omega arith)) in omega arith)

-- ---- the steps of the scan, where elements are read with one default

module _ {X : Type 0} {lt : X → X → Bool} (order : IsStrictWeakOrder lt) (xs : List X) (d : X) (i b : ℕ) where
  same : (k : ℕ) → k < length xs → get_or xs k d ≡ get_or xs k (get_or xs k d)
  same k l = get_or_default xs k d (get_or xs k d) l

  -- a later element that goes before the best so far takes its index
  pub first_best_takes : IsFirstBest lt xs i b → i < length xs → lt (get_or xs i d) (get_or xs b d) ≡ true → IsFirstBest lt xs (i + 1) i
  first_best_takes h l test =
      IsFirstBest-takes order xs i b (get_or xs i d) (get_or xs b d) h l (same i l) (same b (omega (arith, h.0))) test

  -- and one that does not leaves it
  pub first_best_keeps : IsFirstBest lt xs i b → i < length xs → lt (get_or xs i d) (get_or xs b d) ≡ false → IsFirstBest lt xs (i + 1) b
  first_best_keeps h l test =
      IsFirstBest-keeps order xs i b (get_or xs i d) (get_or xs b d) h l (same i l) (same b (omega (arith, h.0))) test

-- ---- the end of the scan

module _ {X : Type 0} (lt : X → X → Bool) (xs : List X) (n : ℕ) (d : X) (best : IsFirstBest lt xs (length xs) n) where
  leads : list_all (λ other. not (lt other (get_or xs n d))) xs ≡ true
  leads =
      let pass : AllPass (λ other. not (lt other (get_or xs n d))) xs = λ k e l.
      ap (λ (x : X). not (lt x (get_or xs n d))) (get_or_default xs k e d l) ∙ not_from_false (lt (get_or xs k d) (get_or xs n d)) (best.1 k d l) in
      list_all-from_AllPass (λ other. not (lt other (get_or xs n d))) xs pass

  earlier : (k : ℕ) → k < n → list_all (λ other. not (lt other (get_or xs k d))) xs ≡ false
  earlier k l =
      list_all_at (λ other. not (lt other (get_or xs k d))) xs n d best.0 (not_from_true _ (best.2 k d l))

  index : position_or_len (λ x. list_all (λ other. not (lt other x)) xs) xs ≡ n
  index = position_or_len_at (λ x. list_all (λ other. not (lt other x)) xs) xs n d best.0 leads earlier

  pub position-first_best : position (λ x. list_all (λ other. not (lt other x)) xs) xs ≡ Some n
  position-first_best =
      rw index (cond-true (ltb n (length xs)) (Some n) None (lt-ltb n (length xs) best.0))

  pub foremost-first_best : foremost lt xs ≡ Some (get_or xs n d)
  foremost-first_best =
      find_at (λ x. list_all (λ other. not (lt other x)) xs) xs ∙ ap (slice_get xs) index ∙ slice_get-get_or xs n d best.0
