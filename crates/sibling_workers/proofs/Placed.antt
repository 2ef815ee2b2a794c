-- Placed: two lists of one length that fit place by place.
use Rattle.std.proofs.Common.{◌≡◌, ℕ, suc, ◌<◌, List, [], ◌∷◌, ◌++◌, length, take, get_or, sym, ap, ◌∙◌, subst, arith, append-nil}
use Rattle.std.specs.List.{AllZip, refill}
use Rattle.std.proofs.Math.Seq.{take-length}
use Rattle.std.proofs.Math.ListN.{drop_of_length-le}

module _ {X : Type 0} (R : X → X → Type 0) where
  all_zip : (xs ys : List X) → length ys ≡ length xs → ((place : ℕ) (d : X) → place < length xs → R (get_or xs place d) (get_or ys place d)) → AllZip R xs ys
  all_zip [] [] same each = tt
  all_zip [] (y ∷ ys) same each = absurd (omega (arith, same))
  all_zip (x ∷ xs) [] same each = absurd (omega (arith, same))
  all_zip (x ∷ xs) (y ∷ ys) same each = (each 0 x (omega arith), all_zip xs ys (omega (arith, same)) (λ place d lt. each (suc place) d (omega (arith, lt))))

  -- the same of a list whose items were lent and changed
  pub all_zip-refilled : (xs lent ys : List X) → lent ≡ xs → length ys ≡ length lent → ((place : ℕ) (d : X) → place < length lent → R (get_or lent place d) (get_or ys place d)) →
      AllZip R xs (refill (length xs) xs ys)
  all_zip-refilled xs lent ys is same each =
      let long : length ys ≡ length xs = same ∙ ap (λ (l : List X). length l) is in
      let whole : refill (length xs) xs ys ≡ ys =
      ap (λ (l : List X). take (length xs) (ys ++ l)) (drop_of_length-le xs {i = length ys} (omega (arith, long))) ∙ ap (take (length xs)) (append-nil ys)
      ∙ ap (λ (n : ℕ). take n ys) (sym long) ∙ take-length ys
      in
      subst (AllZip R xs) (sym whole) (all_zip xs ys long (subst (λ (l : List X). (place : ℕ) (d : X) → place < length l → R (get_or l place d) (get_or ys place d)) is each))
