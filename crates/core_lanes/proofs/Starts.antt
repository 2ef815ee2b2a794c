-- Starts: how the siblings before the first step are made one by one.
use Rattle.std.proofs.Common.{◌≡◌, ◌⊎◌, inl, inr, ℕ, zero, suc, List, [], ◌∷◌, ◌++◌, Some, slice_get}

-- what a list has at a place, with one more element
pub slice_get-more : {X : Type 0} (xs : List X) (x y : X) (k : ℕ) → slice_get (xs ++ x ∷ []) k ≡ Some y → (slice_get xs k ≡ Some y) ⊎ (y ≡ x)
slice_get-more [] x y zero at = inr cc
slice_get-more [] x y (suc k) at = absurd cc
slice_get-more (z ∷ xs) x y zero at = inl at
slice_get-more (z ∷ xs) x y (suc k) at = slice_get-more xs x y k at
