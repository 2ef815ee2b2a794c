-- A list that is read in pieces.
use Rattle.std.proofs.Common.{◌≡◌, ℕ, ◌+◌, ◌-◌, ◌≤◌, List, ◌++◌, length, take, drop, refl, sym, ap, subst, ◌∙◌, take_at, take_all, drop-drop, take-append-drop, length-take-le, length-drop, le_of_eq, slice_range}

-- a piece of what is left, in front of the rest
taken_from : (left piece more : List ℕ) (n : ℕ) → piece ≡ take n left → n ≤ length left → take n (piece ++ more) ++ drop n left ≡ left
taken_from left piece more n is_prefix within =
    ap (λ (prefix : List ℕ). prefix ++ drop n left) (take_at piece more n (ap length is_prefix ∙ length-take-le n left within))
    ∙ ap (λ (prefix : List ℕ). prefix ++ drop n left) is_prefix
    ∙ take-append-drop n left

-- the rest of a list is all that comes after a place
slice_range-to_end : (bytes : List ℕ) (at end : ℕ) → end ≡ length bytes → slice_range bytes at end ≡ drop at bytes
slice_range-to_end bytes at end is_end = take_all (end - at) (drop at bytes) (le_of_eq (length-drop at bytes ∙ ap (λ (n : ℕ). n - at) (sym is_end)))

-- what is left of the bytes after a place is a piece that was read, and what is left after it
pub left_in_pieces : (bytes left piece more : List ℕ) (at n : ℕ) → left ≡ drop at bytes → piece ≡ take n (slice_range bytes at (length bytes)) → n ≤ length (slice_range bytes at (length bytes)) → left ≡ take n (piece ++ more) ++ drop (at + n) bytes
left_in_pieces bytes left piece more at n is_left is_prefix within =
    let whole = slice_range-to_end bytes at (length bytes) refl in
    is_left
    ∙ sym (taken_from (drop at bytes) piece more n (is_prefix ∙ ap (λ (xs : List ℕ). take n xs) whole) (subst (λ (xs : List ℕ). n ≤ length xs) whole within))
    ∙ ap (λ (rest : List ℕ). take n (piece ++ more) ++ rest) (drop-drop n at bytes)
