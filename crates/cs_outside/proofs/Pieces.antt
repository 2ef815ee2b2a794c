-- A list that is given in pieces.
use Rattle.std.proofs.Common.{◌≡◌, ℕ, ◌+◌, ◌-◌, ◌≤◌, List, length, take, drop, sym, ap, ◌∙◌, length-drop, arith, zero-add, zero-le}
use Rattle.std.proofs.lemmas.List.{drop-take}
use Rattle.std.proofs.lemmas.List.Edits.{take-paste}
use Rattle.std.specs.List.{copy_within}

-- what is left of the prefix of a list, once it is moved down over a piece that is gone
pub left_moved : (bytes moved : List ℕ) (gone len : ℕ) → moved ≡ copy_within bytes gone len 0 → len ≤ length bytes → gone ≤ len → take (len - gone) moved ≡ drop gone (take len bytes)
left_moved bytes moved gone len is_moved within few =
    let rest : len - gone ≤ length (drop gone bytes) = omega (arith, length-drop gone bytes) in
    let parts : gone + (len - gone) ≡ len = omega arith in
    ap (λ (xs : List ℕ). take (len - gone) xs) is_moved
    ∙ ap (λ (n : ℕ). take n (copy_within bytes gone len 0)) (sym (zero-add (len - gone)))
    ∙ take-paste bytes 0 (drop gone bytes) (len - gone) zero-le rest
    ∙ sym (drop-take gone (len - gone) bytes)
    ∙ ap (λ (n : ℕ). drop gone (take n bytes)) parts
