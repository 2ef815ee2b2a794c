-- What a sink holds after several writes.
use Rattle.std.proofs.Common.{◌≡◌, ℕ, ◌+◌, ◌-◌, List, ◌++◌, length, take, drop, refl, sym, ap, subst, ◌∙◌, append_assoc, take-add, take_all, le_of_eq, length-drop, slice_range, Option, Some, None}
use Rattle.std.specs.Io.KnownBytes.{Appends}
use Rattle.std.proofs.KnownBytes.{Appends-trans}
use Rattle.cs_outside.specs.Device.{appended}

-- two prefixes, one after the other
appended-appended : (before : Option (List ℕ)) (text : List ℕ) (m n : ℕ) → appended (appended before (take m text)) (take n (drop m text)) ≡ appended before (take (m + n) text)
appended-appended None text m n = refl
appended-appended (Some bytes) text m n =
    ap (λ (xs : List ℕ). Some xs) (append_assoc bytes (take m text) (take n (drop m text)) ∙ ap (λ (xs : List ℕ). bytes ++ xs) (sym (take-add m n text)))

-- a prefix of a text, and then one of the rest
pub appended_rest : (before : Option (List ℕ)) (text : List ℕ) (m n : ℕ) → appended (appended before (take m text)) (take n (slice_range text m (length text))) ≡ appended before (take (m + n) text)
appended_rest before text m n =
    ap (λ (rest : List ℕ). appended (appended before (take m text)) (take n rest)) (take_all (length text - m) (drop m text) (le_of_eq (length-drop m text)))
    ∙ appended-appended before text m n

-- a writer that took a prefix of a text, and then one of the rest, took a prefix of the text
pub Appends_rest : (before then now : Option (List ℕ)) (text : List ℕ) (m n : ℕ) → Appends before then (take m text) → Appends then now (take n (slice_range text m (length text))) → Appends before now (take (m + n) text)
Appends_rest before then now text m n first more =
    let whole : slice_range text m (length text) ≡ drop m text = take_all (length text - m) (drop m text) (le_of_eq (length-drop m text)) in
    let parts : take m text ++ take n (slice_range text m (length text)) ≡ take (m + n) text = ap (λ (rest : List ℕ). take m text ++ take n rest) whole ∙ sym (take-add m n text) in
    subst (λ (xs : List ℕ). Appends before now xs) parts (Appends-trans before then now (take m text) (take n (slice_range text m (length text))) first more)
