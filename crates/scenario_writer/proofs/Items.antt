-- Items: of the lines of items, how many are left.
use Rattle.std.proofs.Common.{◌≡◌, ℕ, suc, ◌+◌, ◌<◌, ◌≤◌, List, [], ◌∷◌, map, length, drop, get_or, sym, ap, ◌∙◌, subst, arith, Option}
use Rattle.std.proofs.Math.Seq.{drop-cons}
use Rattle.std.proofs.lemmas.List.{drop_all}
use Rattle.scenario_text.specs.Words.{Word}
use Rattle.scenario_text.specs.Text.{line}
use Rattle.cs_outside.proofs.Reached.{AreLeft}

-- the line of the item at an index is left, and those of the items after it
pub item_left : {T : Type 0} (words : T → List Word) (items : List T) (index : ℕ) (d item : T) (before : Option (List ℕ)) (whole : List ℕ) (now : Option (List ℕ)) →
    index < length items → item ≡ get_or items index d → AreLeft line before whole (map words (drop index items)) now →
    AreLeft line before whole (words item ∷ map words (drop (index + 1) items)) now
item_left words items index d item before whole now below is left =
    let next : suc index ≡ index + 1 = omega arith in
    subst (λ (lines : List (List Word)). AreLeft line before whole lines now)
    (ap (map words) (drop-cons items index d below ∙ (λ i. sym is i ∷ drop (next i) items))) left

-- past the last item nothing is left
pub all_written : {T : Type 0} (words : T → List Word) (items : List T) (index : ℕ) (before : Option (List ℕ)) (whole : List ℕ) (now : Option (List ℕ)) →
    length items ≤ index → AreLeft line before whole (map words (drop index items)) now → AreLeft line before whole [] now
all_written words items index before whole now past left =
    subst (λ (lines : List (List Word)). AreLeft line before whole lines now) (ap (map words) (drop_all index items past)) left

-- the line at an index is left, and those after it
pub line_left : (lines : List (List Word)) (index : ℕ) (words : List Word) (before : Option (List ℕ)) (whole : List ℕ) (now : Option (List ℕ)) →
    index < length lines → get_or lines index [] ≡ words → AreLeft line before whole (drop index lines) now → AreLeft line before whole (words ∷ drop (index + 1) lines) now
line_left lines index words before whole now below is left =
    let next : suc index ≡ index + 1 = omega arith in
    subst (λ (ls : List (List Word)). AreLeft line before whole ls now) (drop-cons lines index [] below ∙ (λ i. is i ∷ drop (next i) lines)) left

-- past the last line nothing is left
pub lines_written : (lines : List (List Word)) (index : ℕ) (before : Option (List ℕ)) (whole : List ℕ) (now : Option (List ℕ)) → length lines ≤ index → AreLeft line before whole (drop index lines) now → AreLeft line before whole [] now
lines_written lines index before whole now past left = subst (λ (ls : List (List Word)). AreLeft line before whole ls now) (drop_all index lines past) left
