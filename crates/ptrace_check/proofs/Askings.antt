-- Askings: what it makes that guards are asked one after another, up to the first that refuses.
use Rattle.std.proofs.Common.{◌≡◌, ◌≢◌, ℕ, ◌+◌, ◌<◌, ◌≤◌, Bool, true, false, cond, List, [], ◌∷◌, ◌++◌, length, map, get_or, take, drop, refl, sym, ◌∙◌, ap, arith, take-append-drop, drop-cons, add-one}
use Rattle.std.specs.Prelude.{◌==◌, not, All}
use Rattle.std.specs.List.{list_all}
use Rattle.std.proofs.lemmas.Bool.{cond_both, eq-eqb, and_parts, and_from, not-true, cond-true, cond-false}
use Rattle.std.proofs.lemmas.List.{get_or-set_other, take_more}
use Rattle.std.proofs.lemmas.List.Folds.{list_all_more, list_all_at}
use Rattle.std.proofs.lemmas.List.Sums.{sum_by-cons, sum_by_more_le}
use Rattle.std.proofs.lemmas.List.Elements.{recursion_from_All}
use Rattle.cs_types.proofs.Lists.{all_get}
use Rattle.cs_types.specs.Guards.{GuardState, GuardList, no_guard, guard_of, is_active, refuses, asked_once, asked_each, asked_until}
use Rattle.ptrace_check.specs.Inside.{turns_of, most_turns, AreKept}
use Rattle.ptrace_check.proofs.Seats.{AreKept-with_guard}

-- ---- the counts

-- what is asked after these is asked once more
pub asked_each-push : (guards : GuardList) (asked : List ℕ) (index : ℕ) → asked_each guards (asked ++ index ∷ []) ≡ asked_once (asked_each guards asked) index
asked_each-push guards [] index = refl
asked_each-push guards (first ∷ asked) index = asked_each-push (asked_once guards first) asked index

-- a number that does not stand in the list
apart_from : (x : ℕ) (xs : List ℕ) (index : ℕ) → turns_of (x ∷ xs) index ≡ 0 → (x ≢ index) × (turns_of xs index ≡ 0)
apart_from x xs index none =
    let parts = sum_by-cons (λ (other : ℕ). cond (other == index) 1 0) x xs in (
      λ same. absurd (let one : cond (x == index) 1 0 ≡ 1 = cond-true {A = ℕ} (x == index) 1 0 (eq-eqb x index same) in omega arith),
      omega arith,
    )

-- a guard that is not asked stays as it is
pub guard_of-asked_each : (guards : GuardList) (asked : List ℕ) (index : ℕ) → turns_of asked index ≡ 0 → guard_of (asked_each guards asked) index ≡ guard_of guards index
guard_of-asked_each guards [] index none = refl
guard_of-asked_each guards (x ∷ xs) index none =
    let apart = apart_from x xs index none in
    guard_of-asked_each (asked_once guards x) xs index apart.1
    ∙ get_or-set_other guards.all x index _ no_guard (λ same. apart.0 (sym same))

-- they stay kept
pub AreKept-asked_each : (guards : GuardList) (places : ℕ) (asked : List ℕ) → AreKept guards places → AreKept (asked_each guards asked) places
AreKept-asked_each guards places [] are = are
AreKept-asked_each guards places (x ∷ xs) are = AreKept-asked_each (asked_once guards x) places xs (AreKept-with_guard guards places x _ refl are)

-- ---- in turn

-- the guards that are asked, where each of these allows: all of them
pub asked_until-all : (refused : ℕ → Bool) (indices : List ℕ) → list_all (λ index. not (refused index)) indices ≡ true →
    asked_until (map (λ index. (refused index, index ∷ [])) indices) ≡ indices
asked_until-all refused [] all = refl
asked_until-all refused (x ∷ xs) all =
    let parts = and_parts (not (refused x)) (list_all (λ index. not (refused index)) xs) all in
    ap (λ (rest : List ℕ). x ∷ rest)
    (cond-false (refused x) [] _ (not-true (refused x) parts.0) ∙ asked_until-all refused xs parts.1)

-- where one refuses after some that allow: these and that one
pub asked_until-first : (refused : ℕ → Bool) (before : List ℕ) (index : ℕ) (after : List ℕ) → list_all (λ other. not (refused other)) before ≡ true → refused index ≡ true →
    asked_until (map (λ other. (refused other, other ∷ [])) (before ++ index ∷ after)) ≡ before ++ index ∷ []
asked_until-first refused [] index after all last =
    ap (λ (rest : List ℕ). index ∷ rest) (cond-true (refused index) [] _ last)
asked_until-first refused (x ∷ xs) index after all last =
    let parts = and_parts (not (refused x)) (list_all (λ index. not (refused index)) xs) all in
    ap (λ (rest : List ℕ). x ∷ rest)
    (cond-false (refused x) [] _ (not-true (refused x) parts.0) ∙ asked_until-first refused xs index after parts.1 last)

-- a list about the number at a position
pub parted_at : (xs : List ℕ) (position index : ℕ) → position < length xs → index ≡ get_or xs position index → take position xs ++ index ∷ drop (position + 1) xs ≡ xs
parted_at xs position index within is =
    ap (λ (x : ℕ). take position xs ++ x ∷ drop (position + 1) xs) is
    ∙ ap (λ (n : ℕ). take position xs ++ get_or xs position index ∷ drop n xs) (add-one position)
    ∙ ap (λ (rest : List ℕ). take position xs ++ rest) (sym (drop-cons xs position index within))
    ∙ take-append-drop position xs

-- ---- a guard's turn

-- the number at a position stands in the list, and not before it where it stands there once
turn_at : (xs : List ℕ) (position index : ℕ) → position < length xs → index ≡ get_or xs position index → turns_of (take position xs) index + 1 ≤ turns_of xs index
turn_at xs position index within is =
    let turn : ℕ → ℕ = λ other. cond (other == index) 1 0 in
    let one : turn (get_or xs position index) ≡ 1 = cond-true {A = ℕ} (get_or xs position index == index) 1 0 (eq-eqb (get_or xs position index) index (sym is)) in
    omega (arith, sum_by_more_le turn xs position index within)

at_most_once : (guard : GuardState) → most_turns guard ≤ 1
at_most_once guard = cond_both (is_active guard.place) 1 0 (λ (n : ℕ). n ≤ 1) (λ _. omega arith) (λ _. omega arith)

active_from : (active : Bool) → 1 ≤ cond active 1 0 → active ≡ true
active_from true h = refl
active_from false h = absurd (omega arith)

-- a guard whose turn it is is active
pub active_at : (guards : GuardList) (places position index : ℕ) → AreKept guards places → position < length guards.active → index ≡ get_or guards.active position index →
    is_active (guard_of guards index).place ≡ true
active_at guards places position index are within is =
    active_from (is_active (guard_of guards index).place) (omega (arith, are.once index, turn_at guards.active position index within is))

-- and was not asked in this turn
pub unasked_at : (guards : GuardList) (places position index : ℕ) → AreKept guards places → position < length guards.active → index ≡ get_or guards.active position index →
    guard_of (asked_each guards (take position guards.active)) index ≡ guard_of guards index
unasked_at guards places position index are within is =
    guard_of-asked_each guards (take position guards.active) index
    (omega (arith, are.once index, at_most_once (guard_of guards index), turn_at guards.active position index within is))

-- once it is asked, so many are
pub asked_next : (guards : GuardList) (position index : ℕ) → position < length guards.active → index ≡ get_or guards.active position index →
    asked_once (asked_each guards (take position guards.active)) index ≡ asked_each guards (take (position + 1) guards.active)
asked_next guards position index within is =
    sym (asked_each-push guards (take position guards.active) index)
    ∙ ap (asked_each guards) (ap (λ (x : ℕ). take position guards.active ++ x ∷ []) is ∙ sym (take_more guards.active position index within))

-- each of them was asked so seldom
pub asked_below : (guards : GuardList) (index most : ℕ) → 0 < most → All (λ guard. guard.asked < most) guards.all → (guard_of guards index).asked < most
asked_below guards index most some all =
    let P : GuardState → Type 0 = λ guard. guard.asked < most in
    all_get P guards.all index no_guard some (recursion_from_All P guards.all all)

-- where those before it allow and it refuses, the answer is no, and so many are asked
pub refused_at : (guards : GuardList) (pair : ℕ × ℕ) (position index : ℕ) → position < length guards.active → index ≡ get_or guards.active position index →
    list_all (λ other. not (refuses (guard_of guards other) pair)) (take position guards.active) ≡ true → refuses (guard_of guards index) pair ≡ true →
    (list_all (λ other. not (refuses (guard_of guards other) pair)) guards.active ≡ false)
    × (asked_until (map (λ other. (refuses (guard_of guards other) pair, other ∷ [])) guards.active) ≡ take (position + 1) guards.active)
refused_at guards pair position index within is allowed refused =
    let xs = guards.active in
    let test : ℕ → Bool = λ other. refuses (guard_of guards other) pair in
    let asked : List ℕ → List ℕ = λ all. asked_until (map (λ (other : ℕ). (test other, other ∷ [])) all) in (
      list_all_at (λ other. not (test other)) xs position index within (ap (λ (other : ℕ). not (test other)) (sym is) ∙ ap not refused),
      ap asked (sym (parted_at xs position index within is))
          ∙ asked_until-first test (take position xs) index (drop (position + 1) xs) allowed refused
          ∙ ap (λ (x : ℕ). take position xs ++ x ∷ []) is
          ∙ sym (take_more xs position index within),
    )

-- where those before it allow and it does too, so many allow
pub allowed_next : (guards : GuardList) (pair : ℕ × ℕ) (position index : ℕ) → position < length guards.active → index ≡ get_or guards.active position index →
    list_all (λ other. not (refuses (guard_of guards other) pair)) (take position guards.active) ≡ true → not (refuses (guard_of guards index) pair) ≡ true →
    list_all (λ other. not (refuses (guard_of guards other) pair)) (take (position + 1) guards.active) ≡ true
allowed_next guards pair position index within is allowed allows =
    let test : ℕ → Bool = λ other. not (refuses (guard_of guards other) pair) in
    list_all_more test guards.active position index within
    ∙ and_from _ _ allowed (ap test (sym is) ∙ allows)
