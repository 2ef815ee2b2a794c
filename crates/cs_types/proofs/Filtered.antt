-- Filtered: what a filter keeps of a list and of its foremost, and which numbers a range holds.
use Rattle.std.proofs.Common.{◌≡◌, ℕ, zero, suc, ◌+◌, ◌-◌, ◌<◌, ◌≤◌, Bool, true, false, not, List, [], ◌∷◌, map, length, get_or, refl, sym, ap, ◌∙◌, subst, inl, inr, Some, arith}
use Rattle.std.specs.Prelude.{◌&&◌, find, filter, Contains}
use Rattle.std.specs.Cmp.{IsStrictWeakOrder}
use Rattle.std.specs.List.{list_all, AllByRecursion, range_with_len}
use Rattle.std.proofs.lemmas.Bool.{cases_Bool, cond_both, and_parts, and_from, both_ways, not-true, not_from_false, cond-true, cond-false}
use Rattle.std.proofs.lemmas.List.Elements.{All-contains, All-filter, All-contains_itself, filter_passes}
use Rattle.std.proofs.lemmas.List.FromFn.{length-range_with_len, get_or-range_with_len}
use Rattle.cs_types.specs.Order.{foremost}
use Rattle.cs_types.proofs.Foremost.{find_passes, find_narrower, find_same, each_of_all, all_of_each, each_weaker}

-- ---- each element

-- what holds of each value of a function holds of the function at each element
pub each_of_map : {X Y : Type 0} (P : Y → Type 0) (f : X → Y) (xs : List X) → AllByRecursion P (map f xs) → AllByRecursion (λ x. P (f x)) xs
each_of_map P f [] h = tt
each_of_map P f (x ∷ xs) h = (h.0, each_of_map P f xs h.1)

-- what holds of each element holds of each one that a filter keeps
pub each-filter : {X : Type 0} (P : X → Type 0) (p : X → Bool) (xs : List X) → AllByRecursion P xs → AllByRecursion P (filter p xs)
each-filter P p [] h = tt
each-filter P p (x ∷ xs) h =
    cond_both (p x) (x ∷ filter p xs) (filter p xs) (AllByRecursion P) (λ _. (h.0, each-filter P p xs h.1)) (λ _. each-filter P p xs h.1)

-- what holds of each element holds of the one that a search finds
pub each_found : {X : Type 0} (P : X → Type 0) (p : X → Bool) (xs : List X) (y : X) → find p xs ≡ Some y → AllByRecursion P xs → P y
each_found P p [] y h each = absurd cc
each_found P p (x ∷ xs) y h each =
    elim (cases_Bool (p x)) [
      | inl pass ↦ let same : Some x ≡ Some y = sym (cond-true (p x) (Some x) (find p xs) pass) ∙ h in let e : x ≡ y = cc in subst P e each.0
      | inr fail ↦ each_found P p xs y (sym (cond-false (p x) (Some x) (find p xs) fail) ∙ h) each.1
    ]

-- what holds of each element that a filter keeps holds of the found one, where the filter keeps that
pub each_kept_found : {X : Type 0} (P : X → Type 0) (p q : X → Bool) (xs : List X) (y : X) → find p xs ≡ Some y → q y ≡ true → AllByRecursion P (filter q xs) → P y
each_kept_found P p q xs y h k each =
    each_found (λ x. q x ≡ true → P x) p xs y h (each_where P q xs each) k where
      each_where : {X : Type 0} (P : X → Type 0) (q : X → Bool) (xs : List X) → AllByRecursion P (filter q xs) → AllByRecursion (λ x. q x ≡ true → P x) xs
      each_where P q [] each = tt
      each_where P q (x ∷ xs) each =
          elim (cases_Bool (q x)) [
            | inl pass ↦ let all = subst (AllByRecursion P) (cond-true (q x) (x ∷ filter q xs) (filter q xs) pass) each in (λ _. all.0, each_where P q xs all.1)
            | inr fail ↦ (λ pass. absurd (both_ways (q x) fail pass), each_where P q xs (subst (AllByRecursion P) (cond-false (q x) (x ∷ filter q xs) (filter q xs) fail) each))
          ]

-- ---- searches

-- a search in what a filter keeps is a search by both tests
pub find-filter : {X : Type 0} (p q : X → Bool) (xs : List X) → find q (filter p xs) ≡ find (λ x. p x && q x) xs
find-filter p q [] = refl
find-filter p q (x ∷ xs) =
    elim (cases_Bool (p x)) [
      | inl pass ↦ simp (pass, find-filter p q xs)
      | inr fail ↦ simp (fail, find-filter p q xs)
    ]

-- what is found first under one test is found first under a stricter one that it passes
pub find_stricter : {X : Type 0} (p q : X → Bool) → ((x : X) → q x ≡ true → p x ≡ true) → (xs : List X) (y : X) → find p xs ≡ Some y → q y ≡ true → find q xs ≡ Some y
find_stricter p q within xs y h k =
    sym (find_same (λ x. p x && q x) q xs (λ x. both_tests (p x) (q x) (within x))) ∙ find_narrower p q xs y h k where
      both_tests : (a b : Bool) → (b ≡ true → a ≡ true) → (a && b) ≡ b
      both_tests true b within = refl
      both_tests false b within = grind arith

-- ---- the foremost

-- no element goes before the foremost
pub foremost_least : {X : Type 0} (lt : X → X → Bool) (xs : List X) (b : X) → foremost lt xs ≡ Some b → AllByRecursion (λ x. lt x b ≡ false) xs
foremost_least lt xs b h =
    each_weaker (λ x. not (lt x b) ≡ true) (λ x. lt x b ≡ false) xs (λ x k. not-true (lt x b) k)
    (each_of_all (λ x. not (lt x b)) xs (find_passes (λ x. list_all (λ other. not (lt other x)) xs) xs b h))

-- the foremost is also the foremost of what a filter keeps, where the filter keeps it
pub foremost-filter : {X : Type 0} (lt : X → X → Bool) → IsStrictWeakOrder lt → (p : X → Bool) (xs : List X) (b : X) →
    foremost lt xs ≡ Some b → p b ≡ true → foremost lt (filter p xs) ≡ Some b
foremost-filter {X} lt order p xs b h k =
    let least = foremost_least lt xs b h in
    let test : X → Bool = λ x. list_all (λ other. not (lt other x)) xs in
    let kept_test : X → Bool = λ x. p x && list_all (λ other. not (lt other x)) (filter p xs) in
    find-filter p (λ x. list_all (λ other. not (lt other x)) (filter p xs)) xs
    ∙ find_stricter test kept_test (λ x pass.
    let parts = and_parts (p x) _ pass in
    let later = each_kept_found (λ y. not (lt y x) ≡ true) test p xs b h k (each_of_all (λ y. not (lt y x)) (filter p xs) parts.1) in
    all_of_each (λ y. not (lt y x)) xs (each_weaker (λ y. lt y b ≡ false) (λ y. not (lt y x) ≡ true) xs
    (λ y e. not_from_false (lt y x) (order.chain y b x e (not-true (lt b x) later))) least)) xs b h
    (and_from (p b) _ k (all_of_each (λ y. not (lt y b)) (filter p xs) (each-filter (λ y. not (lt y b) ≡ true) p xs
    (each_weaker (λ y. lt y b ≡ false) (λ y. not (lt y b) ≡ true) xs (λ y e. not_from_false (lt y b) e) least))))

-- ---- what a list holds

-- an element of a list is one of the list with one more at its head
Contains-cons : {X : Type 0} (y : X) (xs : List X) (x : X) → Contains xs x → Contains (y ∷ xs) x
Contains-cons y xs x h = (suc h.0, omega (arith, h.1), h.2)

-- a filter keeps an element that passes
kept_at : {X : Type 0} (p : X → Bool) (xs : List X) (x : X) (k : ℕ) → k < length xs → get_or xs k x ≡ x → p x ≡ true → Contains (filter p xs) x
kept_at p [] x k l e pass = absurd (omega arith)
kept_at p (y ∷ xs) x zero l e pass =
    subst (λ ys. Contains ys x) (sym (cond-true (p y) (y ∷ filter p xs) (filter p xs) (ap p e ∙ pass))) (0, omega arith, e)
kept_at p (y ∷ xs) x (suc k) l e pass =
    let rest = kept_at p xs x k (omega arith) e pass in
    cond_both (p y) (y ∷ filter p xs) (filter p xs) (λ ys. Contains ys x) (λ _. Contains-cons y (filter p xs) x rest) (λ _. rest)

pub Contains-filter : {X : Type 0} (p : X → Bool) (xs : List X) (x : X) → Contains xs x → p x ≡ true → Contains (filter p xs) x
Contains-filter p xs x h pass = kept_at p xs x h.0 h.1 h.2 pass

-- what a filter keeps is of the list, and passes
pub Contains-filter_parts : {X : Type 0} (p : X → Bool) (xs : List X) (x : X) → Contains (filter p xs) x → Contains xs x × (p x ≡ true)
Contains-filter_parts p xs x h = (
  All-contains (Contains xs) (filter p xs) x (All-filter p (Contains xs) xs (All-contains_itself xs)) h,
  All-contains (λ y. p y ≡ true) (filter p xs) x (filter_passes p xs) h,
)

-- a range holds the numbers from its start up to its end
pub Contains-range : (a n x : ℕ) → a ≤ x → x < a + n → Contains (range_with_len a n) x
Contains-range a n x low high =
    (x - a, omega (arith, length-range_with_len a n), get_or-range_with_len a n (x - a) x (omega arith) ∙ omega arith)

pub Contains-range_within : (a n x : ℕ) → Contains (range_with_len a n) x → (a ≤ x) × (x < a + n)
Contains-range_within a n x h =
    let below : h.0 < n = omega (arith, length-range_with_len a n, h.1) in
    let at : a + h.0 ≡ x = sym (get_or-range_with_len a n h.0 x below) ∙ h.2 in
    (omega arith, omega arith)
