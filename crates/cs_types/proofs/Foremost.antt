-- The foremost of a list under any strict weak order, as a scan from its start finds it.
use Rattle.std.proofs.Common.{◌≡◌, Bool, true, false, cond, not, List, [], ◌∷◌, ◌++◌, refl, sym, ap, ◌∙◌, inl, inr, append_assoc, Option, Some, None}
use Rattle.std.specs.Prelude.{◌&&◌, find}
use Rattle.std.specs.Cmp.{IsStrictWeakOrder}
use Rattle.std.specs.List.{list_all, AllByRecursion, fold, reduce}
use Rattle.std.specs.Option.{option_map_or}
use Rattle.std.proofs.lemmas.Bool.{cases_Bool, and_parts, and_from, and_left, and_right, both_ways, not-true, not_from_false, not_from_true, cond-true, cond-false}
use Rattle.std.proofs.lemmas.List.{append-nil}
use Rattle.std.proofs.lemmas.List.Folds.{list_all-append}
use Rattle.cs_types.specs.Order.{foremost}

-- ---- what a search finds

-- a search that comes to nothing met no element that passes
pub find_none : {X : Type 0} (p : X → Bool) (xs : List X) → AllByRecursion (λ x. p x ≡ false) xs → find p xs ≡ None
find_none p [] h = refl
find_none p (x ∷ xs) h = cond-false (p x) (Some x) (find p xs) h.0 ∙ find_none p xs h.1

-- a search in a longer list that comes to nothing in its prefix goes on
pub find-append_none : {X : Type 0} (p : X → Bool) (xs ys : List X) → find p xs ≡ None → find p (xs ++ ys) ≡ find p ys
find-append_none p [] ys h = refl
find-append_none {X} p (x ∷ xs) ys h =
    elim (cases_Bool (p x)) [
      | inl pass ↦ let bad : Some x ≡ None = sym (cond-true (p x) (Some x) (find p xs) pass) ∙ h in absurd cc
      | inr fail ↦ cond-false (p x) (Some x) (find p (xs ++ ys)) fail ∙ find-append_none p xs ys (sym (cond-false (p x) (Some x) (find p xs) fail) ∙ h)
    ]

pub find-append_some : {X : Type 0} (p : X → Bool) (xs ys : List X) (y : X) → find p xs ≡ Some y → find p (xs ++ ys) ≡ Some y
find-append_some p [] ys y h = absurd cc
find-append_some p (x ∷ xs) ys y h =
    elim (cases_Bool (p x)) [
      | inl pass ↦ cond-true (p x) (Some x) (find p (xs ++ ys)) pass ∙ (sym (cond-true (p x) (Some x) (find p xs) pass) ∙ h)
      | inr fail ↦ cond-false (p x) (Some x) (find p (xs ++ ys)) fail ∙ find-append_some p xs ys y (sym (cond-false (p x) (Some x) (find p xs) fail) ∙ h)
    ]

-- what is found passes
pub find_passes : {X : Type 0} (p : X → Bool) (xs : List X) (y : X) → find p xs ≡ Some y → p y ≡ true
find_passes p [] y h = absurd cc
find_passes p (x ∷ xs) y h =
    elim (cases_Bool (p x)) [
      | inl pass ↦ let same : Some x ≡ Some y = sym (cond-true (p x) (Some x) (find p xs) pass) ∙ h in let e : x ≡ y = cc in ap p (sym e) ∙ pass
      | inr fail ↦ find_passes p xs y (sym (cond-false (p x) (Some x) (find p xs) fail) ∙ h)
    ]

-- what is found first under one test is found first under a narrower one that it passes
pub find_narrower : {X : Type 0} (p q : X → Bool) (xs : List X) (y : X) → find p xs ≡ Some y → q y ≡ true → find (λ x. p x && q x) xs ≡ Some y
find_narrower p q [] y h k = absurd cc
find_narrower p q (x ∷ xs) y h k =
    elim (cases_Bool (p x)) [
      | inl pass ↦
          let same : Some x ≡ Some y = sym (cond-true (p x) (Some x) (find p xs) pass) ∙ h in
          let e : x ≡ y = cc in
          cond-true (p x && q x) (Some x) (find (λ z. p z && q z) xs) (and_from (p x) (q x) pass (ap q e ∙ k)) ∙ same
      | inr fail ↦
          cond-false (p x && q x) (Some x) (find (λ z. p z && q z) xs) (and_left (p x) (q x) fail)
          ∙ find_narrower p q xs y (sym (cond-false (p x) (Some x) (find p xs) fail) ∙ h) k
    ]

pub find_same : {X : Type 0} (p q : X → Bool) (xs : List X) → ((x : X) → p x ≡ q x) → find p xs ≡ find q xs
find_same p q [] h = refl
find_same p q (x ∷ xs) h = ap (λ b. cond b (Some x) (find p xs)) (h x) ∙ ap (cond (q x) (Some x)) (find_same p q xs h)

pub each_of_all : {X : Type 0} (p : X → Bool) (xs : List X) → list_all p xs ≡ true → AllByRecursion (λ x. p x ≡ true) xs
each_of_all p [] h = tt
each_of_all p (x ∷ xs) h = let parts = and_parts (p x) (list_all p xs) h in (parts.0, each_of_all p xs parts.1)

pub all_of_each : {X : Type 0} (p : X → Bool) (xs : List X) → AllByRecursion (λ x. p x ≡ true) xs → list_all p xs ≡ true
all_of_each p [] h = refl
all_of_each p (x ∷ xs) h = and_from (p x) (list_all p xs) h.0 (all_of_each p xs h.1)

pub each_weaker : {X : Type 0} (P Q : X → Type 0) (xs : List X) → ((x : X) → P x → Q x) → AllByRecursion P xs → AllByRecursion Q xs
each_weaker P Q [] f h = tt
each_weaker P Q (x ∷ xs) f h = (f x h.0, each_weaker P Q xs f h.1)

-- ---- the foremost

and-true : (b : Bool) → (b && true) ≡ b
and-true true = refl
and-true false = refl

module _ {X : Type 0} (lt : X → X → Bool) (order : IsStrictWeakOrder lt) where
  pub not_before_itself : (x : X) → lt x x ≡ false
  not_before_itself x =
      elim (cases_Bool (lt x x)) [
        | inl pass ↦ order.one_way x x pass
        | inr fail ↦ fail
      ]

  -- with one more element in the list, an element has to come to terms with that one too
  pub foremost-push : (xs : List X) (t : X) →
      foremost lt (xs ++ t ∷ []) ≡ find (λ x. list_all (λ other. not (lt other x)) xs && not (lt t x)) (xs ++ t ∷ [])
  foremost-push xs t =
      find_same _ (λ x. list_all (λ other. not (lt other x)) xs && not (lt t x)) (xs ++ t ∷ []) (λ x.
      list_all-append (λ other. not (lt other x)) xs (t ∷ [])
      ∙ ap (λ b. list_all (λ other. not (lt other x)) xs && b) (and-true (not (lt t x))))

  -- a later element that does not go before the least so far leaves it
  pub foremost_keeps : (xs : List X) (b t : X) → foremost lt xs ≡ Some b → lt t b ≡ false → foremost lt (xs ++ t ∷ []) ≡ Some b
  foremost_keeps xs b t h later =
      foremost-push xs t
      ∙ find-append_some (λ x. list_all (λ other. not (lt other x)) xs && not (lt t x)) xs (t ∷ []) b
      (find_narrower (λ x. list_all (λ other. not (lt other x)) xs) (λ x. not (lt t x)) xs b h (not_from_false (lt t b) later))

  -- and one that goes before it takes its place
  pub foremost_takes : (xs : List X) (b t : X) → foremost lt xs ≡ Some b → lt t b ≡ true → foremost lt (xs ++ t ∷ []) ≡ Some t
  foremost_takes xs b t h earlier =
      let at_b = each_of_all (λ other. not (lt other b)) xs (find_passes (λ x. list_all (λ other. not (lt other x)) xs) xs b h) in
      let beaten : AllByRecursion (λ x. (list_all (λ other. not (lt other x)) xs && not (lt t x)) ≡ false) xs =
      each_weaker (λ x. not (lt x b) ≡ true) (λ x. (list_all (λ other. not (lt other x)) xs && not (lt t x)) ≡ false) xs (λ x k.
      and_right (list_all (λ other. not (lt other x)) xs) (not (lt t x)) (not_from_true (lt t x)
      (elim (cases_Bool (lt t x)) [
        | inl pass ↦ pass
        | inr fail ↦ absurd (both_ways (lt t b) (order.chain t x b fail (not-true (lt x b) k)) earlier)
      ]))) at_b in
      let best : AllByRecursion (λ x. not (lt x t) ≡ true) xs =
      each_weaker (λ x. not (lt x b) ≡ true) (λ x. not (lt x t) ≡ true) xs (λ x k.
      not_from_false (lt x t) (order.chain x b t (not-true (lt x b) k) (order.one_way t b earlier))) at_b in
      foremost-push xs t
      ∙ find-append_none (λ x. list_all (λ other. not (lt other x)) xs && not (lt t x)) xs (t ∷ [])
      (find_none (λ x. list_all (λ other. not (lt other x)) xs && not (lt t x)) xs beaten)
      ∙ cond-true (list_all (λ other. not (lt other t)) xs && not (lt t t)) (Some t) None
      (and_from (list_all (λ other. not (lt other t)) xs) (not (lt t t)) (all_of_each (λ other. not (lt other t)) xs best) (not_from_false (lt t t) (not_before_itself t)))

  pub foremost_one : (t : X) → foremost lt (t ∷ []) ≡ Some t
  foremost_one t =
      cond-true (not (lt t t) && true) (Some t) None (and_from (not (lt t t)) true (not_from_false (lt t t) (not_before_itself t)) refl)

  -- once there is a foremost element, there is one in every longer list
  pub foremost_goes_on : (prefix : List X) (b : X) → foremost lt prefix ≡ Some b → (rest : List X) → (c : X) × (foremost lt (prefix ++ rest) ≡ Some c)
  foremost_goes_on prefix b h [] = (b, ap (foremost lt) (append-nil prefix) ∙ h)
  foremost_goes_on prefix b h (t ∷ rest) =
      let more : (c : X) × (foremost lt (prefix ++ t ∷ []) ≡ Some c) =
      elim (cases_Bool (lt t b)) [
        | inl pass ↦ (t, foremost_takes prefix b t h pass)
        | inr fail ↦ (b, foremost_keeps prefix b t h fail)
      ] in
      let all = foremost_goes_on (prefix ++ t ∷ []) more.0 more.1 rest in
      (all.0, ap (foremost lt) (sym (append_assoc prefix (t ∷ []) rest)) ∙ all.1)

  -- only the empty list has no foremost element
  pub foremost_none : (xs : List X) → foremost lt xs ≡ None → xs ≡ []
  foremost_none [] h = refl
  foremost_none (x ∷ xs) h =
      let found = foremost_goes_on (x ∷ []) x (foremost_one x) xs in
      let bad : Some found.0 ≡ None = sym found.1 ∙ h in
      absurd cc

  -- the foremost element of a list with one more at its end
  pub foremost_more : (xs : List X) (t : X) →
      foremost lt (xs ++ t ∷ []) ≡ Some (option_map_or (λ b. cond (lt t b) t b) (foremost lt xs) t)
  foremost_more xs t = foremost_more_from (foremost lt xs) refl where
    foremost_more_from : (o : Option X) → foremost lt xs ≡ o → foremost lt (xs ++ t ∷ []) ≡ Some (option_map_or (λ b. cond (lt t b) t b) o t)
    foremost_more_from None h = ap (λ (ys : List X). foremost lt (ys ++ t ∷ [])) (foremost_none xs h) ∙ foremost_one t
    foremost_more_from (Some b) h =
        elim (cases_Bool (lt t b)) [
          | inl pass ↦ foremost_takes xs b t h pass ∙ ap Some (sym (cond-true (lt t b) t b pass))
          | inr fail ↦ foremost_keeps xs b t h fail ∙ ap Some (sym (cond-false (lt t b) t b fail))
        ]

  -- the better of two, as a scan from the start of a list keeps it
  abbrev pub better : X → X → X
  better first x = cond (lt x first) x first

  foremost-append : (prefix : List X) (first : X) → foremost lt prefix ≡ Some first → (xs : List X) →
      foremost lt (prefix ++ xs) ≡ Some (fold better first xs)
  foremost-append prefix first h [] = ap (foremost lt) (append-nil prefix) ∙ h
  foremost-append prefix first h (x ∷ xs) =
      ap (foremost lt) (sym (append_assoc prefix (x ∷ []) xs))
      ∙ foremost-append (prefix ++ x ∷ []) (better first x)
      (foremost_more prefix x ∙ ap (λ o. Some (option_map_or (λ b. better b x) o x)) h) xs

  -- a scan that keeps the better of two finds the foremost
  pub foremost_reduce : (xs : List X) → foremost lt xs ≡ reduce better xs
  foremost_reduce [] = refl
  foremost_reduce (x ∷ xs) = foremost-append (x ∷ []) x (foremost_one x) xs
