-- Enumerated: a list looked through from its foremost on, each time at the foremost of those behind the last, until one passes.
use Rattle.std.proofs.Common.{◌≡◌, ◌⊎◌, inl, inr, ℕ, suc, ◌<◌, ◌≤◌, Bool, true, false, List, [], length, refl, sym, ap, ◌∙◌, Option, Some, None, arith}
use Rattle.std.specs.Prelude.{filter, not, Contains}
use Rattle.std.specs.Cmp.{IsStrictWeakOrder}
use Rattle.std.specs.List.{list_all}
use Rattle.std.proofs.lemmas.Bool.{cases_Bool, both_ways}
use Rattle.std.proofs.lemmas.List.Filters.{length-filter_both}
use Rattle.std.proofs.lemmas.List.Elements.{All-contains, All-contains_itself, All-from_recursion, recursion_from_All}
use Rattle.cs_types.specs.Order.{foremost}
use Rattle.core_lanes.proofs.Lists.{fewer}
use Rattle.cs_types.proofs.Foremost.{foremost_none, not_before_itself}
use Rattle.cs_types.proofs.Filtered.{each_found, foremost_least, Contains-filter, Contains-filter_parts}

-- ---- the foremost

nobody : {X : Type 0} (xs : List X) (x : X) → xs ≡ [] → Contains xs x → ⊥
nobody xs x none there = let below : there.0 < length xs = there.1 in absurd (omega (arith, below, ap length none))

-- the foremost is one of the list, and none goes before it
pub foremost_parts : {X : Type 0} (lt : X → X → Bool) (xs : List X) (b : X) → foremost lt xs ≡ Some b → Contains xs b × ((x : X) → Contains xs x → lt x b ≡ false)
foremost_parts {X} lt xs b h = (
  each_found (Contains xs) (λ x. list_all (λ other. not (lt other x)) xs) xs b h (recursion_from_All (Contains xs) xs (All-contains_itself xs)),
  λ x there. All-contains (λ y. lt y b ≡ false) xs x (All-from_recursion (λ y. lt y b ≡ false) xs (foremost_least lt xs b h)) there,
)

module _ {X : Type 0} (lt : X → X → Bool) (order : IsStrictWeakOrder lt) where
  -- one than which every other goes later is the foremost
  only : (xs : List X) (b : X) → Contains xs b → ((x : X) → Contains xs x → lt b x ≡ false → x ≡ b) → foremost lt xs ≡ Some b
  only xs b there alone = go (foremost lt xs) refl where
    go : (o : Option X) → foremost lt xs ≡ o → foremost lt xs ≡ Some b
    go None h = absurd (nobody xs b (foremost_none lt order xs h) there)
    go (Some c) h = let parts = foremost_parts lt xs c h in h ∙ ap Some (alone c parts.0 (parts.1 b there))

  -- what goes before one goes before those behind it
  further : (a b c : X) → lt a b ≡ true → lt b c ≡ true → lt a c ≡ true
  further a b c one two =
      elim (cases_Bool (lt a c)) [
        | inl pass ↦ pass
        | inr fail ↦ absurd (both_ways (lt a b) (order.chain a c b fail (order.one_way b c two)) one)
      ]

-- ---- the search

module _ {X : Type 0} (lt : X → X → Bool) (xs : List X) where
  -- those behind one
  abbrev after : X → List X
  after x = filter (λ other. lt x other) xs

  -- Those that pass stand at this one, which is one of the list, or after it. If there is none, none passes.
  abbrev pub IsLeft : (X → Bool) → Option X → Type 0
  IsLeft may None = (x : X) → Contains xs x → may x ≡ false
  IsLeft may (Some t) = Contains xs t × ((x : X) → Contains xs x → may x ≡ true → (lt t x ≡ true) ⊎ (x ≡ t))

  -- how many are still to be looked at
  abbrev pub to_go : Option X → ℕ
  to_go None = 0
  to_go (Some t) = suc (length (after t))

module _ {X : Type 0} (lt : X → X → Bool) (order : IsStrictWeakOrder lt) (xs : List X)
    (single : (x y : X) → Contains xs x → Contains xs y → lt x y ≡ false → lt y x ≡ false → x ≡ y) (may : X → Bool) where
  pub left_first : IsLeft lt xs may (foremost lt xs)
  left_first = go (foremost lt xs) refl where
    go : (o : Option X) → foremost lt xs ≡ o → IsLeft lt xs may o
    go None h = λ x there. absurd (nobody xs x (foremost_none lt order xs h) there)
    go (Some t) h =
        let parts = foremost_parts lt xs t h in (
          parts.0,
          λ x there pass. elim (cases_Bool (lt t x)) [
            | inl before ↦ inl before
            | inr not_so ↦ inr (single x t there parts.0 (parts.1 x there) not_so)
          ],
        )

  pub left_next : (t : X) → IsLeft lt xs may (Some t) → may t ≡ false → IsLeft lt xs may (foremost lt (after lt xs t))
  left_next t left off = go (foremost lt (after lt xs t)) refl where
    isnt : (x : X) → x ≡ t → may x ≡ true → ⊥
    isnt x same pass = both_ways (may t) off (ap may (sym same) ∙ pass)

    go : (o : Option X) → foremost lt (after lt xs t) ≡ o → IsLeft lt xs may o
    go None h = λ x there. elim (cases_Bool (may x)) [
      | inl pass ↦
          elim (left.1 x there pass) [
            | inl behind ↦ absurd (nobody (after lt xs t) x (foremost_none lt order (after lt xs t) h) (Contains-filter (λ other. lt t other) xs x there behind))
            | inr same ↦ absurd (isnt x same pass)
          ]
      | inr fail ↦ fail
    ]
    go (Some s) h =
        let parts = foremost_parts lt (after lt xs t) s h in
        let one = Contains-filter_parts (λ other. lt t other) xs s parts.0 in (
          one.0,
          λ x there pass. elim (left.1 x there pass) [
            | inl behind ↦
                elim (cases_Bool (lt s x)) [
                  | inl before ↦ inl before
                  | inr not_so ↦ inr (single x s there one.0 (parts.1 x (Contains-filter (λ other. lt t other) xs x there behind)) not_so)
                ]
            | inr same ↦ absurd (isnt x same pass)
          ],
        )

  -- at the foremost no more than all are still to be looked at
  pub to_go_first : to_go lt xs (foremost lt xs) ≤ length xs
  to_go_first = go (foremost lt xs) refl where
    go : (o : Option X) → foremost lt xs ≡ o → to_go lt xs o ≤ length xs
    go None h = omega arith
    go (Some t) h =
        let itself = Contains-filter (λ other. not (lt t other)) xs t (foremost_parts lt xs t h).0 (ap not (not_before_itself lt order t)) in
        let below : itself.0 < length (filter (λ other. not (lt t other)) xs) = itself.1 in
        omega (arith, below, length-filter_both (λ other. lt t other) (λ other. not (lt t other)) (λ other. refl) xs)

  -- each turn looks at one more
  pub to_go_falls : (t : X) → to_go lt xs (foremost lt (after lt xs t)) < to_go lt xs (Some t)
  to_go_falls t = go (foremost lt (after lt xs t)) refl where
    go : (o : Option X) → foremost lt (after lt xs t) ≡ o → to_go lt xs o < suc (length (after lt xs t))
    go None h = omega arith
    go (Some s) h =
        let one = Contains-filter_parts (λ other. lt t other) xs s (foremost_parts lt (after lt xs t) s h).0 in
        let less = fewer (λ other. lt s other) (λ other. lt t other) (λ x behind. further lt order t s x one.1 behind) xs s one.0 (not_before_itself lt order s) one.1 in
        omega (arith, less)

  -- what is found is the first that passes
  pub left_found : (t : X) → IsLeft lt xs may (Some t) → may t ≡ true → foremost lt (filter may xs) ≡ Some t
  left_found t left pass =
      only lt order (filter may xs) t (Contains-filter may xs t left.0 pass) (λ x there later.
      let one = Contains-filter_parts may xs x there in
      elim (left.1 x one.0 one.1) [
        | inl behind ↦ absurd (both_ways (lt t x) later behind)
        | inr same ↦ same
      ])

  pub left_none : IsLeft lt xs may None → foremost lt (filter may xs) ≡ None
  left_none left = go (foremost lt (filter may xs)) refl where
    go : (o : Option X) → foremost lt (filter may xs) ≡ o → foremost lt (filter may xs) ≡ None
    go None h = h
    go (Some t) h =
        let one = Contains-filter_parts may xs t (foremost_parts lt (filter may xs) t h).0 in
        absurd (both_ways (may t) (left t one.0) one.1)
