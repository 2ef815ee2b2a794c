-- Places: what is read of a sibling after a change of one or of all, and which sibling a search for an online one finds.
use Rattle.std.proofs.Common.{◌≡◌, ◌≢◌, ℕ, zero, suc, ◌+◌, ◌<◌, ◌≤◌, Bool, true, false, List, [], ◌∷◌, map, length, get_or, set, refl, sym, ap, ◌∙◌, subst, inl, inr, arith, Option, Some, None}
use Rattle.std.specs.Prelude.{find, filter, not, ◌==◌, ◌&&◌, ◌≢◌, Contains, unwrap_or}
use Rattle.std.specs.List.{AllByRecursion, enumerate_from, range_with_len}
use Rattle.std.proofs.lemmas.Bool.{cases_Bool, cond_both, cond-true, cond-false, and_parts, not-true, both_ways, eqb-true, eqb-false}
use Rattle.std.proofs.lemmas.Bool.Decides.{nat_tests}
use Rattle.std.proofs.lemmas.List.{get_or-set_same, get_or-set_other}
use Rattle.std.proofs.lemmas.List.Elements.{All-contains, All-from_recursion, recursion_from_All, All-contains_itself}
use Rattle.cs_types.specs.Room.{RoomState, SiblingState, absent, sibling_of, is_online, online, lowest_online, with_sibling}
use Rattle.cs_types.specs.Hotplug.{lowest_other}
use Rattle.cs_types.proofs.Foremost.{find_passes}
use Rattle.cs_types.proofs.Filtered.{each_found, Contains-filter, Contains-range, Contains-range_within}

-- ---- a sibling after a change

-- what holds of the sibling that is written, and of each other
pub with_sibling_at : (P : ℕ → SiblingState → Type 0) (room : RoomState) (cpu : ℕ) (sibling : SiblingState) → cpu < length room.siblings → P cpu sibling →
    ((other : ℕ) → other ≢ cpu → P other (sibling_of room other)) → (other : ℕ) → P other (sibling_of (with_sibling room cpu sibling) other)
with_sibling_at P room cpu sibling below here there other =
    elim (cases_Bool (other == cpu)) [
      | inl same ↦ subst (λ n. P n (sibling_of (with_sibling room cpu sibling) n)) (sym (eqb-true other cpu same))
          (subst (P cpu) (sym (get_or-set_same room.siblings cpu sibling absent below)) here)
      | inr isnt ↦ let differ = eqb-false other cpu isnt in subst (P other) (sym (get_or-set_other room.siblings cpu other sibling absent differ)) (there other differ)
    ]

set_either : {X : Type 0} (P : X → Type 0) (xs : List X) (i : ℕ) (x : X) (j : ℕ) (d : X) → (i ≡ j → P x) → P (get_or xs j d) → P (get_or (set xs i x) j d)
set_either P [] i x j d here there = there
set_either P (y ∷ xs) zero x zero d here there = here refl
set_either P (y ∷ xs) zero x (suc j) d here there = there
set_either P (y ∷ xs) (suc i) x zero d here there = there
set_either P (y ∷ xs) (suc i) x (suc j) d here there = set_either P xs i x j d (λ e. here (ap suc e)) there

-- the same where the written one may be past the end
pub with_sibling_either : (P : ℕ → SiblingState → Type 0) (room : RoomState) (cpu : ℕ) (sibling : SiblingState) → P cpu sibling →
    ((other : ℕ) → P other (sibling_of room other)) → (other : ℕ) → P other (sibling_of (with_sibling room cpu sibling) other)
with_sibling_either P room cpu sibling here there other =
    set_either (P other) room.siblings cpu sibling other absent (λ same. subst (λ n. P n sibling) same here) (there other)

-- what holds of each sibling that is changed
pub mapped_at : (P : SiblingState → Type 0) (g : SiblingState → SiblingState) (siblings : List SiblingState) (other : ℕ) → P absent →
    P (g (get_or siblings other absent)) → P (get_or (map g siblings) other absent)
mapped_at P g [] other past is = past
mapped_at P g (sibling ∷ siblings) zero past is = is
mapped_at P g (sibling ∷ siblings) (suc other) past is = mapped_at P g siblings other past is

-- the same by its place
pub enumerated_at : (P : SiblingState → Type 0) (g : ℕ × SiblingState → SiblingState) (n : ℕ) (siblings : List SiblingState) (other : ℕ) →
    (get_or siblings other absent ≡ absent → P absent) → P (g (n + other, get_or siblings other absent)) → P (get_or (map g (enumerate_from n siblings)) other absent)
enumerated_at P g n [] other past is = past refl
enumerated_at P g n (sibling ∷ siblings) zero past is = subst (λ k. P (g (k, sibling))) (omega arith) is
enumerated_at P g n (sibling ∷ siblings) (suc other) past is =
    enumerated_at P g (n + 1) siblings other past (subst (λ k. P (g (k, get_or siblings other absent))) (omega arith) is)

-- ---- searches

each_fails : {X : Type 0} (p : X → Bool) (xs : List X) → find p xs ≡ None → AllByRecursion (λ x. p x ≡ false) xs
each_fails p [] none = tt
each_fails p (x ∷ xs) none =
    elim (cases_Bool (p x)) [
      | inl pass ↦ let bad : Some x ≡ None = sym (cond-true (p x) (Some x) (find p xs) pass) ∙ none in absurd cc
      | inr fail ↦ (fail, each_fails p xs (sym (cond-false (p x) (Some x) (find p xs) fail) ∙ none))
    ]

-- a search in a list that has one that passes finds one that passes, of the list
pub some_found : (p : ℕ → Bool) (xs : List ℕ) (x : ℕ) → Contains xs x → p x ≡ true → let found = unwrap_or (find p xs) 0 in (p found ≡ true) × Contains xs found
some_found p xs x held pass = go (find p xs) refl where
  go : (found : Option ℕ) → find p xs ≡ found → (p (unwrap_or found 0) ≡ true) × Contains xs (unwrap_or found 0)
  go None none = absurd (both_ways (p x) (All-contains (λ y. p y ≡ false) xs x (All-from_recursion (λ y. p y ≡ false) xs (each_fails p xs none)) held) pass)
  go (Some y) found =
      (find_passes p xs y found, each_found (Contains xs) p xs y found (recursion_from_All (Contains xs) xs (All-contains_itself xs)))

-- Where some sibling is online, the lowest one is.
pub lowest_online_is : (room : RoomState) (cpu : ℕ) → cpu < length room.siblings → is_online room cpu ≡ true → is_online room (lowest_online room) ≡ true
lowest_online_is room cpu below up =
    (some_found (is_online room) (range_with_len 0 (length room.siblings)) cpu (Contains-range 0 (length room.siblings) cpu (omega arith) (omega (arith, below))) up).0

-- of a range in which none but one number passes no later number passes
none_later : (p : ℕ → Bool) (cpu a n : ℕ) → cpu < a → AllByRecursion (λ x. (p x && not (x == cpu)) ≡ false) (range_with_len a n) → filter p (range_with_len a n) ≡ []
none_later p cpu a zero under fails = refl
none_later p cpu a (suc n) under fails =
    let later : (a == cpu) ≡ false = grind (arith, nat_tests) in
    let fail : p a ≡ false = only (p a) (a == cpu) later fails.0 in
    cond-false (p a) (a ∷ filter p (range_with_len (a + 1) n)) (filter p (range_with_len (a + 1) n)) fail ∙ none_later p cpu (a + 1) n (omega arith) fails.1 where
      only : (b c : Bool) → c ≡ false → (b && not c) ≡ false → b ≡ false
      only true true isnt fails = absurd cc
      only true false isnt fails = fails
      only false c isnt fails = refl

-- so one passes at most
one_at_most : (p : ℕ → Bool) (cpu a n : ℕ) → AllByRecursion (λ x. (p x && not (x == cpu)) ≡ false) (range_with_len a n) → length (filter p (range_with_len a n)) ≤ 1
one_at_most p cpu a zero fails = omega arith
one_at_most p cpu a (suc n) fails =
    cond_both (p a) (a ∷ filter p (range_with_len (a + 1) n)) (filter p (range_with_len (a + 1) n)) (λ xs. length xs ≤ 1)
    (λ pass. let same : (a == cpu) ≡ true = only (p a) (a == cpu) pass fails.0 in
    let at : a ≡ cpu = eqb-true a cpu same in
    omega (arith, ap length (none_later p cpu (a + 1) n (omega arith) fails.1)))
    (λ _. one_at_most p cpu (a + 1) n fails.1) where
      only : (b c : Bool) → b ≡ true → (b && not c) ≡ false → c ≡ true
      only true true pass fails = refl
      only true false pass fails = sym fails
      only false c pass fails = absurd cc

-- Where an online sibling is not the only one, the lowest other one is online.
pub lowest_other_is : (room : RoomState) (cpu : ℕ) → cpu < length room.siblings → is_online room cpu ≡ true → length (online room) ≢ 1 →
    (lowest_other room cpu < length room.siblings) × (is_online room (lowest_other room cpu) ≡ true) × (lowest_other room cpu ≢ cpu)
lowest_other_is room cpu below up more = go (find test siblings) refl where
  siblings : List ℕ
  siblings = range_with_len 0 (length room.siblings)

  test : ℕ → Bool
  test other = is_online room other && not (other == cpu)

  go : (found : Option ℕ) → find test siblings ≡ found →
      (unwrap_or found 0 < length room.siblings) × (is_online room (unwrap_or found 0) ≡ true) × (unwrap_or found 0 ≢ cpu)
  go None none =
      let held = Contains-filter (is_online room) siblings cpu (Contains-range 0 (length room.siblings) cpu (omega arith) (omega (arith, below))) up in
      absurd (more (omega (arith, held.1, one_at_most (is_online room) cpu 0 (length room.siblings) (each_fails test siblings none))))
  go (Some other) found =
      let parts = and_parts (is_online room other) (not (other == cpu)) (find_passes test siblings other found) in
      let held = each_found (Contains siblings) test siblings other found (recursion_from_All (Contains siblings) siblings (All-contains_itself siblings)) in
      let within = Contains-range_within 0 (length room.siblings) other held in
      (omega (arith, within.1), parts.0, eqb-false other cpu (not-true (other == cpu) parts.1))
