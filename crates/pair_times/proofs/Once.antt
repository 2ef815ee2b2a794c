-- Once: that each pair of two keys is met once.
use Rattle.std.proofs.Common.{◌≡◌, ◌≢◌, ℕ, ◌+◌, ◌<◌, Bool, true, false, cond, List, length, take, get_or, refl, sym, ap, ◌∙◌, inl, inr, arith}
use Rattle.std.specs.Prelude.{◌==◌, ◌&&◌, ◌||◌, AllPairs, min, max}
use Rattle.std.proofs.lemmas.Bool.{cases_eq, cases_lt, cases_Bool, eq-eqb, ne_eqb}
use Rattle.std.proofs.lemmas.Bool.Decides.{nat_tests}
use Rattle.std.proofs.lemmas.List.{get_or-take, get_or_default, length-take-le}
use Rattle.std.proofs.lemmas.List.Folds.{list_any_more, list_any_none, list_any_at}
use Rattle.pair_times.specs.Added.{has, joins}

-- one of distinct keys is not among those before it
pub new_here : (xs : List ℕ) (i d : ℕ) → AllPairs (λ x y. x ≢ y) xs → i < length xs → has (get_or xs i d) (take i xs) ≡ false
new_here xs i d distinct few =
    list_any_none (λ (other : ℕ). other == get_or xs i d) (take i xs)
    (λ k e under.
    let below : k < i = omega (arith, under, length-take-le i xs (omega (arith, few))) in
    ne_eqb (get_or (take i xs) k e) (get_or xs i d)
    (λ same. distinct k i e below few (sym (get_or-take i xs k e below) ∙ same ∙ get_or_default xs i d e few)))

-- a key has its pairs with the others, and with one other more
more_by : (key other a b time : ℕ) (p q : Bool) → a < b → other ≢ key → (other ≡ b → p ≡ false) → (other ≡ a → q ≡ false) →
    cond ((key == a && (p || (other == b))) || (key == b && (q || (other == a)))) time 0
    ≡ cond ((key == a && p) || (key == b && q)) time 0 + cond ((min key other == a) && (max key other == b)) time 0
more_by key other a b time p q lt apart at_b at_a = elim (cases_lt key other) [
  | inl below ↦
      let low : min key other ≡ key = omega (arith, below) in
      let high : max key other ≡ other = omega (arith, below) in
      rw (low, high) (elim (cases_Bool p) [
        | inl here ↦ elim (cases_Bool q) [ inl also ↦ grind (arith, nat_tests) | inr lacks ↦ grind (arith, nat_tests) ]
        | inr gone ↦ elim (cases_Bool q) [ inl also ↦ grind (arith, nat_tests) | inr lacks ↦ grind (arith, nat_tests) ]
      ])
  | inr above ↦
      let low : min key other ≡ other = omega (arith, above) in
      let high : max key other ≡ key = omega (arith, above) in
      rw (low, high) (elim (cases_Bool p) [
        | inl here ↦ elim (cases_Bool q) [ inl also ↦ grind (arith, nat_tests) | inr lacks ↦ grind (arith, nat_tests) ]
        | inr gone ↦ elim (cases_Bool q) [ inl also ↦ grind (arith, nat_tests) | inr lacks ↦ grind (arith, nat_tests) ]
      ])
]

pub joins_more : (key : ℕ) (others : List ℕ) (i d a b time : ℕ) → AllPairs (λ x y. x ≢ y) others → i < length others → get_or others i d ≢ key → a < b →
    cond (joins key (take (i + 1) others) a b) time 0
    ≡ cond (joins key (take i others) a b) time 0 + cond ((min key (get_or others i d) == a) && (max key (get_or others i d) == b)) time 0
joins_more key others i d a b time distinct few apart lt =
    let new = new_here others i d distinct few in
    (λ j. cond ((key == a && list_any_more (λ (o : ℕ). o == b) others i d few j) || (key == b && list_any_more (λ (o : ℕ). o == a) others i d few j)) time 0)
    ∙ more_by key (get_or others i d) a b time (has b (take i others)) (has a (take i others)) lt apart
    (λ same. ap (λ (o : ℕ). has o (take i others)) (sym same) ∙ new)
    (λ same. ap (λ (o : ℕ). has o (take i others)) (sym same) ∙ new)

-- the pair of a key with one of the others is none with those before it, and is one with all of them
pub joins_new : (key : ℕ) (others : List ℕ) (i d : ℕ) → AllPairs (λ x y. x ≢ y) others → i < length others → get_or others i d ≢ key →
    joins key (take i others) (min key (get_or others i d)) (max key (get_or others i d)) ≡ false
joins_new key others i d distinct few apart = by (has (min key o) before) (has (max key o) before) refl refl where
  o : ℕ
  o = get_or others i d

  before : List ℕ
  before = take i others

  new : has o before ≡ false
  new = new_here others i d distinct few

  by : (q p : Bool) → has (min key o) before ≡ q → has (max key o) before ≡ p →
      ((key == min key o) && p) || ((key == max key o) && q) ≡ false
  by q p is_q is_p = elim (cases_lt key o) [
    | inl below ↦
        let low : min key o ≡ key = omega (arith, below) in
        let high : max key o ≡ o = omega (arith, below) in
        let none : p ≡ false = sym is_p ∙ ap (λ (n : ℕ). has n before) high ∙ new in
        rw (low, high, none) (grind (arith, nat_tests))
    | inr above ↦
        let low : min key o ≡ o = omega (arith, above) in
        let high : max key o ≡ key = omega (arith, above) in
        let none : q ≡ false = sym is_q ∙ ap (λ (n : ℕ). has n before) low ∙ new in
        rw (low, high, none) (grind (arith, nat_tests))
  ]

pub joins_here : (key : ℕ) (others : List ℕ) (i d : ℕ) → i < length others → get_or others i d ≢ key →
    joins key others (min key (get_or others i d)) (max key (get_or others i d)) ≡ true
joins_here key others i d few apart = by (has (min key o) others) (has (max key o) others) refl refl where
  o : ℕ
  o = get_or others i d

  there : has o others ≡ true
  there = list_any_at (λ (other : ℕ). other == o) others i d few (eq-eqb o o refl)

  by : (q p : Bool) → has (min key o) others ≡ q → has (max key o) others ≡ p →
      ((key == min key o) && p) || ((key == max key o) && q) ≡ true
  by q p is_q is_p = elim (cases_lt key o) [
    | inl below ↦
        let low : min key o ≡ key = omega (arith, below) in
        let high : max key o ≡ o = omega (arith, below) in
        let some : p ≡ true = sym is_p ∙ ap (λ (n : ℕ). has n others) high ∙ there in
        rw (low, high, some) (grind (arith, nat_tests))
    | inr above ↦
        let low : min key o ≡ o = omega (arith, above) in
        let high : max key o ≡ key = omega (arith, above) in
        let some : q ≡ true = sym is_q ∙ ap (λ (n : ℕ). has n others) low ∙ there in
        rw (low, high, some) (grind (arith, nat_tests))
  ]

-- ---- the pairs of a list

-- one key more has its pairs with those before it
both_by : (key a b time : ℕ) (p q : Bool) → a < b → (key ≡ b → p ≡ false) → (key ≡ a → q ≡ false) →
    cond ((q || (key == a)) && (p || (key == b))) time 0
    ≡ cond (q && p) time 0 + cond ((key == a && p) || (key == b && q)) time 0
both_by key a b time p q lt at_b at_a = elim (cases_Bool p) [
  | inl here ↦ elim (cases_Bool q) [ inl also ↦ grind (arith, nat_tests) | inr lacks ↦ grind (arith, nat_tests) ]
  | inr gone ↦ elim (cases_Bool q) [ inl also ↦ grind (arith, nat_tests) | inr lacks ↦ grind (arith, nat_tests) ]
]

pub both_more : (keys : List ℕ) (i d a b time : ℕ) → AllPairs (λ x y. x ≢ y) keys → i < length keys → a < b →
    cond (has a (take (i + 1) keys) && has b (take (i + 1) keys)) time 0
    ≡ cond (has a (take i keys) && has b (take i keys)) time 0 + cond (joins (get_or keys i d) (take i keys) a b) time 0
both_more keys i d a b time distinct few lt =
    let new = new_here keys i d distinct few in
    (λ j. cond (list_any_more (λ (o : ℕ). o == a) keys i d few j && list_any_more (λ (o : ℕ). o == b) keys i d few j) time 0)
    ∙ both_by (get_or keys i d) a b time (has b (take i keys)) (has a (take i keys)) lt
    (λ same. ap (λ (o : ℕ). has o (take i keys)) (sym same) ∙ new)
    (λ same. ap (λ (o : ℕ). has o (take i keys)) (sym same) ∙ new)

-- and they are none of the pairs before
pub both_new : (keys : List ℕ) (i d a b : ℕ) → AllPairs (λ x y. x ≢ y) keys → i < length keys →
    joins (get_or keys i d) (take i keys) a b ≡ true → has a (take i keys) && has b (take i keys) ≡ false
both_new keys i d a b distinct few joined = by (has a before) (has b before) refl refl where
  o : ℕ
  o = get_or keys i d

  before : List ℕ
  before = take i keys

  new : has o before ≡ false
  new = new_here keys i d distinct few

  by : (q p : Bool) → has a before ≡ q → has b before ≡ p → q && p ≡ false
  by true true is_q is_p = elim (cases_eq o a) [
    | inl here ↦ absurd (let wrong : true ≡ false = sym is_q ∙ ap (λ (n : ℕ). has n before) (sym here) ∙ new in cc)
    | inr apart ↦ elim (cases_eq o b) [
      | inl here ↦ absurd (let wrong : true ≡ false = sym is_p ∙ ap (λ (n : ℕ). has n before) (sym here) ∙ new in cc)
      | inr other ↦ absurd (let wrong : true ≡ false = sym joined ∙ (λ j. (ne_eqb o a apart j && has b before) || (ne_eqb o b other j && has a before)) in cc)
    ]
  ]
  by true false is_q is_p = refl
  by false p is_q is_p = refl
