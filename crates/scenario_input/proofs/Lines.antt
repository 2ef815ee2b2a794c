-- Lines: how the guards go on by one teach line.
use Rattle.std.proofs.Common.{◌≡◌, ◌≢◌, ℕ, zero, suc, ◌+◌, ◌<◌, ◌≤◌, cond, List, [], ◌∷◌, ◌++◌, map, length, refl, sym, ap, ◌∙◌, subst, arith}
use Rattle.std.specs.Prelude.{filter, ◌==◌}
use Rattle.std.specs.List.{range_with_len}
use Rattle.std.proofs.Math.ListN.{get_or, set}
use Rattle.std.proofs.lemmas.Bool.{ne_eqb, eq-eqb}
use Rattle.std.proofs.lemmas.List.{append-nil}
use Rattle.std.proofs.lemmas.List.Elements.{filter-append}
use Rattle.std.proofs.lemmas.List.{map-append}
use Rattle.std.proofs.lemmas.List.FromFn.{get_or-map-range_with_len, length-map-range_with_len}
use Rattle.cs_types.specs.declared.scenario.Teach.{Teach}
use Rattle.cs_types.specs.declared.view.GuardPlace.TheVariants.{Bench}
use Rattle.cs_types.specs.Guards.{GuardState, GuardList, no_guard, guard_of, with_guard, taught, on_bench, guards_on_bench}

map_alike : {X : Type 0} (f g : ℕ → X) (start n : ℕ) → ((m : ℕ) → start ≤ m → f m ≡ g m) → map f (range_with_len start n) ≡ map g (range_with_len start n)
map_alike f g start zero each = refl
map_alike f g start (suc n) each =
    λ k. each start (omega arith) k ∷ map_alike f g (start + 1) n (λ m low. each m (omega (arith, low))) k

-- one number of a range gets another value
set-map-range : {X : Type 0} (f g : ℕ → X) (start n i : ℕ) (y : X) → i < n → y ≡ g (start + i) → ((m : ℕ) → start ≤ m → m ≢ start + i → f m ≡ g m) →
    set (map f (range_with_len start n)) i y ≡ map g (range_with_len start n)
set-map-range f g start zero i y below is others = absurd (omega (arith, below))
set-map-range {X} f g start (suc n) zero y below is others =
    let first : start + 0 ≡ start = omega arith in
    λ k. (is ∙ ap g first) k ∷ map_alike f g (start + 1) n (λ m low. others m (omega (arith, low)) (λ e. omega (arith, e, low))) k
set-map-range f g start (suc n) (suc i) y below is others =
    let here : start + suc i ≡ start + 1 + i = omega arith in
    λ k. others start (omega arith) (λ e. omega (arith, e)) k
    ∷ set-map-range f g (start + 1) n i y (omega (arith, below)) (is ∙ ap g here)
    (λ m low other. others m (omega (arith, low)) (λ e. other (e ∙ here))) k

-- ---- the pairs of a guard after one more line

pairs_of : List Teach → List (ℕ × ℕ)
pairs_of teaches = map (λ (teach : Teach). (teach.from, teach.to)) teaches

taught-same : (earlier : List Teach) (teach : Teach) → taught (earlier ++ teach ∷ []) teach.guard ≡ taught earlier teach.guard ++ (teach.from, teach.to) ∷ []
unfolding pairs_of
taught-same earlier teach =
    ap pairs_of (filter-append (λ (other : Teach). other.guard == teach.guard) earlier (teach ∷ []))
    ∙ ap (λ b. pairs_of (filter (λ (other : Teach). other.guard == teach.guard) earlier ++ cond b (teach ∷ []) [])) (eq-eqb teach.guard teach.guard refl)
    ∙ map-append (λ (teach : Teach). (teach.from, teach.to)) (filter (λ (other : Teach). other.guard == teach.guard) earlier) (teach ∷ [])

taught-other : (earlier : List Teach) (teach : Teach) (index : ℕ) → teach.guard ≢ index → taught earlier index ≡ taught (earlier ++ teach ∷ []) index
unfolding pairs_of
taught-other earlier teach index other =
    sym (
    ap pairs_of (filter-append (λ (line : Teach). line.guard == index) earlier (teach ∷ []))
    ∙ ap (λ b. pairs_of (filter (λ (line : Teach). line.guard == index) earlier ++ cond b (teach ∷ []) [])) (ne_eqb teach.guard index other)
    ∙ ap pairs_of (append-nil (filter (λ (line : Teach). line.guard == index) earlier)))

-- ---- the guards after it

module _ (earlier : List Teach) (teach : Teach) (count : ℕ) where
  -- a guard that was handed in has the pairs of the earlier lines
  pub guard_is : teach.guard < count → guard_of (guards_on_bench earlier count) teach.guard ≡ on_bench earlier teach.guard
  guard_is below = get_or-map-range_with_len (on_bench earlier) 0 count teach.guard teach.guard no_guard below (omega arith)

  -- and one more after it
  pub guards_more : teach.guard < count →
      with_guard (guards_on_bench earlier count) teach.guard
      (record (guard_of (guards_on_bench earlier count) teach.guard) { pairs = (guard_of (guards_on_bench earlier count) teach.guard).pairs ++ (teach.from, teach.to) ∷ [] })
      ≡ guards_on_bench (earlier ++ teach ∷ []) count
  guards_more below =
      ap (λ (guard : GuardState). with_guard (guards_on_bench earlier count) teach.guard (record guard { pairs = guard.pairs ++ (teach.from, teach.to) ∷ [] })) (guard_is below)
      ∙ ap (λ (all : List GuardState). let guards : GuardList = record { all = all; active = [] } in guards)
      (set-map-range (on_bench earlier) (on_bench (earlier ++ teach ∷ [])) 0 count teach.guard _ below
      (subst (λ n. record { place = Bench; pairs = taught earlier teach.guard ++ (teach.from, teach.to) ∷ []; asked = 0 } ≡ on_bench (earlier ++ teach ∷ []) n) zero_more
      (λ i. record { place = Bench; pairs = sym (taught-same earlier teach) i; asked = 0 }))
      (λ j low other. λ i. record { place = Bench; pairs = taught-other earlier teach j (λ e. other (sym e ∙ zero_more)) i; asked = 0 })) where
        zero_more : teach.guard ≡ 0 + teach.guard
        zero_more = omega arith

  -- another number stands for no guard
  pub no_guard_is : count ≤ teach.guard → guard_of (guards_on_bench earlier count) teach.guard ≡ no_guard
  no_guard_is past = get_or_past (map (on_bench earlier) (range_with_len 0 count)) teach.guard (omega (arith, past, length-map-range_with_len (on_bench earlier) 0 count)) where
    get_or_past : (guards : List GuardState) (index : ℕ) → length guards ≤ index → get_or guards index no_guard ≡ no_guard
    get_or_past [] index past = refl
    get_or_past (guard ∷ guards) zero past = absurd (omega (arith, past))
    get_or_past (guard ∷ guards) (suc index) past = get_or_past guards index (omega (arith, past))
