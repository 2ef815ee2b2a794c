-- Order: that rows stay in order where a pair gets a time.
use Rattle.std.proofs.Common.{◌≡◌, ℕ, ◌+◌, ◌-◌, ◌<◌, ◌≤◌, true, false, List, length, get_or, sym, ap, ◌∙◌, subst, inl, inr, arith}
use Rattle.std.specs.Prelude.{All, AllPairs}
use Rattle.std.specs.List.{insert}
use Rattle.std.specs.List.Sorted.{IsPartitionedBy, IsPartitionPoint}
use Rattle.std.proofs.lemmas.Bool.{cases_eq, cases_lt}
use Rattle.std.proofs.lemmas.Bool.Decides.{nat_tests}
use Rattle.std.proofs.lemmas.List.Edits.{length-insert, get_or-insert_below, get_or-insert_at, get_or-insert_above}
use Rattle.pair_times.specs.declared.rows.PairTime.{PairTime}
use Rattle.pair_times.specs.Pairs.{goes_before, AreRows}

-- ---- the order of two pairs

goes_through : (x y : PairTime) (low high : ℕ) → goes_before x y.low y.high ≡ true → goes_before y low high ≡ true → goes_before x low high ≡ true
goes_through x y low high first second = grind (arith, nat_tests)

-- of two pairs that differ one goes before the other
goes_after : (x y : PairTime) → goes_before x y.low y.high ≡ false → ((x.low ≡ y.low) × (x.high ≡ y.high) → ⊥) → goes_before y x.low x.high ≡ true
goes_after x y isnt differ = elim (cases_eq x.low y.low) [
  | inl low ↦ elim (cases_eq x.high y.high) [
    | inl high ↦ absurd (differ (low, high))
    | inr high ↦ grind (arith, nat_tests)
  ]
  | inr low ↦ grind (arith, nat_tests)
]

-- a search for a pair may halve the rows
pub parted : (rows : List PairTime) (low high : ℕ) → AreRows rows → IsPartitionedBy (λ row. goes_before row low high) rows
parted rows low high are i j d le few before = elim (cases_eq i j) [
  | inl same ↦ subst (λ (k : ℕ). goes_before (get_or rows k d) low high ≡ true) (sym same) before
  | inr other ↦ goes_through (get_or rows i d) (get_or rows j d) low high (are.rising i j d (omega (arith, le, other)) few) before
]

-- ---- one row more

abbrev Goes : PairTime → PairTime → Type 0
Goes x y = goes_before x y.low y.high ≡ true

module _ (rows : List PairTime) (i : ℕ) (row : PairTime) (are : AreRows rows) (at : i ≤ length rows) where
  -- what holds of each and of the new one holds of each then
  all_inserted : (P : PairTime → Type 0) → All P rows → P row → All P (insert rows i row)
  all_inserted P all new k d few = elim (cases_lt k i) [
    | inl below ↦ subst P (sym (get_or-insert_below rows i row d k below at)) (all k d (omega (arith, below, at)))
    | inr past ↦ elim (cases_eq k i) [
      | inl here ↦ subst P (sym (ap (λ (n : ℕ). get_or (insert rows i row) n d) here ∙ get_or-insert_at rows i row d at)) new
      | inr above ↦
          let back : (k - 1) + 1 ≡ k = omega (arith, past, above) in
          subst P (sym (ap (λ (n : ℕ). get_or (insert rows i row) n d) (sym back) ∙ get_or-insert_above rows i row d (k - 1) (omega (arith, past, above)) at))
          (all (k - 1) d (omega (arith, length-insert rows i row at, few, past, above)))
    ]
  ]

  module _ (before : (k : ℕ) (d : PairTime) → k < i → goes_before (get_or rows k d) row.low row.high ≡ true)
      (after : (k : ℕ) (d : PairTime) → i ≤ k → k < length rows → goes_before row (get_or rows k d).low (get_or rows k d).high ≡ true) where
    rising_above : (j k : ℕ) (d : PairTime) → j < k + 1 → i ≤ k → k < length rows → Goes (get_or (insert rows i row) j d) (get_or rows k d)
    rising_above j k d lt past few = elim (cases_lt j i) [
      | inl below ↦ subst (λ (x : PairTime). Goes x (get_or rows k d)) (sym (get_or-insert_below rows i row d j below at)) (are.rising j k d (omega (arith, below, past)) few)
      | inr rest ↦ elim (cases_eq j i) [
        | inl here ↦ subst (λ (x : PairTime). Goes x (get_or rows k d)) (sym (ap (λ (n : ℕ). get_or (insert rows i row) n d) here ∙ get_or-insert_at rows i row d at)) (after k d past few)
        | inr above ↦
            let back : (j - 1) + 1 ≡ j = omega (arith, rest, above) in
            subst (λ (x : PairTime). Goes x (get_or rows k d))
            (sym (ap (λ (n : ℕ). get_or (insert rows i row) n d) (sym back) ∙ get_or-insert_above rows i row d (j - 1) (omega (arith, rest, above)) at))
            (are.rising (j - 1) k d (omega (arith, lt, rest, above)) few)
      ]
    ]

    rising_inserted : AllPairs Goes (insert rows i row)
    rising_inserted j k d lt few = elim (cases_lt k i) [
      | inl below ↦
          subst (λ (x : PairTime). Goes (get_or (insert rows i row) j d) x) (sym (get_or-insert_below rows i row d k below at))
          (subst (λ (x : PairTime). Goes x (get_or rows k d)) (sym (get_or-insert_below rows i row d j (omega (arith, lt, below)) at))
          (are.rising j k d lt (omega (arith, below, at))))
      | inr past ↦ elim (cases_eq k i) [
        | inl here ↦
            subst (λ (x : PairTime). Goes (get_or (insert rows i row) j d) x) (sym (ap (λ (n : ℕ). get_or (insert rows i row) n d) here ∙ get_or-insert_at rows i row d at))
            (subst (λ (x : PairTime). Goes x row) (sym (get_or-insert_below rows i row d j (omega (arith, lt, here)) at))
            (before j d (omega (arith, lt, here))))
        | inr above ↦
            let back : (k - 1) + 1 ≡ k = omega (arith, past, above) in
            subst (λ (x : PairTime). Goes (get_or (insert rows i row) j d) x)
            (sym (ap (λ (n : ℕ). get_or (insert rows i row) n d) (sym back) ∙ get_or-insert_above rows i row d (k - 1) (omega (arith, past, above)) at))
            (rising_above j (k - 1) d (omega (arith, lt, back)) (omega (arith, past, above)) (omega (arith, length-insert rows i row at, few, past, above)))
      ]
    ]

-- a row at the place of its pair, where none has it
pub rows_inserted : (rows : List PairTime) (i : ℕ) (row : PairTime) → AreRows rows → i ≤ length rows →
    IsPartitionPoint (λ (r : PairTime). goes_before r row.low row.high ≡ true) (λ (r : PairTime). goes_before r row.low row.high ≡ false) rows i →
    ((d : PairTime) → i < length rows → ((get_or rows i d).low ≡ row.low) × ((get_or rows i d).high ≡ row.high) → ⊥) →
    row.low < row.high → 0 < row.time → AreRows (insert rows i row)
rows_inserted rows i row are at point other distinct some =
    let before : (k : ℕ) (d : PairTime) → k < i → goes_before (get_or rows k d) row.low row.high ≡ true =
    λ k d below. point.0 k d (omega arith) below in
    let first : (d : PairTime) → i < length rows → goes_before row (get_or rows i d).low (get_or rows i d).high ≡ true =
    λ d few. goes_after (get_or rows i d) row (point.1 i d (omega arith) few) (other d few) in
    let after : (k : ℕ) (d : PairTime) → i ≤ k → k < length rows → goes_before row (get_or rows k d).low (get_or rows k d).high ≡ true =
    λ k d past few. elim (cases_eq i k) [
      | inl same ↦ subst (λ (n : ℕ). goes_before row (get_or rows n d).low (get_or rows n d).high ≡ true) same (first d (omega (arith, same, few)))
      | inr above ↦
          goes_through row (get_or rows i d) (get_or rows k d).low (get_or rows k d).high (first d (omega (arith, past, few)))
          (are.rising i k d (omega (arith, past, above)) few)
    ] in
    record {
      sound = all_inserted rows i row are at (λ (r : PairTime). (r.low < r.high) × (0 < r.time)) are.sound (distinct, some);
      rising = rising_inserted rows i row are at before after;
    }
