-- The order of the keys: it is total, and only equal keys tie.
use Rattle.std.proofs.Common.{◌≡◌, ◌≢◌, ℕ, ◌<◌, ◌≤◌, Bool, true, false, not, ltb, inl, inr, refl, sym, ap, ◌∙◌, arith}
use Rattle.std.specs.Ordering.{ordering_then, nat_cmp, is_lt}
use Rattle.std.specs.declared.cmp.Ordering.{Ordering}
use Rattle.std.specs.declared.cmp.Ordering.TheVariants.{Less, Equal, Greater}
use Rattle.std.proofs.lemmas.Bool.{cases_order, lt-ltb, le-ltb}
use Rattle.std.specs.Cmp.{IsTotalOrder, nat_cmp_is, then_total, on_total, nat_cmp_total}
use Rattle.std.specs.FinMap.{IsAntisymmetric, nat_cmp-IsAntisymmetric}
use Rattle.order_tree.specs.Order.{key_cmp, start_of}
use Rattle.order_tree.specs.Branch.{reaches}
use Rattle.order_tree.specs.declared.key.Key.{Key}

pub key_total : IsTotalOrder key_cmp
key_total =
    then_total (on_total (λ (key : Key). key.group) nat_cmp_total)
    (then_total (on_total (λ (key : Key). key.class) nat_cmp_total)
    (then_total (on_total (λ (key : Key). key.rank) nat_cmp_total) (on_total (λ (key : Key). key.stamp) nat_cmp_total)))

-- where two comparisons in turn tie, so does each
both_tie : (a b : Ordering) → ordering_then a b ≡ Equal → (a ≡ Equal) × (b ≡ Equal)
both_tie Less b e = absurd cc
both_tie Equal b e = (refl, e)
both_tie Greater b e = absurd cc

pub key_cmp-IsAntisymmetric : IsAntisymmetric key_cmp
key_cmp-IsAntisymmetric x y e =
    let group = both_tie (nat_cmp x.group y.group) _ e in
    let class = both_tie (nat_cmp x.class y.class) _ group.1 in
    let rank = both_tie (nat_cmp x.rank y.rank) _ class.1 in
    λ i. record {
      group = nat_cmp-IsAntisymmetric x.group y.group group.0 i;
      class = nat_cmp-IsAntisymmetric x.class y.class class.0 i;
      rank = nat_cmp-IsAntisymmetric x.rank y.rank rank.0 i;
      stamp = nat_cmp-IsAntisymmetric x.stamp y.stamp rank.1 i;
    }

-- where two numbers differ, nothing after them decides
pub is_lt-apart : (a b : ℕ) (rest : Ordering) → a ≢ b → is_lt (ordering_then (nat_cmp a b) rest) ≡ ltb a b
is_lt-apart a b rest apart =
    elim (cases_order a b) [
      | inl same ↦ absurd (apart same)
      | inr (inl less) ↦ ap (λ r. is_lt (ordering_then r rest)) (sym (nat_cmp_is a b Less less)) ∙ sym (lt-ltb a b less)
      | inr (inr more) ↦ ap (λ r. is_lt (ordering_then r rest)) (sym (nat_cmp_is a b Greater more)) ∙ sym (le-ltb a b (omega arith))
    ]

pub is_lt-same : (a b : ℕ) (rest : Ordering) → a ≡ b → is_lt (ordering_then (nat_cmp a b) rest) ≡ is_lt rest
is_lt-same a b rest same = ap (λ r. is_lt (ordering_then r rest)) (sym (nat_cmp_is a b Equal same))

pub is_lt-last : (a b : ℕ) → is_lt (nat_cmp a b) ≡ ltb a b
is_lt-last a b =
    elim (cases_order a b) [
      | inl same ↦ ap is_lt (sym (nat_cmp_is a b Equal same)) ∙ sym (le-ltb a b (omega arith))
      | inr (inl less) ↦ ap is_lt (sym (nat_cmp_is a b Less less)) ∙ sym (lt-ltb a b less)
      | inr (inr more) ↦ ap is_lt (sym (nat_cmp_is a b Greater more)) ∙ sym (le-ltb a b (omega arith))
    ]

-- no number is below 0
not_lt-zero : (n : ℕ) (rest : Ordering) → is_lt rest ≡ false → is_lt (ordering_then (nat_cmp n 0) rest) ≡ false
not_lt-zero n rest last =
    elim (cases_order n 0) [
      | inl same ↦ is_lt-same n 0 rest same ∙ last
      | inr (inl less) ↦ absurd (omega (arith, less))
      | inr (inr more) ↦ is_lt-apart n 0 rest (λ e. omega (arith, e, more)) ∙ le-ltb n 0 (omega arith)
    ]

-- a key is below the start of a group where its own group is
pub is_lt-start_of : (key : Key) (group : ℕ) → is_lt (key_cmp key (start_of group)) ≡ ltb key.group group
is_lt-start_of key group =
    let rest = ordering_then (nat_cmp key.class 0) (ordering_then (nat_cmp key.rank 0) (nat_cmp key.stamp 0)) in
    elim (cases_order key.group group) [
      | inl same ↦
          is_lt-same key.group group rest same
          ∙ not_lt-zero key.class _ (not_lt-zero key.rank _ (is_lt-last key.stamp 0 ∙ le-ltb key.stamp 0 (omega arith)))
          ∙ sym (le-ltb key.group group (omega (arith, same)))
      | inr (inl less) ↦ is_lt-apart key.group group rest (λ e. omega (arith, e, less))
      | inr (inr more) ↦ is_lt-apart key.group group rest (λ e. omega (arith, e, more))
    ]

reaches_by : (r : Ordering) {b : Bool} → is_lt r ≡ b → reaches true r ≡ not b
reaches_by Less is = ap not is
reaches_by Equal is = ap not is
reaches_by Greater is = ap not is

-- so it reaches that where its group is the same or a greater one
pub reaches-group : (key : Key) (group : ℕ) → group ≤ key.group → reaches true (key_cmp key (start_of group)) ≡ true
reaches-group key group above = reaches_by _ (is_lt-start_of key group ∙ le-ltb key.group group above)

pub short_of-group : (key : Key) (group : ℕ) → key.group < group → reaches true (key_cmp key (start_of group)) ≡ false
short_of-group key group less = reaches_by _ (is_lt-start_of key group ∙ lt-ltb key.group group less)
