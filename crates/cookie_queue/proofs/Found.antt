-- Found: what a search finds in a map is the foremost of the entries that pass, from which the map is made.
use Rattle.std.proofs.Common.{◌≡◌, Bool, true, false, cond, List, [], ◌∷◌, length, Option, None, Some, inl, inr, refl, sym, ap, ◌∙◌, arith}
use Rattle.std.specs.Prelude.{find, filter, IfSome}
use Rattle.std.specs.List.{AllByRecursion}
use Rattle.std.specs.Option.{option_map_or}
use Rattle.std.specs.Cmp.{IsTotalOrder, tied_back}
use Rattle.std.specs.Ordering.{ordering_reverse, is_lt}
use Rattle.std.specs.declared.cmp.Ordering.{Ordering}
use Rattle.std.specs.declared.cmp.Ordering.TheVariants.{Less, Equal, Greater}
use Rattle.std.specs.FinMap.{IsAntisymmetric, entries, entries_sorted, entries-insert, len-entries, len-empty, empty, from_entries, is_sorted, put}
use Rattle.std.specs.FinMap.Entries.{below_all, by_order}
use Rattle.std.proofs.lemmas.Bool.{cases_Bool, cond-true, cond-false, and_parts}
use Rattle.cs_types.specs.Order.{foremost}
use Rattle.cs_types.proofs.Queues.{foremost-cons, precedes, precedes_order}
use Rattle.order_tree.proofs.Entries.{true_by}

-- what is found has what each has
pub found_has : {X : Type 0} (P : X → Type 0) (p : X → Bool) (xs : List X) → AllByRecursion P xs → IfSome (find p xs) P
found_has P p [] all = tt
found_has P p (x ∷ xs) all =
    elim (p x) as (λ b. IfSome (cond b (Some x) (find p xs)) P) [
      | true ↦ all.0
      | false ↦ found_has P p xs all.1
    ]

module _ {K X : Type 0} {R : K → K → Ordering} (o : IsTotalOrder R) (only : IsAntisymmetric R) (p : K → Bool) where
  abbrev passes : K × X → Bool
  passes e = p e.0

  -- the earlier of an entry and another, if there is one
  abbrev earlier : K × X → Option (K × X) → K × X
  earlier e other = option_map_or (λ b. cond (precedes o b e) b e) other e

  not_before : (a b : K × X) → R a.0 b.0 ≡ Less → precedes o b a ≡ false
  not_before a b lt = (precedes_order {X = X} o).one_way a b (ap is_lt lt)

  stays : (e : K × X) (other : Option (K × X)) → IfSome other (λ b. precedes o b e ≡ false) → earlier e other ≡ e
  stays e None later = refl
  stays e (Some b) later = cond-false (precedes o b e) b e later

  all_later : (e f : K × X) (fs : List (K × X)) → R e.0 f.0 ≡ Less → below_all R f.0 fs ≡ true → AllByRecursion (λ b. precedes o b e ≡ false) fs
  all_later e f [] lt below = tt
  all_later e f (b ∷ fs) lt below = (
    (precedes_order {X = X} o).chain b f e ((precedes_order {X = X} o).one_way f b (and_parts _ _ below).0) (not_before e f lt),
    all_later e f fs lt (and_parts _ _ below).1,
  )

  -- one more entry is found where it passes, unless an earlier one is
  find-put : (e : K × X) (es : List (K × X)) → is_sorted R es ≡ true →
      find passes (put R e.0 e.1 es) ≡ cond (p e.0) (Some (earlier e (find passes es))) (find passes es)
  find-put e [] rising = refl
  find-put e (f ∷ fs) rising =
      elim (R e.0 f.0) as (λ r. R e.0 f.0 ≡ r →
      find passes (by_order r ((e.0, e.1) ∷ f ∷ fs) ((f.0, e.1) ∷ fs) (f ∷ put R e.0 e.1 fs))
      ≡ cond (p e.0) (Some (earlier e (find passes (f ∷ fs)))) (find passes (f ∷ fs))) [
        | Less ↦ λ lt.
            let later = found_has (λ b. precedes o b e ≡ false) passes (f ∷ fs) (not_before e f lt, all_later e f fs lt (and_parts _ _ rising).0) in
            ap (λ (b : K × X). cond (p e.0) (Some b) (find passes (f ∷ fs))) (sym (stays e (find passes (f ∷ fs)) later))
        | Equal ↦ λ tie.
            let same : f.0 ≡ e.0 = sym (only e.0 f.0 tie) in
            let apart : precedes o f e ≡ false = ap is_lt (tied_back o e.0 f.0 tie) in
            ap (λ (k : K). cond (p k) (Some (k, e.1)) (find passes fs)) same
            ∙ (elim (cases_Bool (p e.0)) [
              | inl pass ↦
                  let too : p f.0 ≡ true = ap p same ∙ pass in
                  cond-true _ (Some e) (find passes fs) pass
                  ∙ ap Some (sym (ap (earlier e) (cond-true _ (Some f) (find passes fs) too) ∙ cond-false _ f e apart))
                  ∙ sym (cond-true _ (Some (earlier e (find passes (f ∷ fs)))) (find passes (f ∷ fs)) pass)
              | inr fail ↦
                  let too : p f.0 ≡ false = ap p same ∙ fail in
                  cond-false _ (Some e) (find passes fs) fail
                  ∙ sym (cond-false _ (Some f) (find passes fs) too)
                  ∙ sym (cond-false _ (Some (earlier e (find passes (f ∷ fs)))) (find passes (f ∷ fs)) fail)
            ])
        | Greater ↦ λ gt.
            let before : precedes o f e ≡ true = ap is_lt (o.antisymm f.0 e.0 ∙ ap ordering_reverse gt) in
            elim (cases_Bool (p f.0)) [
              | inl pass ↦
                  let found : find passes (f ∷ fs) ≡ Some f = cond-true _ (Some f) (find passes fs) pass in
                  cond-true _ (Some f) _ pass
                  ∙ sym (always (p e.0) (Some f))
                  ∙ ap (λ (b : K × X). cond (p e.0) (Some b) (Some f)) (sym (cond-true _ f e before))
                  ∙ ap (λ (one : Option (K × X)). cond (p e.0) (Some (earlier e one)) one) (sym found)
              | inr fail ↦
                  cond-false _ (Some f) _ fail
                  ∙ find-put e fs (and_parts _ _ rising).1
                  ∙ ap (λ (one : Option (K × X)). cond (p e.0) (Some (earlier e one)) one) (sym (cond-false _ (Some f) (find passes fs) fail))
            ]
      ] refl where
        always : {A : Type 0} (b : Bool) (x : A) → cond b x x ≡ x
        always true x = refl
        always false x = refl

  nothing_in : (es : List (K × X)) → length es ≡ 0 → find passes es ≡ None
  nothing_in [] none = refl
  nothing_in (e ∷ es) none = absurd (omega arith)

  -- the first that passes
  pub found-from_entries : (es : List (K × X)) → find passes (entries (from_entries {R = R} es)) ≡ foremost (precedes o) (filter passes es)
  found-from_entries [] = nothing_in (entries (empty {R = R})) (sym (len-entries (empty {X = X} {R = R})) ∙ len-empty R X)
  found-from_entries (e ∷ es) =
      let others = entries (from_entries {R = R} es) in
      ap (find passes) (entries-insert o (from_entries {R = R} es) e.0 e.1)
      ∙ find-put e others (true_by _ (entries_sorted (from_entries {R = R} es)))
      ∙ ap (λ (one : Option (K × X)). cond (p e.0) (Some (earlier e one)) one) (found-from_entries es)
      ∙ (elim (cases_Bool (p e.0)) [
        | inl pass ↦
            cond-true _ _ (foremost (precedes o) (filter passes es)) pass
            ∙ sym (foremost-cons (precedes o) (precedes_order {X = X} o) e (filter passes es))
            ∙ ap (foremost (precedes o)) (sym (cond-true _ (e ∷ filter passes es) (filter passes es) pass))
        | inr fail ↦
            cond-false _ _ (foremost (precedes o) (filter passes es)) fail
            ∙ ap (foremost (precedes o)) (sym (cond-false _ (e ∷ filter passes es) (filter passes es) fail))
      ])
