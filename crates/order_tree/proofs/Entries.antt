-- Entries that rise by key, parted by one of them: what a search, a put and a removal do to the parts.
use Rattle.std.proofs.Common.{◌≡◌, Bool, true, false, not, cond, List, [], ◌∷◌, ◌++◌, refl, sym, ap, ◌∙◌, subst, Option, Some, None}
use lib.Dec.{T}
use Rattle.std.specs.Option.{option_or}
use Rattle.std.specs.List as list
use Rattle.std.specs.List.{list_all}
use Rattle.std.specs.Cmp.{IsTotalOrder, eq_by_cmp_equiv, alike_right}
use Rattle.std.specs.Ordering.{ordering_reverse, is_lt, is_eq, eq_by_cmp}
use Rattle.std.specs.declared.cmp.Ordering.{Ordering}
use Rattle.std.specs.declared.cmp.Ordering.TheVariants.{Less, Equal, Greater}
use Rattle.std.specs.FinMap as fin
use Rattle.std.specs.FinMap.{IsAntisymmetric, from_sorted, find, put, is_sorted, entries-from_sorted, entries-insert, same_entries_map, same_map, get-from_sorted, get-remove}
use Rattle.std.specs.FinMap.Entries.{below_all, where_key, by_order, find-where_key, is_sorted-put, is_sorted-where_key}
use Rattle.std.proofs.lemmas.Bool.{and_parts, and_from, cond-true, cond-false}
use Rattle.std.proofs.lemmas.List.Elements.{filter-append}
use Rattle.std.proofs.lemmas.List.Folds.{find-append}
use Rattle.std.specs.List.Sorted.{IsPermutation}
use Rattle.std.proofs.lemmas.List.Sorted.{IsPermutation-refl, IsPermutation-sym, IsPermutation-trans, IsPermutation-cons, IsPermutation-middle}
use Rattle.cs_types.proofs.Queues.{said}

-- a test of a comparison that holds
pub less_by : (r : Ordering) → is_lt r ≡ true → r ≡ Less
less_by Less h = refl
less_by Equal h = absurd cc
less_by Greater h = absurd cc

pub equal_by : (r : Ordering) → is_eq r ≡ true → r ≡ Equal
equal_by Less h = absurd cc
equal_by Equal h = refl
equal_by Greater h = absurd cc

-- a test that holds, from the form in which maps say so
pub true_by : (b : Bool) → T b → b ≡ true
true_by true h = refl
true_by false h = absurd h

swapped : {A : Type 0} (b : Bool) (o : Option A) → cond (not b) o None ≡ cond b None o
swapped true o = refl
swapped false o = refl

-- whether a key is another than this one
abbrev pub apart : {K : Type 0} → (K → K → Ordering) → K → K → Bool
apart R key other = not (eq_by_cmp R key other)

-- a comparison the other way round
turn : {K : Type 0} {R : K → K → Ordering} (o : IsTotalOrder R) (a b : K) (r : Ordering) → R a b ≡ r → R b a ≡ ordering_reverse r
turn o a b r is = o.antisymm b a ∙ ap ordering_reverse is

module _ {K X : Type 0} {R : K → K → Ordering} (o : IsTotalOrder R) where
  -- each key is below this one
  abbrev all_below : List (K × X) → K → Bool
  all_below es key = list_all (λ (e : K × X). is_lt (R e.0 key)) es

  -- ---- the parts of a list that rises

  below_back : (key : K) (l m : List (K × X)) → below_all R key (l ++ m) ≡ true → below_all R key m ≡ true
  below_back key [] m h = h
  below_back key (e ∷ l) m h = below_back key l m (and_parts _ _ h).1

  below_front : (key : K) (l m : List (K × X)) → below_all R key (l ++ m) ≡ true → below_all R key l ≡ true
  below_front key [] m h = refl
  below_front key (e ∷ l) m h = and_from _ _ (and_parts _ _ h).0 (below_front key l m (and_parts _ _ h).1)

  pub is_sorted-front : (l m : List (K × X)) → is_sorted R (l ++ m) ≡ true → is_sorted R l ≡ true
  is_sorted-front [] m h = refl
  is_sorted-front (e ∷ l) m h = and_from _ _ (below_front e.0 l m (and_parts _ _ h).0) (is_sorted-front l m (and_parts _ _ h).1)

  pub is_sorted-back : (l m : List (K × X)) → is_sorted R (l ++ m) ≡ true → is_sorted R m ≡ true
  is_sorted-back [] m h = h
  is_sorted-back (e ∷ l) m h = is_sorted-back l m (and_parts _ _ h).1

  -- the two sides of an entry rise, and stand below it and above it
  pub record IsParted (l : List (K × X)) (e : K × X) (r : List (K × X)) : Type 0 where
    pub left : is_sorted R l ≡ true
    pub right : is_sorted R r ≡ true
    pub beneath : all_below l e.0 ≡ true
    pub above : below_all R e.0 r ≡ true

  beneath_by : (l : List (K × X)) (e : K × X) (r : List (K × X)) → is_sorted R (l ++ e ∷ r) ≡ true → all_below l e.0 ≡ true
  beneath_by [] e r h = refl
  beneath_by (y ∷ l) e r h =
      and_from _ _ (and_parts _ _ (below_back y.0 l (e ∷ r) (and_parts _ _ h).0)).0 (beneath_by l e r (and_parts _ _ h).1)

  pub parted : (l : List (K × X)) (e : K × X) (r : List (K × X)) → is_sorted R (l ++ e ∷ r) ≡ true → IsParted l e r
  parted l e r h =
      let back = is_sorted-back l (e ∷ r) h in record {
        left = is_sorted-front l (e ∷ r) h;
        right = (and_parts _ _ back).1;
        beneath = beneath_by l e r h;
        above = (and_parts _ _ back).0;
      }

  -- ---- a key beside a list

  below_all-lower : (key other : K) (es : List (K × X)) → R key other ≡ Less → below_all R other es ≡ true → below_all R key es ≡ true
  below_all-lower key other [] lt h = refl
  below_all-lower key other (e ∷ es) lt h =
      and_from _ _ (ap is_lt (o.trans key other e.0 lt (less_by _ (and_parts _ _ h).0))) (below_all-lower key other es lt (and_parts _ _ h).1)

  below_all-same : (key other : K) (es : List (K × X)) → R key other ≡ Equal → below_all R other es ≡ true → below_all R key es ≡ true
  below_all-same key other [] tie h = refl
  below_all-same key other (e ∷ es) tie h =
      and_from _ _ (ap is_lt (o.congr key other e.0 tie) ∙ (and_parts _ _ h).0) (below_all-same key other es tie (and_parts _ _ h).1)

  all_below-higher : (key other : K) (es : List (K × X)) → R other key ≡ Less → all_below es other ≡ true → all_below es key ≡ true
  all_below-higher key other [] lt h = refl
  all_below-higher key other (e ∷ es) lt h =
      and_from _ _ (ap is_lt (o.trans e.0 other key (less_by _ (and_parts _ _ h).0) lt)) (all_below-higher key other es lt (and_parts _ _ h).1)

  all_below-same : (key other : K) (es : List (K × X)) → R key other ≡ Equal → all_below es other ≡ true → all_below es key ≡ true
  all_below-same key other [] tie h = refl
  all_below-same key other (e ∷ es) tie h =
      and_from _ _ (ap is_lt (alike_right o key other e.0 tie) ∙ (and_parts _ _ h).0) (all_below-same key other es tie (and_parts _ _ h).1)

  -- a key that is above another is above those below it
  above_of : (key other : K) (es : List (K × X)) → R key other ≡ Greater → all_below es other ≡ true → all_below es key ≡ true
  above_of key other es gt h = all_below-higher key other es (turn o key other Greater gt) h

  -- ---- a put

  pub put-left : (key : K) (value : X) (l : List (K × X)) (e : K × X) (r : List (K × X)) → R key e.0 ≡ Less →
      put R key value (l ++ e ∷ r) ≡ put R key value l ++ e ∷ r
  put-left key value [] e r lt = ap (λ c. by_order c ((key, value) ∷ e ∷ r) ((e.0, value) ∷ r) (e ∷ put R key value r)) lt
  put-left key value (y ∷ l) e r lt =
      ap (λ rest. by_order (R key y.0) ((key, value) ∷ y ∷ (l ++ e ∷ r)) ((y.0, value) ∷ (l ++ e ∷ r)) (y ∷ rest)) (put-left key value l e r lt)
      ∙ by_cases (R key y.0) where
        by_cases : (c : Ordering) →
            by_order c ((key, value) ∷ y ∷ (l ++ e ∷ r)) ((y.0, value) ∷ (l ++ e ∷ r)) (y ∷ (put R key value l ++ e ∷ r))
            ≡ by_order c ((key, value) ∷ y ∷ l) ((y.0, value) ∷ l) (y ∷ put R key value l) ++ e ∷ r
        by_cases Less = refl
        by_cases Equal = refl
        by_cases Greater = refl

  put_past : (key : K) (value : X) (l m : List (K × X)) → all_below l key ≡ true → put R key value (l ++ m) ≡ l ++ put R key value m
  put_past key value [] m h = refl
  put_past key value (y ∷ l) m h =
      ap (λ c. by_order c ((key, value) ∷ y ∷ (l ++ m)) ((y.0, value) ∷ (l ++ m)) (y ∷ put R key value (l ++ m)))
      (turn o y.0 key Less (less_by _ (and_parts _ _ h).0))
      ∙ ap (λ rest. y ∷ rest) (put_past key value l m (and_parts _ _ h).1)

  pub put-right : (key : K) (value : X) (l : List (K × X)) (e : K × X) (r : List (K × X)) → is_sorted R (l ++ e ∷ r) ≡ true → R key e.0 ≡ Greater →
      put R key value (l ++ e ∷ r) ≡ l ++ e ∷ put R key value r
  put-right key value l e r h gt =
      put_past key value l (e ∷ r) (above_of key e.0 l gt (parted l e r h).beneath)
      ∙ ap (λ c. l ++ by_order c ((key, value) ∷ e ∷ r) ((e.0, value) ∷ r) (e ∷ put R key value r)) gt

  pub is_sorted-put_of : (key : K) (value : X) (es : List (K × X)) → is_sorted R es ≡ true → is_sorted R (put R key value es) ≡ true
  is_sorted-put_of key value es h = true_by _ (is_sorted-put R o key value es (said h))

  -- ---- what stands at a key

  find-append_past : (key : K) (l m : List (K × X)) → all_below l key ≡ true → find R key (l ++ m) ≡ find R key m
  find-append_past key [] m h = refl
  find-append_past key (e ∷ l) m h =
      cond-false _ (Some e.1) (find R key (l ++ m)) (ap is_eq (turn o e.0 key Less (less_by _ (and_parts _ _ h).0)))
      ∙ find-append_past key l m (and_parts _ _ h).1

  find_below : (key : K) (es : List (K × X)) → below_all R key es ≡ true → find R key es ≡ None
  find_below key [] h = refl
  find_below key (e ∷ es) h =
      cond-false _ (Some e.1) (find R key es) (ap is_eq (less_by _ (and_parts _ _ h).0)) ∙ find_below key es (and_parts _ _ h).1

  find-front : (key : K) (l m : List (K × X)) → find R key m ≡ None → find R key (l ++ m) ≡ find R key l
  find-front key [] m none = none
  find-front key (e ∷ l) m none = ap (cond (eq_by_cmp R key e.0) (Some e.1)) (find-front key l m none)

  pub find-left : (key : K) (l : List (K × X)) (e : K × X) (r : List (K × X)) → is_sorted R (l ++ e ∷ r) ≡ true → R key e.0 ≡ Less →
      find R key (l ++ e ∷ r) ≡ find R key l
  find-left key l e r h lt =
      find-front key l (e ∷ r) (find_below key (e ∷ r) (and_from _ _ (ap is_lt lt) (below_all-lower key e.0 r lt (parted l e r h).above)))

  pub find-right : (key : K) (l : List (K × X)) (e : K × X) (r : List (K × X)) → is_sorted R (l ++ e ∷ r) ≡ true → R key e.0 ≡ Greater →
      find R key (l ++ e ∷ r) ≡ find R key r
  find-right key l e r h gt =
      find-append_past key l (e ∷ r) (above_of key e.0 l gt (parted l e r h).beneath) ∙ cond-false _ (Some e.1) (find R key r) (ap is_eq gt)

  pub find-middle : (key : K) (l : List (K × X)) (e : K × X) (r : List (K × X)) → is_sorted R (l ++ e ∷ r) ≡ true → R key e.0 ≡ Equal →
      find R key (l ++ e ∷ r) ≡ Some e.1
  find-middle key l e r h tie =
      find-append_past key l (e ∷ r) (all_below-same key e.0 l tie (parted l e r h).beneath) ∙ cond-true _ (Some e.1) (find R key r) (ap is_eq tie)

  -- ---- a removal

  without_below : (key : K) (es : List (K × X)) → below_all R key es ≡ true → where_key R (apart R key) es ≡ es
  without_below key [] h = refl
  without_below key (e ∷ es) h =
      ap (λ c. cond (not (is_eq c)) (e ∷ where_key R (apart R key) es) (where_key R (apart R key) es)) (less_by _ (and_parts _ _ h).0)
      ∙ ap (λ rest. e ∷ rest) (without_below key es (and_parts _ _ h).1)

  without_above : (key : K) (es : List (K × X)) → all_below es key ≡ true → where_key R (apart R key) es ≡ es
  without_above key [] h = refl
  without_above key (e ∷ es) h =
      ap (λ c. cond (not (is_eq c)) (e ∷ where_key R (apart R key) es) (where_key R (apart R key) es)) (turn o e.0 key Less (less_by _ (and_parts _ _ h).0))
      ∙ ap (λ rest. e ∷ rest) (without_above key es (and_parts _ _ h).1)

  pub where_key-left : (key : K) (l : List (K × X)) (e : K × X) (r : List (K × X)) → is_sorted R (l ++ e ∷ r) ≡ true → R key e.0 ≡ Less →
      where_key R (apart R key) (l ++ e ∷ r) ≡ where_key R (apart R key) l ++ e ∷ r
  where_key-left key l e r h lt =
      filter-append (λ x. apart R key x.0) l (e ∷ r)
      ∙ ap (λ rest. where_key R (apart R key) l ++ rest)
      (without_below key (e ∷ r) (and_from _ _ (ap is_lt lt) (below_all-lower key e.0 r lt (parted l e r h).above)))

  pub where_key-right : (key : K) (l : List (K × X)) (e : K × X) (r : List (K × X)) → is_sorted R (l ++ e ∷ r) ≡ true → R key e.0 ≡ Greater →
      where_key R (apart R key) (l ++ e ∷ r) ≡ l ++ e ∷ where_key R (apart R key) r
  where_key-right key l e r h gt =
      filter-append (λ x. apart R key x.0) l (e ∷ r)
      ∙ ap (λ front. front ++ where_key R (apart R key) (e ∷ r)) (without_above key l (above_of key e.0 l gt (parted l e r h).beneath))
      ∙ ap (λ c. l ++ cond (not (is_eq c)) (e ∷ where_key R (apart R key) r) (where_key R (apart R key) r)) gt

  pub where_key-middle : (key : K) (l : List (K × X)) (e : K × X) (r : List (K × X)) → is_sorted R (l ++ e ∷ r) ≡ true → R key e.0 ≡ Equal →
      where_key R (apart R key) (l ++ e ∷ r) ≡ l ++ r
  where_key-middle key l e r h tie =
      filter-append (λ x. apart R key x.0) l (e ∷ r)
      ∙ ap (λ front. front ++ where_key R (apart R key) (e ∷ r)) (without_above key l (all_below-same key e.0 l tie (parted l e r h).beneath))
      ∙ ap (λ c. l ++ cond (not (is_eq c)) (e ∷ where_key R (apart R key) r) (where_key R (apart R key) r)) tie
      ∙ ap (λ rest. l ++ rest) (without_below key r (below_all-same key e.0 r tie (parted l e r h).above))

  pub is_sorted-without : (key : K) (es : List (K × X)) → is_sorted R es ≡ true → is_sorted R (where_key R (apart R key) es) ≡ true
  is_sorted-without key es h = true_by _ (is_sorted-where_key R (apart R key) es (said h))

  -- ---- the first entry whose key passes a test that keys below a given one fail

  module _ (key : K) (p : Ordering → Bool) where
    -- whether an entry's key passes, by how it compares with the given one
    abbrev passes : K × X → Bool
    passes e = p (R e.0 key)

    none_passes : (es : List (K × X)) → p Less ≡ false → all_below es key ≡ true → list.find passes es ≡ None
    none_passes [] fail h = refl
    none_passes (e ∷ es) fail h =
        cond-false (passes e) (Some e) (list.find passes es) (ap p (less_by _ (and_parts _ _ h).0) ∙ fail) ∙ none_passes es fail (and_parts _ _ h).1

    pub find_passes-left : (l : List (K × X)) (e : K × X) (r : List (K × X)) → passes e ≡ true →
        list.find passes (l ++ e ∷ r) ≡ option_or (list.find passes l) (Some e)
    find_passes-left l e r pass =
        find-append passes l (e ∷ r) ∙ ap (option_or (list.find passes l)) (cond-true (passes e) (Some e) (list.find passes r) pass)

    -- where the entry fails, so do those below it
    pub find_passes-right : (l : List (K × X)) (e : K × X) (r : List (K × X)) → is_sorted R (l ++ e ∷ r) ≡ true → p Less ≡ false → p Greater ≡ true →
        passes e ≡ false → list.find passes (l ++ e ∷ r) ≡ list.find passes r
    find_passes-right l e r h low high fail =
        find-append passes l (e ∷ r)
        ∙ ap (λ found. option_or found (list.find passes (e ∷ r))) (none_passes l low (by_cases (R e.0 key) refl))
        ∙ cond-false (passes e) (Some e) (list.find passes r) fail where
          by_cases : (c : Ordering) → R e.0 key ≡ c → all_below l key ≡ true
          by_cases Less is = all_below-higher key e.0 l is (parted l e r h).beneath
          by_cases Equal is = all_below-same key e.0 l (turn o e.0 key Equal is) (parted l e r h).beneath
          by_cases Greater is = let both : true ≡ false = sym high ∙ (ap p (sym is) ∙ fail) in absurd cc

  -- ---- the maps that sorted entries are

  pub from_sorted-put : (key : K) (value : X) (es : List (K × X)) → is_sorted R es ≡ true →
      from_sorted {R = R} (put R key value es) ≡ fin.insert (from_sorted es) key value
  from_sorted-put key value es h =
      same_entries_map _ _
      (entries-from_sorted R _ (is_sorted-put R o key value es (said h))
      ∙ ap (put R key value) (sym (entries-from_sorted R es (said h)))
      ∙ sym (entries-insert o (from_sorted es) key value))

  pub from_sorted-without : IsAntisymmetric R → (key : K) (es : List (K × X)) → is_sorted R es ≡ true →
      from_sorted {R = R} (where_key R (apart R key) es) ≡ fin.remove (from_sorted es) key
  from_sorted-without same key es h =
      same_map o same _ _ (λ query.
      get-from_sorted R (where_key R (apart R key) es) query (said (is_sorted-without key es h))
      ∙ find-where_key R (apart R key) query (λ x tie. ap (λ r. not (is_eq r)) (sym (alike_right o query x key tie))) es
      ∙ swapped (eq_by_cmp R key query) (find R query es)
      ∙ ap (λ b. cond b None (find R query es)) ((eq_by_cmp_equiv o).symm key query)
      ∙ ap (cond (eq_by_cmp R query key) None) (sym (get-from_sorted R es query (said h)))
      ∙ sym (get-remove o (from_sorted es) key query))

-- ---- one entry more

-- Where none has its key, these are the others and that one, in another order.
pub IsPermutation-put : {K X : Type 0} (R : K → K → Ordering) (e : K × X) (es : List (K × X)) → find R e.0 es ≡ None → IsPermutation (e ∷ es) (put R e.0 e.1 es)
IsPermutation-put R e [] free = IsPermutation-refl (e ∷ [])
IsPermutation-put {K} {X} R e (f ∷ fs) free = by_cases (IsPermutation-put R e fs) (R e.0 f.0) refl where
  with_one : Ordering → List (K × X)
  with_one r = by_order r (e ∷ f ∷ fs) ((f.0, e.1) ∷ fs) (f ∷ put R e.0 e.1 fs)

  by_cases : (find R e.0 fs ≡ None → IsPermutation (e ∷ fs) (put R e.0 e.1 fs)) → (r : Ordering) → R e.0 f.0 ≡ r → IsPermutation (e ∷ f ∷ fs) (with_one (R e.0 f.0))
  by_cases rest Less is = subst (λ r. IsPermutation (e ∷ f ∷ fs) (with_one r)) (sym is) (IsPermutation-refl (e ∷ f ∷ fs))
  by_cases rest Equal is = let both = sym (cond-true (is_eq (R e.0 f.0)) (Some f.1) (find R e.0 fs) (ap is_eq is)) ∙ free in absurd cc
  by_cases rest Greater is =
      let others = rest (sym (cond-false (is_eq (R e.0 f.0)) (Some f.1) (find R e.0 fs) (ap is_eq is)) ∙ free) in
      subst (λ r. IsPermutation (e ∷ f ∷ fs) (with_one r)) (sym is)
      (IsPermutation-trans (e ∷ f ∷ fs) (f ∷ e ∷ fs) (f ∷ put R e.0 e.1 fs)
      (IsPermutation-sym (f ∷ e ∷ fs) (e ∷ f ∷ fs) (IsPermutation-middle (f ∷ []) e fs))
      (IsPermutation-cons f (e ∷ fs) (put R e.0 e.1 fs) others))
