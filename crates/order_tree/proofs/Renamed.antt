-- A map whose keys have other names, in the same order: what is asked of it, and what a change makes of it.
use Rattle.std.proofs.Common.{◌≡◌, true, cond, List, [], ◌∷◌, None, Some, refl, sym, ap, ◌∙◌, inl, inr}
use Rattle.std.specs.Prelude.{◌&&◌, is_some, length}
use Rattle.std.specs.List.{AllByRecursion}
use Rattle.std.specs.Cmp.{IsTotalOrder, tied_itself}
use Rattle.std.specs.Ordering.{is_lt, is_eq, eq_by_cmp}
use Rattle.std.specs.declared.cmp.Ordering.{Ordering}
use Rattle.std.specs.FinMap as fin
use Rattle.std.specs.FinMap.{FinMap, IsAntisymmetric, entries, entries_sorted, is_sorted, entries-from_sorted, same_map, get-insert, get-remove, get-from_sorted, get-entries, len, len-entries, get, find}
use Rattle.std.specs.FinMap.Entries.{below_all}
use Rattle.std.proofs.lemmas.Bool.{cases_Bool, cond-true, cond-false}
use Rattle.std.proofs.lemmas.List.{length-map}
use Rattle.cs_types.proofs.Queues.{said}
use Rattle.order_tree.proofs.Entries.{true_by}
use Rattle.order_tree.specs.Renamed.{renamed, map_renamed}

-- a fact of each key that is found is one of each entry
pub all_of_found : {K X : Type 0} {R : K → K → Ordering} → IsTotalOrder R → (P : K → Type 0) (es : List (K × X)) →
    ((key : K) → is_some (find R key es) ≡ true → P key) → AllByRecursion (λ (e : K × X). P e.0) es
all_of_found o P [] each = tt
all_of_found {R = R} o P (e ∷ es) each =
    (each e.0 (ap is_some (cond-true _ (Some e.1) (find R e.0 es) (ap is_eq (tied_itself o e.0)))), all_of_found o P es (λ key h. each key (later key h))) where
      later : (key : _) → is_some (find R key es) ≡ true → is_some (find R key (e ∷ es)) ≡ true
      later key h =
          elim (cases_Bool (eq_by_cmp R key e.0)) [
            | inl tie ↦ ap is_some (cond-true _ (Some e.1) (find R key es) tie)
            | inr apart ↦ ap is_some (cond-false _ (Some e.1) (find R key es) apart) ∙ h
          ]

-- Among the keys of which P holds the names go there and back, and compare as the keys do.
pub record IsRenaming {K J : Type 0} (R : K → K → Ordering) (S : J → J → Ordering) (P : K → Type 0) (f : K → J) (g : J → K) : Type 0 where
  pub back : (j : J) → f (g j) ≡ j
  pub meant : (j : J) → P (g j)
  pub same : (a b : K) → P a → P b → S (f a) (f b) ≡ R a b

-- a name compares with another as its key does
named : {K J : Type 0} {R : K → K → Ordering} {S : J → J → Ordering} {P : K → Type 0} {f : K → J} {g : J → K} → IsRenaming R S P f g → (j : J) (key : K) → P key →
    S j (f key) ≡ R (g j) key
named {S = S} {f = f} {g = g} names j key p = ap (λ n. S n (f key)) (sym (names.back j)) ∙ names.same (g j) key (names.meant j) p

module _ {K J X : Type 0} {R : K → K → Ordering} {S : J → J → Ordering} {P : K → Type 0} {f : K → J} {g : J → K} (names : IsRenaming R S P f g) where
  below_all-renamed : (key : K) → P key → (es : List (K × X)) → AllByRecursion (λ (e : K × X). P e.0) es → below_all S (f key) (renamed f es) ≡ below_all R key es
  below_all-renamed key p [] all = refl
  below_all-renamed key p (e ∷ es) all = λ i. is_lt (names.same key e.0 p all.0 i) && below_all-renamed key p es all.1 i

  pub is_sorted-renamed : (es : List (K × X)) → AllByRecursion (λ (e : K × X). P e.0) es → is_sorted S (renamed f es) ≡ is_sorted R es
  is_sorted-renamed [] all = refl
  is_sorted-renamed (e ∷ es) all = λ i. below_all-renamed e.0 all.0 es all.1 i && is_sorted-renamed es all.1 i

  find-renamed : (j : J) (es : List (K × X)) → AllByRecursion (λ (e : K × X). P e.0) es → find S j (renamed f es) ≡ find R (g j) es
  find-renamed j [] all = refl
  find-renamed j (e ∷ es) all = λ i. cond (is_eq (named names j e.0 all.0 i)) (Some e.1) (find-renamed j es all.1 i)

  module _ (m : FinMap R X) (all : AllByRecursion (λ (e : K × X). P e.0) (entries m)) where
    rising : is_sorted S (renamed f (entries m)) ≡ true
    rising = is_sorted-renamed (entries m) all ∙ true_by _ (entries_sorted m)

    pub entries-map_renamed : entries (map_renamed S f m) ≡ renamed f (entries m)
    entries-map_renamed = entries-from_sorted S (renamed f (entries m)) (said rising)

    pub len-map_renamed : len (map_renamed S f m) ≡ len m
    len-map_renamed = len-entries _ ∙ ap length entries-map_renamed ∙ length-map (entries m) (λ (e : K × X). (f e.0, e.1)) ∙ sym (len-entries m)

    pub get-map_renamed : (j : J) → get (map_renamed S f m) j ≡ get m (g j)
    get-map_renamed j = get-from_sorted S (renamed f (entries m)) j (said rising) ∙ find-renamed j (entries m) all ∙ sym (get-entries m (g j))

  module _ (o : IsTotalOrder R) (order : IsTotalOrder S) (only : IsAntisymmetric S) (m after : FinMap R X)
      (all : AllByRecursion (λ (e : K × X). P e.0) (entries m)) (still : AllByRecursion (λ (e : K × X). P e.0) (entries after)) (j : J) where
    tie : (query : J) → eq_by_cmp R (g query) (g j) ≡ eq_by_cmp S query j
    tie query = ap is_eq (sym (named names query (g j) (names.meant j)) ∙ ap (S query) (names.back j))

    pub map_renamed-insert : (value : X) → after ≡ fin.insert m (g j) value → map_renamed S f after ≡ fin.insert (map_renamed S f m) j value
    map_renamed-insert value is =
        same_map order only _ _ (λ query.
        get-map_renamed after still query
        ∙ ap (λ (n : FinMap R X). get n (g query)) is
        ∙ get-insert o m (g j) value (g query)
        ∙ (λ i. cond (tie query i) (Some value) (sym (get-map_renamed m all query) i))
        ∙ sym (get-insert order (map_renamed S f m) j value query))

    pub map_renamed-remove : after ≡ fin.remove m (g j) → map_renamed S f after ≡ fin.remove (map_renamed S f m) j
    map_renamed-remove is =
        same_map order only _ _ (λ query.
        get-map_renamed after still query
        ∙ ap (λ (n : FinMap R X). get n (g query)) is
        ∙ get-remove o m (g j) (g query)
        ∙ (λ i. cond (tie query i) None (sym (get-map_renamed m all query) i))
        ∙ sym (get-remove order (map_renamed S f m) j query))
