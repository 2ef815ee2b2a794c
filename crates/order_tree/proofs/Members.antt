-- The map that a tree's entries are, and what is asked of it.
use Rattle.std.proofs.Common.{◌≡◌, ℕ, ◌+◌, ◌*◌, ◌≤◌, true, false, not, cond, eqb, List, [], ◌∷◌, length, Option, None, Some, inl, inr, refl, sym, ap, ◌∙◌, subst, arith}
use Rattle.std.specs.Prelude.{slice_get, find, is_some}
use Rattle.std.proofs.lemmas.Bool.{cases_Bool, cond-true, cond-false}
use Rattle.std.proofs.lemmas.Bool.Decides.{nat_tests}
use Rattle.std.specs.Ordering.{is_lt, is_gt, eq_by_cmp}
use Rattle.std.specs.declared.cmp.Ordering.{Ordering}
use Rattle.std.specs.declared.cmp.Ordering.TheVariants.{Less, Equal, Greater}
use Rattle.std.specs.FinMap as fin
use Rattle.std.specs.FinMap.{from_sorted, is_sorted, entries-from_sorted, get-from_sorted, len}
use Rattle.std.specs.FinMap.Entries.{length_without}
use Rattle.cs_types.specs.Comparisons.{digits}
use Rattle.cs_types.proofs.Queues.{said, len-from_sorted}
use Rattle.cs_types.proofs.Foremost.{find_same}
use Rattle.order_tree.specs.Order.{Entry, Members, key_cmp, first_of, first_from, next_of}
use Rattle.order_tree.specs.Branch.{without, reaches}
use Rattle.order_tree.specs.Recent.{renewed}
use Rattle.order_tree.specs.declared.key.Key.{Key}
use Rattle.order_tree.proofs.Entries.{from_sorted-put, from_sorted-without}
use Rattle.order_tree.specs.Balance.{fewest}
use Rattle.order_tree.proofs.Heights.{height-le, height-lt}
use Rattle.order_tree.proofs.Keys.{key_total, key_cmp-IsAntisymmetric}
use Rattle.order_tree.proofs.Placed.{sought}

pub not_below : (r : Ordering) → reaches true r ≡ not (is_lt r)
not_below Less = refl
not_below Equal = refl
not_below Greater = refl

pub above : (r : Ordering) → reaches false r ≡ is_gt r
above Less = refl
above Equal = refl
above Greater = refl

module _ (es : List Entry) (rising : is_sorted key_cmp es ≡ true) where
  -- the map of the entries
  abbrev map_of : Members
  map_of = from_sorted es

  pub first_of-from_sorted : first_of map_of ≡ slice_get es 0
  first_of-from_sorted = ap (λ (xs : List Entry). slice_get xs 0) (entries-from_sorted key_cmp es (said rising))

  pub first_from-from_sorted : (key : Key) → first_from map_of key ≡ sought key true es
  first_from-from_sorted key =
      ap (find (λ (e : Entry). not (is_lt (key_cmp e.0 key)))) (entries-from_sorted key_cmp es (said rising))
      ∙ find_same _ _ es (λ e. sym (not_below (key_cmp e.0 key)))

  pub next_of-from_sorted : (key : Key) → next_of map_of key ≡ sought key false es
  next_of-from_sorted key =
      ap (find (λ (e : Entry). is_gt (key_cmp e.0 key))) (entries-from_sorted key_cmp es (said rising))
      ∙ find_same _ _ es (λ e. sym (above (key_cmp e.0 key)))

  pub get-map_of : (key : Key) → fin.get map_of key ≡ fin.find key_cmp key es
  get-map_of key = get-from_sorted key_cmp es key (said rising)

  -- a call that counts a comparison a level keeps within the bound
  pub within : (old new height : ℕ) → new ≤ old + height → height ≤ 2 * digits (length es) → new ≤ old + 2 * digits (len map_of)
  within old new height counted shallow =
      subst (λ n. new ≤ old + 2 * digits n) (sym (len-from_sorted key_cmp es rising)) (omega arith)

  -- the same of a call that compares the first too, where there is one
  pub within-first : (first : Option Entry) (old middle new height : ℕ) → first ≡ slice_get es 0 → middle ≤ old + 1 → (first ≡ None → middle ≡ old) →
      new ≤ middle + height → fewest height ≤ length es → new ≤ old + 2 * digits (len map_of)
  within-first first old middle new height is one alone counted many =
      subst (λ n. new ≤ old + 2 * digits n) (sym (len-from_sorted key_cmp es rising)) (by_cases es is many) where
        by_cases : (es : List Entry) → first ≡ slice_get es 0 → fewest height ≤ length es → new ≤ old + 2 * digits (length es)
        by_cases [] is many = let same = alone is in let most = height-le height 0 many in omega arith
        by_cases (e ∷ es) is many = let most = height-lt height (length (e ∷ es)) (omega arith) many in omega arith

  pub find-free : (members : Members) → map_of ≡ members → (key : Key) → fin.get members key ≡ None → fin.find key_cmp key es ≡ None
  find-free members is key free = sym (get-map_of key) ∙ ap (λ (m : Members). fin.get m key) is ∙ free

  -- the map with one entry more, and without those of a key
  pub map_of-put : (members : Members) → map_of ≡ members → (key : Key) (pid : ℕ) (after : List Entry) → after ≡ fin.put key_cmp key pid es →
      from_sorted {R = key_cmp} after ≡ fin.insert members key pid
  map_of-put members is key pid after put =
      ap (from_sorted {R = key_cmp}) put ∙ from_sorted-put key_total key pid es rising ∙ ap (λ (m : Members). fin.insert m key pid) is

  pub map_of-without : (members : Members) → map_of ≡ members → (key : Key) (after : List Entry) → after ≡ without key es →
      from_sorted {R = key_cmp} after ≡ fin.remove members key
  map_of-without members is key after cut =
      ap (from_sorted {R = key_cmp}) cut ∙ from_sorted-without key_total key_cmp-IsAntisymmetric key es rising
      ∙ ap (λ (m : Members). fin.remove m key) is

  pub contains_key-map_of : (members : Members) → map_of ≡ members → (key : Key) → fin.contains_key members key ≡ is_some (fin.find key_cmp key es)
  contains_key-map_of members is key = ap (λ (m : Members). fin.contains_key m key) (sym is) ∙ ap is_some (get-map_of key)

  -- how many entries there are without those of a key
  pub length-without : (key : Key) → cond (is_some (fin.find key_cmp key es)) 1 0 + length (without key es) ≡ length es
  length-without key = length_without key_cmp key_total key es (said rising)

-- the first entry that is left where a pid was taken out: the old one, where that has another pid
pub first-without : (es : List Entry) (key : Key) (pid : ℕ) → fin.find key_cmp key es ≡ Some pid →
    slice_get (without key es) 0 ≡ renewed (slice_get es 0) pid (slice_get (without key es) 0)
first-without [] key pid found = refl
first-without (e ∷ es) key pid found =
    elim (cases_Bool (eqb e.1 pid)) [
      | inl same ↦ sym (cond-true (eqb e.1 pid) (slice_get (without key (e ∷ es)) 0) (Some e) same)
      | inr other ↦
          elim (cases_Bool (eq_by_cmp key_cmp key e.0)) [
            | inl tie ↦
                let both : Some e.1 ≡ Some pid = sym (cond-true (eq_by_cmp key_cmp key e.0) (Some e.1) (fin.find key_cmp key es) tie) ∙ found in
                let same : e.1 ≡ pid = cc in
                let bad : eqb e.1 pid ≡ true = grind (arith, nat_tests) in
                let never = sym bad ∙ other in
                absurd cc
            | inr apart ↦
                ap (λ b. slice_get (cond (not b) (e ∷ without key es) (without key es)) 0) apart
                ∙ sym (cond-false (eqb e.1 pid) (slice_get (without key (e ∷ es)) 0) (Some e) other)
          ]
    ]

-- entries among which there is none of a key
pub without-none : (es : List Entry) (key : Key) → fin.find key_cmp key es ≡ None → without key es ≡ es
without-none [] key none = refl
without-none (e ∷ es) key none =
    elim (cases_Bool (eq_by_cmp key_cmp key e.0)) [
      | inl tie ↦ let both = sym (cond-true (eq_by_cmp key_cmp key e.0) (Some e.1) (fin.find key_cmp key es) tie) ∙ none in cc
      | inr apart ↦
          ap (λ b. cond (not b) (e ∷ without key es) (without key es)) apart
          ∙ ap (λ (rest : List Entry). e ∷ rest)
          (without-none es key (sym (cond-false (eq_by_cmp key_cmp key e.0) (Some e.1) (fin.find key_cmp key es) apart) ∙ none))
    ]
