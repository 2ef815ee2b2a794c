-- A tree beside which an entry stands: what is found of both, and what is left where one is taken out.
use Rattle.std.proofs.Common.{◌<◌, ◌≡◌, ℕ, ◌+◌, ◌-◌, ◌*◌, ◌≤◌, Bool, true, false, cond, List, [], ◌∷◌, ◌++◌, map, Option, None, Some, refl, sym, ap, ◌∙◌, subst, inl, inr, arith}
use Rattle.std.specs.Prelude.{slice_get, is_some}
use mir.Val.{bool_byte}
use Rattle.std.specs.List as list
use Rattle.std.specs.Ordering.{is_lt, is_eq, eq_by_cmp}
use Rattle.std.specs.declared.cmp.Ordering.{Ordering}
use Rattle.std.specs.declared.cmp.Ordering.TheVariants.{Less, Equal, Greater}
use Rattle.std.specs.FinMap as fin
use Rattle.std.specs.FinMap.{entries, entries-insert, find, put, get, contains_key, get-entries, get-insert, get-remove, same_map, len, len-insert}
use Rattle.std.specs.FinMap.Entries.{by_order}
use Rattle.std.proofs.lemmas.Bool.{cases_Bool, cond-true, cond-false}
use Rattle.std.specs.Option.{option_len}
use Rattle.cs_types.specs.Comparisons.{digits, most_comparisons}
use Rattle.cs_types.proofs.Comparisons.{most_comparisons-le}
use Rattle.cs_types.proofs.Foremost.{find_same}
use Rattle.order_tree.specs.Order.{Entry, Members, Ordered, key_cmp, stamped, first_of, first_from, next_of}
use Rattle.order_tree.specs.Branch.{reaches}
use Rattle.order_tree.specs.Recent.{with_recent, IsBeside, StandsBeside, is_at, reaching, lesser}
use Rattle.order_tree.specs.declared.key.Key.{Key}
use Rattle.std.specs.List.Sorted.{IsPermutation}
use Rattle.std.proofs.lemmas.List.{append_assoc}
use Rattle.std.proofs.lemmas.List.Sorted.{IsPermutation-sym, IsPermutation-map, IsPermutation-append_right}
use Rattle.order_tree.proofs.Entries.{equal_by, IsPermutation-put}
use Rattle.order_tree.proofs.Keys.{key_total, key_cmp-IsAntisymmetric}
use Rattle.order_tree.proofs.Members.{not_below, above}

-- two choices of which at most one is made
swapped : {A : Type 0} (p q : Bool) (x y z : A) → (p ≡ true → q ≡ true → ⊥) → cond p x (cond q y z) ≡ cond q y (cond p x z)
swapped true true x y z never = absurd (never refl refl)
swapped true false x y z never = refl
swapped false q x y z never = refl

cond_same : {A : Type 0} (b : Bool) (x : A) → cond b x x ≡ x
cond_same true x = refl
cond_same false x = refl

-- an entry, where a test says so
abbrev kept : Bool → Entry → Option Entry
kept b entry = cond b (Some entry) None

-- ---- what is found among entries of which one was put in

module _ (entry : Entry) where
  -- the least of them
  pub least-put : (es : List Entry) → find key_cmp entry.0 es ≡ None → slice_get (put key_cmp entry.0 entry.1 es) 0 ≡ lesser (Some entry) (slice_get es 0)
  least-put [] free = refl
  least-put (e ∷ es) free = by_cases (key_cmp entry.0 e.0) refl where
    by_cases : (r : Ordering) → key_cmp entry.0 e.0 ≡ r → slice_get (put key_cmp entry.0 entry.1 (e ∷ es)) 0 ≡ lesser (Some entry) (Some e)
    by_cases Less is =
        ap (λ c. slice_get (by_order c (entry ∷ e ∷ es) ((e.0, entry.1) ∷ es) (e ∷ put key_cmp entry.0 entry.1 es)) 0) is
        ∙ sym (cond-true (is_lt (key_cmp entry.0 e.0)) (Some entry) (Some e) (ap is_lt is))
    by_cases Equal is = let both = sym (cond-true (is_eq (key_cmp entry.0 e.0)) (Some e.1) (find key_cmp entry.0 es) (ap is_eq is)) ∙ free in cc
    by_cases Greater is =
        ap (λ c. slice_get (by_order c (entry ∷ e ∷ es) ((e.0, entry.1) ∷ es) (e ∷ put key_cmp entry.0 entry.1 es)) 0) is
        ∙ sym (cond-false (is_lt (key_cmp entry.0 e.0)) (Some entry) (Some e) (ap is_lt is))

  module _ (key : Key) (p : Ordering → Bool) (low : p Less ≡ false) (high : p Greater ≡ true) where
    abbrev passes : Entry → Bool
    passes e = p (key_cmp e.0 key)

    -- what is above a key that passes passes too
    upward : (e : Entry) → key_cmp entry.0 e.0 ≡ Less → passes entry ≡ true → passes e ≡ true
    upward e lower pass = by_cases (key_cmp e.0 key) refl where
      by_cases : (r : Ordering) → key_cmp e.0 key ≡ r → passes e ≡ true
      by_cases Less is = let both = sym pass ∙ ap p (key_total.trans entry.0 e.0 key lower is) ∙ low in cc
      by_cases Equal is =
          let same = key_cmp-IsAntisymmetric e.0 key is in
          let both = sym pass ∙ ap p (ap (key_cmp entry.0) (sym same) ∙ lower) ∙ low in cc
      by_cases Greater is = ap p is ∙ high

    first-put : (es : List Entry) → find key_cmp entry.0 es ≡ None →
        list.find passes (put key_cmp entry.0 entry.1 es) ≡ lesser (kept (passes entry) entry) (list.find passes es)
    first-put [] free =
        elim (cases_Bool (passes entry)) [
          | inl pass ↦ cond-true (passes entry) (Some entry) None pass ∙ ap (λ b. lesser (kept b entry) None) (sym pass)
          | inr fail ↦ cond-false (passes entry) (Some entry) None fail ∙ ap (λ b. lesser (kept b entry) None) (sym fail)
        ]
    first-put (e ∷ es) free = by_cases (first-put es) (key_cmp entry.0 e.0) refl where
      found : Ordering → Option Entry
      found c = list.find passes (by_order c (entry ∷ e ∷ es) ((e.0, entry.1) ∷ es) (e ∷ put key_cmp entry.0 entry.1 es))

      Next : Type 0
      Next = find key_cmp entry.0 es ≡ None → list.find passes (put key_cmp entry.0 entry.1 es) ≡ lesser (kept (passes entry) entry) (list.find passes es)

      by_cases : Next → (r : Ordering) → key_cmp entry.0 e.0 ≡ r → found (key_cmp entry.0 e.0) ≡ lesser (kept (passes entry) entry) (list.find passes (e ∷ es))
      by_cases next Less is =
          ap found is
          ∙ (elim (cases_Bool (passes entry)) [
            | inl pass ↦
                cond-true (passes entry) (Some entry) (list.find passes (e ∷ es)) pass
                ∙ sym (cond-true (is_lt (key_cmp entry.0 e.0)) (Some entry) (Some e) (ap is_lt is))
                ∙ ap (lesser (Some entry)) (sym (cond-true (passes e) (Some e) (list.find passes es) (upward e is pass)))
                ∙ ap (λ b. lesser (kept b entry) (list.find passes (e ∷ es))) (sym pass)
            | inr fail ↦
                cond-false (passes entry) (Some entry) (list.find passes (e ∷ es)) fail
                ∙ ap (λ b. lesser (kept b entry) (list.find passes (e ∷ es))) (sym fail)
          ])
      by_cases next Equal is = let both = sym (cond-true (is_eq (key_cmp entry.0 e.0)) (Some e.1) (find key_cmp entry.0 es) (ap is_eq is)) ∙ free in cc
      by_cases next Greater is =
          ap found is
          ∙ (elim (cases_Bool (passes e)) [
            | inl pass ↦
                cond-true (passes e) (Some e) (list.find passes (put key_cmp entry.0 entry.1 es)) pass
                ∙ sym (lower (passes entry))
                ∙ ap (lesser (kept (passes entry) entry)) (sym (cond-true (passes e) (Some e) (list.find passes es) pass))
            | inr fail ↦
                cond-false (passes e) (Some e) (list.find passes (put key_cmp entry.0 entry.1 es)) fail
                ∙ next (sym (cond-false (is_eq (key_cmp entry.0 e.0)) (Some e.1) (find key_cmp entry.0 es) (ap is_eq is)) ∙ free)
                ∙ ap (lesser (kept (passes entry) entry)) (sym (cond-false (passes e) (Some e) (list.find passes es) fail))
          ]) where
            lower : (b : Bool) → lesser (kept b entry) (Some e) ≡ Some e
            lower true = cond-false (is_lt (key_cmp entry.0 e.0)) (Some entry) (Some e) (ap is_lt is)
            lower false = refl

-- ---- what is found in a tree and beside it

pub first_of-recent : (recent : Option Entry) (tree : Ordered) → StandsBeside recent tree → first_of (with_recent recent tree.members) ≡ lesser recent (first_of tree.members)
first_of-recent None tree beside = refl
first_of-recent (Some entry) tree beside =
    ap (λ (es : List Entry). slice_get es 0) (entries-insert key_total tree.members entry.0 entry.1)
    ∙ least-put entry (entries tree.members) (sym (get-entries tree.members entry.0) ∙ beside.free)

found-recent : (recent : Option Entry) (tree : Ordered) → StandsBeside recent tree → (key : Key) (at : Bool) →
    list.find (λ (e : Entry). reaches at (key_cmp e.0 key)) (entries (with_recent recent tree.members))
    ≡ lesser (reaching at key recent) (list.find (λ (e : Entry). reaches at (key_cmp e.0 key)) (entries tree.members))
found-recent None tree beside key at = refl
found-recent (Some entry) tree beside key at =
    ap (list.find (λ (e : Entry). reaches at (key_cmp e.0 key))) (entries-insert key_total tree.members entry.0 entry.1)
    ∙ first-put entry key (reaches at) refl refl (entries tree.members) (sym (get-entries tree.members entry.0) ∙ beside.free)

pub first_from-recent : (recent : Option Entry) (tree : Ordered) → StandsBeside recent tree → (key : Key) →
    first_from (with_recent recent tree.members) key ≡ lesser (reaching true key recent) (first_from tree.members key)
first_from-recent recent tree beside key =
    find_same _ _ (entries (with_recent recent tree.members)) (λ e. sym (not_below (key_cmp e.0 key)))
    ∙ found-recent recent tree beside key true
    ∙ ap (lesser (reaching true key recent)) (find_same _ _ (entries tree.members) (λ e. not_below (key_cmp e.0 key)))

pub next_of-recent : (recent : Option Entry) (tree : Ordered) → StandsBeside recent tree → (key : Key) →
    next_of (with_recent recent tree.members) key ≡ lesser (reaching false key recent) (next_of tree.members key)
next_of-recent recent tree beside key =
    find_same _ _ (entries (with_recent recent tree.members)) (λ e. sym (above (key_cmp e.0 key)))
    ∙ found-recent recent tree beside key false
    ∙ ap (lesser (reaching false key recent)) (find_same _ _ (entries tree.members) (λ e. above (key_cmp e.0 key)))

-- ---- how many there are, and how many comparisons may be made

pub len-recent : (recent : Option Entry) (tree : Ordered) → StandsBeside recent tree → len (with_recent recent tree.members) ≡ len tree.members + option_len recent
len-recent None tree beside = omega arith
len-recent (Some entry) tree beside =
    len-insert key_total tree.members entry.0 entry.1
    ∙ ap (λ (o : Option ℕ). cond (is_some o) (len tree.members) (len tree.members + 1)) beside.free

-- an entry counts as one
pub counts : {A : Type 0} (o : Option A) → bool_byte (is_some o) ≡ option_len o
counts None = refl
counts (Some x) = refl

pub within-recent : (recent : Option Entry) (tree : Ordered) → StandsBeside recent tree → (old new : ℕ) → new ≤ old + 2 * digits (len tree.members) + 2 →
    new ≤ old + most_comparisons (len (with_recent recent tree.members))
within-recent recent tree beside old new counted =
    let more = len-recent recent tree beside in
    let within = most_comparisons-le (len tree.members) (len (with_recent recent tree.members)) (omega arith) in
    omega arith

-- ---- what is left where a key is taken out

module _ (key : Key) where
  pub contains_key-at : (recent : Option Entry) (tree : Ordered) → is_at recent key ≡ true → contains_key (with_recent recent tree.members) key ≡ true
  contains_key-at None tree at = absurd cc
  contains_key-at (Some entry) tree at = ap is_some (get-insert key_total tree.members entry.0 entry.1 key ∙ cond-true _ (Some entry.1) (get tree.members key) at)

  pub contains_key-apart : (recent : Option Entry) (tree : Ordered) → is_at recent key ≡ false →
      contains_key tree.members key ≡ contains_key (with_recent recent tree.members) key
  contains_key-apart None tree apart = refl
  contains_key-apart (Some entry) tree apart =
      ap is_some (sym (get-insert key_total tree.members entry.0 entry.1 key ∙ cond-false _ (Some entry.1) (get tree.members key) apart))

  pub remove-at : (recent : Option Entry) (tree : Ordered) → StandsBeside recent tree → is_at recent key ≡ true →
      tree.members ≡ fin.remove (with_recent recent tree.members) key
  remove-at None tree beside at = absurd cc
  remove-at (Some entry) tree beside at =
      same_map key_total key_cmp-IsAntisymmetric _ _ (λ query.
      left query
      ∙ ap (cond (eq_by_cmp key_cmp query key) None) (sym (get-insert key_total tree.members entry.0 entry.1 query))
      ∙ sym (get-remove key_total (fin.insert tree.members entry.0 entry.1) key query)) where
        same : key ≡ entry.0
        same = key_cmp-IsAntisymmetric key entry.0 (equal_by _ at)

        left : (query : Key) → get tree.members query
            ≡ cond (eq_by_cmp key_cmp query key) None (cond (eq_by_cmp key_cmp query entry.0) (Some entry.1) (get tree.members query))
        left query =
            elim (cases_Bool (eq_by_cmp key_cmp query key)) [
              | inl tie ↦
                  ap (get tree.members) (key_cmp-IsAntisymmetric query key (equal_by _ tie) ∙ same) ∙ beside.free ∙ sym (cond-true _ None _ tie)
              | inr differs ↦
                  sym (cond-false _ (Some entry.1) (get tree.members query) (ap (eq_by_cmp key_cmp query) (sym same) ∙ differs))
                  ∙ sym (cond-false _ None (cond (eq_by_cmp key_cmp query entry.0) (Some entry.1) (get tree.members query)) differs)
            ]

  -- ---- what there is where a pid is put into the tree

  -- a key that is free is not that of the entry beside the tree
  not_at : (entry : Entry) (tree : Ordered) → get (fin.insert tree.members entry.0 entry.1) key ≡ None → eq_by_cmp key_cmp key entry.0 ≡ true → ⊥
  not_at entry tree free tie =
      let both : Some entry.1 ≡ None =
      sym (cond-true _ (Some entry.1) (get tree.members key) tie) ∙ sym (get-insert key_total tree.members entry.0 entry.1 key) ∙ free in
      cc

  -- nor one of the tree's
  pub free-in : (recent : Option Entry) (tree : Ordered) → get (with_recent recent tree.members) key ≡ None → get tree.members key ≡ None
  free-in None tree free = free
  free-in (Some entry) tree free = elim (cases_Bool (eq_by_cmp key_cmp key entry.0)) [
    | inl tie ↦ absurd (not_at entry tree free tie)
    | inr differs ↦
        sym (cond-false _ (Some entry.1) (get tree.members key) differs) ∙ sym (get-insert key_total tree.members entry.0 entry.1 key) ∙ free
  ]

  pub insert-apart : (pid : ℕ) (recent : Option Entry) (tree : Ordered) → get (with_recent recent tree.members) key ≡ None →
      with_recent recent (fin.insert tree.members key pid) ≡ fin.insert (with_recent recent tree.members) key pid
  insert-apart pid None tree free = refl
  insert-apart pid (Some entry) tree free =
      same_map key_total key_cmp-IsAntisymmetric _ _ (λ query.
      get-insert key_total (fin.insert tree.members key pid) entry.0 entry.1 query
      ∙ ap (cond (eq_by_cmp key_cmp query entry.0) (Some entry.1)) (get-insert key_total tree.members key pid query)
      ∙ swapped (eq_by_cmp key_cmp query entry.0) (eq_by_cmp key_cmp query key) (Some entry.1) (Some pid) (get tree.members query) (never query)
      ∙ ap (cond (eq_by_cmp key_cmp query key) (Some pid)) (sym (get-insert key_total tree.members entry.0 entry.1 query))
      ∙ sym (get-insert key_total (fin.insert tree.members entry.0 entry.1) key pid query)) where
        never : (query : Key) → eq_by_cmp key_cmp query entry.0 ≡ true → eq_by_cmp key_cmp query key ≡ true → ⊥
        never query one other =
            let same = key_cmp-IsAntisymmetric query key (equal_by _ other) in
            not_at entry tree free (ap (λ k. eq_by_cmp key_cmp k entry.0) (sym same) ∙ one)

  pub StandsBeside-insert : (pid : ℕ) (recent : Option Entry) (tree after : Ordered) → StandsBeside recent tree → get (with_recent recent tree.members) key ≡ None →
      after.members ≡ fin.insert tree.members key pid → option_len recent < tree.spare → after.spare + 1 ≡ tree.spare → StandsBeside recent after
  StandsBeside-insert pid None tree after beside free is spare fewer = tt
  StandsBeside-insert pid (Some entry) tree after beside free is spare fewer = record {
    free =
        ap (λ (m : Members). get m entry.0) is ∙ get-insert key_total tree.members key pid entry.0
        ∙ cond-false _ (Some pid) (get tree.members entry.0) apart
        ∙ beside.free;
    spare = omega (arith, spare, fewer);
  } where
    apart : eq_by_cmp key_cmp entry.0 key ≡ false
    apart = elim (cases_Bool (eq_by_cmp key_cmp entry.0 key)) [
      | inl tie ↦
          let same = key_cmp-IsAntisymmetric entry.0 key (equal_by _ tie) in
          absurd (not_at entry tree free ((λ i. eq_by_cmp key_cmp (sym same i) (same i)) ∙ tie))
      | inr differs ↦ differs
    ]

  pub remove-apart : (recent : Option Entry) (tree : Ordered) → is_at recent key ≡ false →
      with_recent recent (fin.remove tree.members key) ≡ fin.remove (with_recent recent tree.members) key
  remove-apart None tree apart = refl
  remove-apart (Some entry) tree apart =
      same_map key_total key_cmp-IsAntisymmetric _ _ (λ query.
      get-insert key_total (fin.remove tree.members key) entry.0 entry.1 query
      ∙ ap (cond (eq_by_cmp key_cmp query entry.0) (Some entry.1)) (get-remove key_total tree.members key query)
      ∙ swapped (eq_by_cmp key_cmp query entry.0) (eq_by_cmp key_cmp query key) (Some entry.1) None (get tree.members query) (never query)
      ∙ ap (cond (eq_by_cmp key_cmp query key) None) (sym (get-insert key_total tree.members entry.0 entry.1 query))
      ∙ sym (get-remove key_total (fin.insert tree.members entry.0 entry.1) key query)) where
        never : (query : Key) → eq_by_cmp key_cmp query entry.0 ≡ true → eq_by_cmp key_cmp query key ≡ true → ⊥
        never query one other =
            let same = key_cmp-IsAntisymmetric query key (equal_by _ other) in
            let both = sym (ap (λ k. eq_by_cmp key_cmp k entry.0) (sym same) ∙ one) ∙ apart in cc

  pub StandsBeside-remove : (recent : Option Entry) (tree after : Ordered) → StandsBeside recent tree → after.members ≡ fin.remove tree.members key →
      tree.spare ≤ after.spare → StandsBeside recent after
  StandsBeside-remove None tree after beside is more = tt
  StandsBeside-remove (Some entry) tree after beside is more = record {
    free =
        ap (λ (m : Members). get m entry.0) is ∙ get-remove key_total tree.members key entry.0
        ∙ ap (cond (eq_by_cmp key_cmp entry.0 key) None) beside.free
        ∙ cond_same (eq_by_cmp key_cmp entry.0 key) None;
    spare = omega (arith, beside.spare);
  }

-- a node is spare for the entry
pub fits-recent : (recent : Option Entry) (tree : Ordered) → StandsBeside recent tree → option_len recent ≤ tree.spare
fits-recent None tree beside = omega arith
fits-recent (Some entry) tree beside = omega (arith, beside.spare)

-- the entry that is at a key has it
pub key-at : (key : Key) (recent : Option Entry) (entry : Entry) → recent ≡ Some entry → is_at recent key ≡ true → key ≡ entry.0
key-at key recent entry is at = key_cmp-IsAntisymmetric key entry.0 (equal_by _ (ap (λ (o : Option Entry). is_at o key) (sym is) ∙ at))

-- as many nodes are spare once all are taken out as were spare before and stood in it
pub spare-recent : (recent : Option Entry) (tree : Ordered) → StandsBeside recent tree →
    (tree.spare - option_len recent) + len (with_recent recent tree.members) ≡ tree.spare + len tree.members
spare-recent None tree beside = omega arith
spare-recent (Some entry) tree beside = omega (arith, beside.spare, len-recent (Some entry) tree beside)

-- ---- all that leave

-- all are told, where first that is told which stands beside the tree
pub told-recent : (entry : Entry) (tree : Ordered) → IsBeside tree entry → (old : List (ℕ × ℕ)) →
    IsPermutation (old ++ map stamped (entries (with_recent (Some entry) tree.members))) ((old ++ stamped entry ∷ []) ++ map stamped (entries tree.members))
told-recent entry tree beside old =
    let es = entries tree.members in
    let more = put key_cmp entry.0 entry.1 es in
    let same = IsPermutation-put key_cmp entry es (sym (get-entries tree.members entry.0) ∙ beside.free) in
    subst (λ (xs : List Entry). IsPermutation (old ++ map stamped xs) ((old ++ stamped entry ∷ []) ++ map stamped es)) (sym (entries-insert key_total tree.members entry.0 entry.1))
    (subst (IsPermutation (old ++ map stamped more)) (sym (append_assoc old (stamped entry ∷ []) (map stamped es)))
    (IsPermutation-append_right old (map stamped more) (map stamped (entry ∷ es)) (IsPermutation-map stamped more (entry ∷ es) (IsPermutation-sym (entry ∷ es) more same))))
