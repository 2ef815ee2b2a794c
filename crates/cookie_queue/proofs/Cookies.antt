-- Entries that rise by cookie first: those of a cookie stand together.
use Rattle.std.proofs.Common.{◌≡◌, ◌≢◌, ℕ, ◌<◌, ◌≤◌, map, Bool, true, false, not, cond, List, [], ◌∷◌, Option, None, Some, inl, inr, refl, sym, ap, ◌∙◌, arith}
use Rattle.std.specs.Prelude.{◌&&◌, ◌==◌, find}
use Rattle.std.specs.List.{AllByRecursion}
use Rattle.std.specs.Option.{option_map}
use Rattle.std.specs.Ordering.{ordering_then, ordering_reverse, nat_cmp, is_lt, is_gt}
use Rattle.std.specs.Cmp.{nat_cmp_is}
use Rattle.std.specs.declared.cmp.Ordering.{Ordering}
use Rattle.std.specs.declared.cmp.Ordering.TheVariants.{Less, Equal, Greater}
use Rattle.std.specs.FinMap as fin
use Rattle.std.specs.FinMap.{entries, entries_sorted, is_sorted, get, len, empty, empty_of_len, len-empty}
use Rattle.std.specs.FinMap.Entries.{below_all}
use Rattle.std.proofs.lemmas.Bool.{and_parts, cases_Bool, cases_order, cond-true, cond-false, ne_eqb, eqb-false, eqb-true}
use Rattle.cs_types.specs.declared.queue.Queued.{Queued}
use Rattle.cs_types.specs.Queue.{Key as Place, Spot, Spots, spot_cmp, seat_cmp, spot_of, seat_of, queued_in, first_with, next_with}
use Rattle.cs_types.proofs.Queues.{seat_total, spot_total, spot_cmp-IsAntisymmetric}
use Rattle.order_tree.specs.Order.{Entry, Members, key_cmp, first_from, next_of}
use Rattle.order_tree.specs.Renamed.{renamed, map_renamed}
use Rattle.order_tree.specs.declared.key.Key.{Key}
use Rattle.order_tree.proofs.Entries.{less_by, true_by}
use Rattle.order_tree.specs.Anew.{rekeyed}
use Rattle.order_tree.proofs.Renamed.{IsRenaming, is_sorted-renamed, entries-map_renamed, get-map_renamed, len-map_renamed, map_renamed-insert, map_renamed-remove}
use Rattle.order_tree.proofs.Keys.{key_total}
use Rattle.cookie_queue.specs.Anew.{respotted}
use Rattle.cookie_queue.specs.Inside.{spot_at, key_at, with_cookie}

-- ---- the names of the keys

-- whether a key is one of the queue's: each is
abbrev pub Any : Key → Type 0
Any key = Unit {0}

pub spots : IsRenaming key_cmp spot_cmp Any spot_at key_at
spots = record { back = λ spot. refl; meant = λ spot. tt; same = λ a b p q. refl }

pub all_any : (es : List Entry) → AllByRecursion (λ (e : Entry). Any e.0) es
all_any [] = tt
all_any (e ∷ es) = (tt, all_any es)

-- ---- how keys of different groups compare

lower_group : (a b : Key) → a.group < b.group → key_cmp a b ≡ Less
lower_group a b lt =
    ap
    (λ r. ordering_then r (ordering_then (nat_cmp a.class b.class) (ordering_then (nat_cmp a.rank b.rank) (nat_cmp a.stamp b.stamp))))
    (sym (nat_cmp_is a.group b.group Less lt))

higher_group : (a b : Key) → b.group < a.group → key_cmp a b ≡ Greater
higher_group a b gt =
    ap
    (λ r. ordering_then r (ordering_then (nat_cmp a.class b.class) (ordering_then (nat_cmp a.rank b.rank) (nat_cmp a.stamp b.stamp))))
    (sym (nat_cmp_is a.group b.group Greater gt))

same_group : (a b : Key) → a.group ≡ b.group → key_cmp a b ≡ seat_cmp (spot_at a).1 (spot_at b).1
same_group a b same =
    ap
    (λ r. ordering_then r (ordering_then (nat_cmp a.class b.class) (ordering_then (nat_cmp a.rank b.rank) (nat_cmp a.stamp b.stamp))))
    (sym (nat_cmp_is a.group b.group Equal same))

-- a later key is of a group that is no lower
later_group : (a b : Key) → key_cmp a b ≡ Less → a.group ≤ b.group
later_group a b lt =
    elim (cases_order a.group b.group) [
      | inl same ↦ omega arith
      | inr (inl less) ↦ omega arith
      | inr (inr more) ↦ let both : Less ≡ Greater = sym lt ∙ higher_group a b more in absurd cc
    ]

-- ---- a search that a group ends

-- whether an entry is of the group
abbrev of_group : ℕ → Entry → Bool
of_group c e = e.0.group == c

-- the first entry that passes, where it is of the group
abbrev of_group_only : ℕ → Option Entry → Option Entry
of_group_only c None = None
of_group_only c (Some e) = cond (of_group c e) (Some e) None

none_later : (q : Entry → Bool) (e : Entry) (es : List Entry) → below_all key_cmp e.0 es ≡ true →
    ((other : Entry) → key_cmp e.0 other.0 ≡ Less → q other ≡ false) → find q es ≡ None
none_later q e [] below fails = refl
none_later q e (x ∷ es) below fails =
    cond-false (q x) (Some x) (find q es) (fails x (less_by _ (and_parts _ _ below).0)) ∙ none_later q e es (and_parts _ _ below).1 fails

module _ (c : ℕ) (p q : Entry → Bool) (both : (e : Entry) → q e ≡ (p e && of_group c e))
    (past : (e other : Entry) → p e ≡ true → of_group c e ≡ false → key_cmp e.0 other.0 ≡ Less → of_group c other ≡ false) where
  and_false : (a b : Bool) → b ≡ false → (a && b) ≡ false
  and_false true b h = h
  and_false false b h = refl

  pub find-of_group : (es : List Entry) → is_sorted key_cmp es ≡ true → find q es ≡ of_group_only c (find p es)
  find-of_group [] rising = refl
  find-of_group (e ∷ es) rising =
      elim (cases_Bool (p e)) [
        | inl pass ↦
            elim (cases_Bool (of_group c e)) [
              | inl in_group ↦
                  let passes : q e ≡ true = both e ∙ (λ i. pass i && in_group i) in
                  cond-true (q e) (Some e) (find q es) passes ∙ sym (cond-true (of_group c e) (Some e) None in_group)
                  ∙ ap (of_group_only c) (sym (cond-true (p e) (Some e) (find p es) pass))
              | inr outside ↦
                  let fails : q e ≡ false = both e ∙ (λ i. pass i && outside i) in
                  cond-false (q e) (Some e) (find q es) fails
                  ∙ none_later q e es (and_parts _ _ rising).0 (λ other lt. both other ∙ and_false (p other) _ (past e other pass outside lt))
                  ∙ sym (cond-false (of_group c e) (Some e) None outside) ∙ ap (of_group_only c) (sym (cond-true (p e) (Some e) (find p es) pass))
            ]
        | inr fail ↦
            let fails : q e ≡ false = both e ∙ ap (λ b. b && of_group c e) fail in
            cond-false (q e) (Some e) (find q es) fails ∙ find-of_group es (and_parts _ _ rising).1
            ∙ ap (of_group_only c) (sym (cond-false (p e) (Some e) (find p es) fail))
      ]

-- an entry past a key and of another group is before none of the key's group
past_group : (c : ℕ) (key : Key) (p : Ordering → Bool) → key.group ≡ c → p Less ≡ false → (e other : Entry) → p (key_cmp e.0 key) ≡ true → of_group c e ≡ false →
    key_cmp e.0 other.0 ≡ Less → of_group c other ≡ false
past_group c key p group low e other pass outside lt =
    let apart : e.0.group ≢ c = eqb-false e.0.group c outside in
    let later = later_group e.0 other.0 lt in
    elim (cases_order e.0.group c) [
      | inl same ↦ absurd (apart same)
      | inr (inl less) ↦ let bad : true ≡ false = sym pass ∙ ap p (lower_group e.0 key (omega arith)) ∙ low in absurd cc
      | inr (inr more) ↦ ne_eqb other.0.group c (omega arith)
    ]

-- ---- the first of a cookie

-- no number is below 0
not_below_0 : (n : ℕ) → is_lt (nat_cmp n 0) ≡ false
not_below_0 n =
    elim (cases_order n 0) [
      | inl same ↦ ap is_lt (sym (nat_cmp_is n 0 Equal same))
      | inr (inl less) ↦ absurd (omega arith)
      | inr (inr more) ↦ ap is_lt (sym (nat_cmp_is n 0 Greater more))
    ]

then_not_lt : (a b : Ordering) → is_lt a ≡ false → is_lt b ≡ false → is_lt (ordering_then a b) ≡ false
then_not_lt Less b h k = h
then_not_lt Equal b h k = k
then_not_lt Greater b h k = refl

-- the least key of a group
abbrev pub least_of : ℕ → Key
least_of c = record { group = c; class = 0; rank = 0; stamp = 0 }

not_below_least : (c : ℕ) (e : Entry) → of_group c e ≡ (not (is_lt (key_cmp e.0 (least_of c))) && of_group c e)
not_below_least c e =
    elim (cases_order e.0.group c) [
      | inl same ↦
          ap (λ b. b && of_group c e)
          (sym (ap not (ap is_lt (same_group e.0 (least_of c) same)
          ∙ then_not_lt (nat_cmp e.0.class 0) _ (not_below_0 e.0.class) (then_not_lt (nat_cmp e.0.rank 0) _ (not_below_0 e.0.rank) (not_below_0 e.0.stamp)))))
      | inr (inl less) ↦
          ne_eqb e.0.group c (omega arith) ∙ ap (λ (r : Ordering). not (is_lt r) && of_group c e) (sym (lower_group e.0 (least_of c) less))
      | inr (inr more) ↦
          ap (λ (r : Ordering). not (is_lt r) && of_group c e) (sym (higher_group e.0 (least_of c) more))
    ]

-- ---- the next of a cookie

above_is_later : (a b : Key) → a.group ≡ b.group → is_gt (key_cmp a b) ≡ is_lt (seat_cmp (spot_at b).1 (spot_at a).1)
above_is_later a b same = ap is_gt (same_group a b same ∙ seat_total.antisymm (spot_at a).1 (spot_at b).1) ∙ turned (seat_cmp (spot_at b).1 (spot_at a).1) where
  turned : (r : Ordering) → is_gt (ordering_reverse r) ≡ is_lt r
  turned Less = refl
  turned Equal = refl
  turned Greater = refl

later_in_group : (key : Key) (e : Entry) →
    (of_group key.group e && is_lt (seat_cmp (spot_at key).1 (spot_at e.0).1)) ≡ (is_gt (key_cmp e.0 key) && of_group key.group e)
later_in_group key e =
    elim (cases_Bool (of_group key.group e)) [
      | inl same ↦
          ap (λ b. b && is_lt (seat_cmp (spot_at key).1 (spot_at e.0).1)) same
          ∙ sym (above_is_later e.0 key (eqb-true e.0.group key.group same)) ∙ sym (and_true (is_gt (key_cmp e.0 key)))
          ∙ ap (λ b. is_gt (key_cmp e.0 key) && b) (sym same)
      | inr apart ↦
          ap (λ b. b && is_lt (seat_cmp (spot_at key).1 (spot_at e.0).1)) apart ∙ sym (and_false_right (is_gt (key_cmp e.0 key)) _ apart)
    ] where
      and_true : (a : Bool) → (a && true) ≡ a
      and_true true = refl
      and_true false = refl

      and_false_right : (a b : Bool) → b ≡ false → (a && b) ≡ false
      and_false_right true b h = h
      and_false_right false b h = refl

-- ---- what is told of the entries

-- an entry as a task
abbrev told : Entry → Queued
told e = queued_in (spot_at e.0) e.1

with_cookie-is : (c : ℕ) (found : Option Entry) → with_cookie c found ≡ option_map told (of_group_only c found)
with_cookie-is c None = refl
with_cookie-is c (Some e) = by_cases (of_group c e) where
  by_cases : (b : Bool) → cond b (Some (told e)) None ≡ option_map told (cond b (Some e) None)
  by_cases true = refl
  by_cases false = refl

-- a search among the spots is one among the keys
find-spots : (q : Spot × ℕ → Bool) (es : List Entry) →
    option_map (λ (entry : Spot × ℕ). queued_in entry.0 entry.1) (find q (renamed spot_at es)) ≡ option_map told (find (λ (e : Entry). q (spot_at e.0, e.1)) es)
find-spots q [] = refl
find-spots q (e ∷ es) =
    elim (q (spot_at e.0, e.1)) as (λ b.
    option_map (λ (entry : Spot × ℕ). queued_in entry.0 entry.1) (cond b (Some (spot_at e.0, e.1)) (find q (renamed spot_at es)))
    ≡ option_map told (cond b (Some e) (find (λ (e : Entry). q (spot_at e.0, e.1)) es))) [ true ↦ refl | false ↦ find-spots q es ]

module _ (members : Members) where
  -- the tasks that the members stand for
  abbrev pub tasks_of : Spots
  tasks_of = map_renamed spot_cmp spot_at members

  rising : is_sorted key_cmp (entries members) ≡ true
  rising = true_by _ (entries_sorted members)

  spots_are : entries tasks_of ≡ renamed spot_at (entries members)
  spots_are = entries-map_renamed spots members (all_any (entries members))

  pub first_with-map_renamed : (c : ℕ) → with_cookie c (first_from members (least_of c)) ≡ first_with tasks_of c
  first_with-map_renamed c =
      with_cookie-is c (first_from members (least_of c))
      ∙ ap (option_map told)
      (sym (find-of_group c _ (of_group c) (not_below_least c) (past_group c (least_of c) (λ r. not (is_lt r)) refl refl) (entries members) rising))
      ∙ sym (find-spots (λ (entry : Spot × ℕ). entry.0.0 == c) (entries members))
      ∙ ap (λ (es : List (Spot × ℕ)). option_map (λ (entry : Spot × ℕ). queued_in entry.0 entry.1) (find (λ (entry : Spot × ℕ). entry.0.0 == c) es)) (sym spots_are)

  pub next_with-map_renamed : (task : Queued) → with_cookie task.cookie (next_of members (key_at (spot_of task))) ≡ next_with tasks_of task
  next_with-map_renamed task =
      with_cookie-is task.cookie (next_of members (key_at (spot_of task)))
      ∙ ap (option_map told)
      (sym (find-of_group task.cookie _ (λ (e : Entry). of_group task.cookie e && is_lt (seat_cmp (seat_of task) (spot_at e.0).1)) (later_in_group (key_at (spot_of task)))
      (past_group task.cookie (key_at (spot_of task)) is_gt refl refl) (entries members) rising))
      ∙ sym (find-spots (λ (entry : Spot × ℕ). entry.0.0 == task.cookie && is_lt (seat_cmp (seat_of task) entry.0.1)) (entries members))
      ∙ ap
      (λ (es : List (Spot × ℕ)).
      option_map (λ (entry : Spot × ℕ). queued_in entry.0 entry.1) (find (λ (entry : Spot × ℕ). entry.0.0 == task.cookie && is_lt (seat_cmp (seat_of task) entry.0.1)) es))
      (sym spots_are)

  pub get-tasks_of : (spot : Spot) → get tasks_of spot ≡ get members (key_at spot)
  get-tasks_of spot = get-map_renamed spots members (all_any (entries members)) spot

  pub len-tasks_of : len tasks_of ≡ len members
  len-tasks_of = len-map_renamed spots members (all_any (entries members))

  -- the tasks with other ranks and stamps
  module _ (at : ℕ → Place → Place) where
    renamed-anew : (es : List Entry) → renamed spot_at (map (rekeyed at) es) ≡ map (respotted at) (renamed spot_at es)
    renamed-anew [] = refl
    renamed-anew (e ∷ es) = ap (λ (rest : List (Spot × ℕ)). respotted at (spot_at e.0, e.1) ∷ rest) (renamed-anew es)

    pub rising-anew : is_sorted spot_cmp (map (respotted at) (entries tasks_of)) ≡ true → is_sorted key_cmp (map (rekeyed at) (entries members)) ≡ true
    rising-anew still =
        sym (is_sorted-renamed spots (map (rekeyed at) (entries members)) (all_any (map (rekeyed at) (entries members))))
        ∙ ap (is_sorted spot_cmp) (renamed-anew (entries members) ∙ ap (map (respotted at)) (sym spots_are)) ∙ still

    pub tasks_of-anew : (after : Members) → entries after ≡ map (rekeyed at) (entries members) →
        entries (map_renamed spot_cmp spot_at after) ≡ map (respotted at) (entries tasks_of)
    tasks_of-anew after is =
        entries-map_renamed spots after (all_any (entries after)) ∙ ap (renamed spot_at) is ∙ renamed-anew (entries members)
        ∙ ap (map (respotted at)) (sym spots_are)

  pub tasks_of-insert : (after : Members) (spot : Spot) (pid : ℕ) → after ≡ fin.insert members (key_at spot) pid →
      map_renamed spot_cmp spot_at after ≡ fin.insert tasks_of spot pid
  tasks_of-insert after spot pid is =
      map_renamed-insert spots key_total spot_total spot_cmp-IsAntisymmetric members after (all_any (entries members)) (all_any (entries after)) spot pid is

  pub tasks_of-remove : (after : Members) (spot : Spot) → after ≡ fin.remove members (key_at spot) →
      map_renamed spot_cmp spot_at after ≡ fin.remove tasks_of spot
  tasks_of-remove after spot is =
      map_renamed-remove spots key_total spot_total spot_cmp-IsAntisymmetric members after (all_any (entries members)) (all_any (entries after)) spot is

pub no_tasks : (members : Members) → members ≡ empty → map_renamed spot_cmp spot_at members ≡ empty
no_tasks members is =
    empty_of_len (map_renamed spot_cmp spot_at members) (len-tasks_of members ∙ ap len is ∙ len-empty key_cmp ℕ)
