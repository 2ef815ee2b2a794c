-- A tree in which all keys are of one group and one class, as the queue of a scheduling class.
use Rattle.std.proofs.Common.{◌≡◌, ℕ, ◌≤◌, min, MatchOption, Option, arith, true, false, cond, List, [], ◌∷◌, map, None, Some, inl, inr, refl, sym, ap, ◌∙◌, subst}
use Rattle.std.specs.Prelude.{is_some, slice_get}
use Rattle.std.specs.List.{AllByRecursion}
use Rattle.std.specs.Option.{option_map}
use Rattle.std.specs.Ordering.{ordering_then, nat_cmp, is_lt, is_eq, eq_by_cmp}
use Rattle.std.specs.Cmp.{nat_cmp_is, tied_itself}
use Rattle.std.specs.declared.cmp.Ordering.TheVariants.{Less, Equal, Greater}
use Rattle.std.specs.FinMap as fin
use Rattle.std.specs.FinMap.{entries, get, len, empty, empty_of_len, len-empty, get-empty, get-entries, get-insert, get-remove, is_sorted, find}
use Rattle.std.proofs.lemmas.Bool.{cases_Bool, cases_order, cond-true, cond-false}
use Rattle.cs_types.specs.Queue as queue
use Rattle.cs_types.proofs.Queues as queues
use Rattle.order_tree.specs.Order.{Entry, Members, Ordered, key_cmp, stamped, first_of}
use Rattle.order_tree.specs.Recent.{with_recent, IsBeside, StandsBeside, lesser}
use Rattle.order_tree.specs.Renamed.{renamed, map_renamed}
use Rattle.order_tree.specs.Rank.{rank_at, key_at, least_rank, stamped as ranked_stamp, IsRankKey, IsOfClass}
use Rattle.order_tree.proofs.Entries.{equal_by}
use Rattle.order_tree.proofs.Keys.{key_total, key_cmp-IsAntisymmetric, is_lt-same}
use Rattle.order_tree.proofs.Recents.{first_of-recent, contains_key-at}
use Rattle.order_tree.specs.Anew.{rekeyed, reranked}
use Rattle.order_tree.proofs.Renamed.{IsRenaming, all_of_found, is_sorted-renamed, entries-map_renamed, get-map_renamed, len-map_renamed, map_renamed-insert, map_renamed-remove}

-- the lesser one of two ranks, where there is another
abbrev pub least_with : ℕ → Option ℕ → ℕ
least_with rank None = rank
least_with rank (Some other) = min rank other

-- the first of such entries
first-of_class : (other : Entry) (es : List Entry) → AllByRecursion (λ (e : Entry). IsRankKey e.0) es → slice_get es 0 ≡ Some other → IsRankKey other.0
first-of_class other [] all is = absurd cc
first-of_class other (e ∷ es) all is = subst (λ (o : Option Entry). MatchOption o (Unit {0}) (λ e. IsRankKey e.0)) is all.0

-- among such keys the ranks and the stamps decide
pub ranks : IsRenaming key_cmp queue.key_cmp IsRankKey rank_at key_at
ranks = record {
  back = λ place. refl;
  meant = λ place. (refl, refl);
  same = λ a b p q.
      let group = nat_cmp_is a.group b.group Equal (p.0 ∙ sym q.0) in
      let class = nat_cmp_is a.class b.class Equal (p.1 ∙ sym q.1) in
      λ i. ordering_then (group i) (ordering_then (class i) (queue.key_cmp (rank_at a) (rank_at b)));
}

pub IsOfClass-empty : (members : Members) → members ≡ empty → IsOfClass members
IsOfClass-empty members is key there =
    let none : is_some (get members key) ≡ false = ap (λ (m : Members). is_some (get m key)) is ∙ ap is_some (get-empty key_cmp key) in
    let both = sym there ∙ none in
    absurd cc

module _ (members : Members) (of_class : IsOfClass members) where
  abbrev Each : List Entry → Type 0
  Each es = AllByRecursion (λ (e : Entry). IsRankKey e.0) es

  each : Each (entries members)
  each = all_of_found key_total IsRankKey (entries members) (λ key there. of_class key (ap is_some (get-entries members key) ∙ there))

  -- the queue's tasks
  abbrev pub ranked : queue.Members
  ranked = map_renamed queue.key_cmp rank_at members

  pub get-ranked : (place : queue.Key) → get ranked place ≡ get members (key_at place)
  get-ranked place = get-map_renamed ranks members each place

  pub len-ranked : len ranked ≡ len members
  len-ranked = len-map_renamed ranks members each

  -- they are told alike where all leave
  pub told-ranked : map ranked_stamp (entries ranked) ≡ map stamped (entries members)
  told-ranked = ap (map ranked_stamp) (entries-map_renamed ranks members each) ∙ told (entries members) where
    told : (es : List Entry) → map ranked_stamp (renamed rank_at es) ≡ map stamped es
    told [] = refl
    told (e ∷ es) = ap (λ (rest : List (ℕ × ℕ)). stamped e ∷ rest) (told es)

  pub entries-ranked : entries ranked ≡ renamed rank_at (entries members)
  entries-ranked = entries-map_renamed ranks members each

  -- the keys with other ranks and stamps
  module _ (at : ℕ → queue.Key → queue.Key) where
    each-anew : (es : List Entry) → Each es → Each (map (rekeyed at) es)
    each-anew [] all = tt
    each-anew (e ∷ es) all = (all.0, each-anew es all.1)

    -- they are told alike
    renamed-anew : (es : List Entry) → renamed rank_at (map (rekeyed at) es) ≡ map (reranked at) (renamed rank_at es)
    renamed-anew [] = refl
    renamed-anew (e ∷ es) = ap (λ (rest : List (queue.Key × ℕ)). reranked at (rank_at e.0, e.1) ∷ rest) (renamed-anew es)

    pub rising-anew : is_sorted queue.key_cmp (map (reranked at) (entries ranked)) ≡ true → is_sorted key_cmp (map (rekeyed at) (entries members)) ≡ true
    rising-anew still =
        sym (is_sorted-renamed ranks (map (rekeyed at) (entries members)) (each-anew (entries members) each))
        ∙ ap (is_sorted queue.key_cmp) (renamed-anew (entries members) ∙ ap (map (reranked at)) (sym entries-ranked)) ∙ still

    module _ (after : Members) (is : entries after ≡ map (rekeyed at) (entries members)) where
      of_each : (es : List Entry) → Each es → (key : _) → is_some (find key_cmp key es) ≡ true → IsRankKey key
      of_each [] all key there = absurd cc
      of_each (e ∷ es) all key there =
          elim (cases_Bool (eq_by_cmp key_cmp key e.0)) [
            | inl tie ↦ subst IsRankKey (sym (key_cmp-IsAntisymmetric key e.0 (equal_by _ tie))) all.0
            | inr apart ↦ of_each es all.1 key (ap is_some (sym (cond-false _ (Some e.1) (find key_cmp key es) apart)) ∙ there)
          ]

      still_each : Each (entries after)
      still_each = subst Each (sym is) (each-anew (entries members) each)

      pub IsOfClass-anew : IsOfClass after
      IsOfClass-anew key there = of_each (entries after) still_each key (ap is_some (sym (get-entries after key)) ∙ there)

      pub ranked-anew : entries (map_renamed queue.key_cmp rank_at after) ≡ map (reranked at) (entries ranked)
      ranked-anew =
          entries-map_renamed ranks after still_each ∙ ap (renamed rank_at) is ∙ renamed-anew (entries members)
          ∙ ap (map (reranked at)) (sym entries-ranked)

  pub top_of-ranked : queue.top_of ranked ≡ option_map (λ (e : Entry). e.1) (first_of members)
  top_of-ranked =
      ap (λ (es : List (queue.Key × ℕ)). slice_get (map (λ (e : queue.Key × ℕ). e.1) es) 0) (entries-map_renamed ranks members each) ∙ first (entries members) where
        first : (es : List Entry) → slice_get (map (λ (e : queue.Key × ℕ). e.1) (renamed rank_at es)) 0 ≡ option_map (λ (e : Entry). e.1) (slice_get es 0)
        first [] = refl
        first (e ∷ es) = refl

  -- and the least rank is that of the first key
  pub least_rank-ranked : least_rank ranked ≡ option_map (λ (e : Entry). e.0.rank) (first_of members)
  least_rank-ranked =
      ap (λ (es : List (queue.Key × ℕ)). option_map (λ (e : queue.Key × ℕ). e.0.0) (slice_get es 0)) (entries-map_renamed ranks members each) ∙ first (entries members) where
        first : (es : List Entry) → option_map (λ (e : queue.Key × ℕ). e.0.0) (slice_get (renamed rank_at es) 0) ≡ option_map (λ (e : Entry). e.0.rank) (slice_get es 0)
        first [] = refl
        first (e ∷ es) = refl

  module _ (after : Members) (place : queue.Key) where
    pub IsOfClass-insert : (pid : ℕ) → after ≡ fin.insert members (key_at place) pid → IsOfClass after
    IsOfClass-insert pid is key there =
        let found : is_some (cond (eq_by_cmp key_cmp key (key_at place)) (Some pid) (get members key)) ≡ true =
        ap is_some (sym (get-insert key_total members (key_at place) pid key)) ∙ ap (λ (m : Members). is_some (get m key)) (sym is) ∙ there in
        elim (cases_Bool (eq_by_cmp key_cmp key (key_at place))) [
          | inl tie ↦ subst IsRankKey (sym (key_cmp-IsAntisymmetric key (key_at place) (equal_by _ tie))) (refl, refl)
          | inr apart ↦ of_class key (ap is_some (sym (cond-false _ (Some pid) (get members key) apart)) ∙ found)
        ]

    pub IsOfClass-remove : after ≡ fin.remove members (key_at place) → IsOfClass after
    IsOfClass-remove is key there =
        let found : is_some (cond (eq_by_cmp key_cmp key (key_at place)) None (get members key)) ≡ true =
        ap is_some (sym (get-remove key_total members (key_at place) key)) ∙ ap (λ (m : Members). is_some (get m key)) (sym is) ∙ there in
        elim (cases_Bool (eq_by_cmp key_cmp key (key_at place))) [
          | inl tie ↦ let none : false ≡ true = ap is_some (sym (cond-true _ None (get members key) tie)) ∙ found in absurd cc
          | inr apart ↦ of_class key (ap is_some (sym (cond-false _ None (get members key) apart)) ∙ found)
        ]

    pub ranked-insert : (pid : ℕ) → after ≡ fin.insert members (key_at place) pid → map_renamed queue.key_cmp rank_at after ≡ fin.insert ranked place pid
    ranked-insert pid is =
        map_renamed-insert ranks key_total queues.key_total queues.key_cmp-IsAntisymmetric members after each
        (all_of_found key_total IsRankKey (entries after) (λ key there. IsOfClass-insert pid is key (ap is_some (get-entries after key) ∙ there))) place pid is

    pub ranked-remove : after ≡ fin.remove members (key_at place) → map_renamed queue.key_cmp rank_at after ≡ fin.remove ranked place
    ranked-remove is =
        map_renamed-remove ranks key_total queues.key_total queues.key_cmp-IsAntisymmetric members after each
        (all_of_found key_total IsRankKey (entries after) (λ key there. IsOfClass-remove is key (ap is_some (get-entries after key) ∙ there))) place is

-- ---- the least rank of two entries

-- of two entries with such keys the lesser one has the lesser rank
lesser-rank : (one other : Entry) → IsRankKey one.0 → IsRankKey other.0 →
    option_map (λ (e : Entry). e.0.rank) (lesser (Some one) (Some other)) ≡ Some (min one.0.rank other.0.rank)
lesser-rank one other p q =
    let rest = nat_cmp one.0.stamp other.0.stamp in
    let test = is_lt (key_cmp one.0 other.0) in
    let by_rank : test ≡ is_lt (ordering_then (nat_cmp one.0.rank other.0.rank) rest) =
    is_lt-same one.0.group other.0.group _ (p.0 ∙ sym q.0) ∙ is_lt-same one.0.class other.0.class _ (p.1 ∙ sym q.1) in
    let first : test ≡ true → one.0.rank ≤ other.0.rank → option_map (λ (e : Entry). e.0.rank) (lesser (Some one) (Some other)) ≡ Some (min one.0.rank other.0.rank) =
    λ is le. ap (option_map (λ (e : Entry). e.0.rank)) (cond-true test (Some one) (Some other) is) ∙ ap Some (omega (arith, le)) in
    let second : test ≡ false → other.0.rank ≤ one.0.rank → option_map (λ (e : Entry). e.0.rank) (lesser (Some one) (Some other)) ≡ Some (min one.0.rank other.0.rank) =
    λ is le. ap (option_map (λ (e : Entry). e.0.rank)) (cond-false test (Some one) (Some other) is) ∙ ap Some (omega (arith, le)) in
    elim (cases_order one.0.rank other.0.rank) [
      | inl same ↦
          elim (cases_Bool test) [
            | inl is ↦ first is (omega (arith, same))
            | inr is ↦ second is (omega (arith, same))
          ]
      | inr (inl less) ↦ first (by_rank ∙ ap (λ r. is_lt (ordering_then r rest)) (sym (nat_cmp_is _ _ Less less))) (omega (arith, less))
      | inr (inr more) ↦ second (by_rank ∙ ap (λ r. is_lt (ordering_then r rest)) (sym (nat_cmp_is _ _ Greater more))) (omega (arith, more))
    ]

-- the keys in a tree are such where they are with an entry beside it, whose key is one too
module _ (entry : Entry) (tree : Ordered) (of_class : IsOfClass (with_recent (Some entry) tree.members)) where
  recent-of_class : IsRankKey entry.0
  recent-of_class = of_class entry.0 (contains_key-at entry.0 (Some entry) tree (ap is_eq (tied_itself key_total entry.0)))

  tree-of_class : IsOfClass tree.members
  tree-of_class key there =
      of_class key
      (ap is_some (get-insert key_total tree.members entry.0 entry.1 key)
      ∙ (elim (cases_Bool (eq_by_cmp key_cmp key entry.0)) [
        | inl tie ↦ ap is_some (cond-true _ (Some entry.1) (get tree.members key) tie)
        | inr apart ↦ ap is_some (cond-false _ (Some entry.1) (get tree.members key) apart) ∙ there
      ]))

  -- the least rank where the tree has one, and where it has none
  module _ (beside : IsBeside tree entry) where
    least_of : (least : Option Entry) → first_of tree.members ≡ least → (rank : Option ℕ) → rank ≡ option_map (λ (e : Entry). e.0.rank) least →
        option_map (λ (e : Entry). e.0.rank) (first_of (with_recent (Some entry) tree.members)) ≡ Some (least_with entry.0.rank rank)
    least_of None is rank rank_is =
        ap (option_map (λ (e : Entry). e.0.rank)) (first_of-recent (Some entry) tree beside ∙ ap (lesser (Some entry)) is)
        ∙ ap (λ (o : Option ℕ). Some (least_with entry.0.rank o)) (sym rank_is)
    least_of (Some other) is rank rank_is =
        ap (option_map (λ (e : Entry). e.0.rank)) (first_of-recent (Some entry) tree beside ∙ ap (lesser (Some entry)) is)
        ∙ lesser-rank entry other recent-of_class (first-of_class other (entries tree.members) (each tree.members tree-of_class) is)
        ∙ ap (λ (o : Option ℕ). Some (least_with entry.0.rank o)) (sym rank_is)

pub least_rank-recent : (recent : Option Entry) (entry : Entry) (tree : Ordered) → recent ≡ Some entry → StandsBeside recent tree →
    IsOfClass (with_recent recent tree.members) → (rank : Option ℕ) → rank ≡ option_map (λ (e : Entry). e.0.rank) (first_of tree.members) →
    option_map (λ (e : Entry). e.0.rank) (first_of (with_recent recent tree.members)) ≡ Some (least_with entry.0.rank rank)
least_rank-recent recent entry tree is =
    subst
    (λ (o : Option Entry). StandsBeside o tree → IsOfClass (with_recent o tree.members) → (rank : Option ℕ) → rank ≡ option_map (λ (e : Entry). e.0.rank) (first_of tree.members) →
    option_map (λ (e : Entry). e.0.rank) (first_of (with_recent o tree.members)) ≡ Some (least_with entry.0.rank rank))
    (sym is) (λ beside of_class. least_of entry tree of_class beside (first_of tree.members) refl)

pub no_ranked : (members : Members) → members ≡ empty → map_renamed queue.key_cmp rank_at members ≡ empty
no_ranked members is = empty_of_len _ (len-ranked members (IsOfClass-empty members is) ∙ ap len is ∙ len-empty key_cmp ℕ)
