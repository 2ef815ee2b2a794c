-- The tasks with cookies of a run queue: they are no more than its tasks, and a task that comes or goes keeps them so.
use Rattle.std.proofs.Common.{◌≡◌, ◌≢◌, ℕ, ◌+◌, ◌-◌, ◌≤◌, true, false, cond, eqb, eq-eqb, ne_eqb, List, [], ◌∷◌, length, Option, None, Some, inl, inr, ◌⊎◌, refl, sym, ap, ◌∙◌, subst, arith}
use Rattle.std.specs.Prelude.{IsTrue, is_some}
use Rattle.std.specs.List.{AllByRecursion}
use Rattle.std.specs.Cmp.{IsTotalOrder, tied_itself}
use Rattle.std.specs.Ordering.{is_eq, eq_by_cmp}
use Rattle.std.specs.declared.cmp.Ordering.{Ordering}
use Rattle.std.specs.declared.cmp.Ordering.TheVariants.{Less, Equal}
use Rattle.std.specs.FinMap as fin
use Rattle.std.specs.FinMap.{FinMap, IsAntisymmetric, entries, entries_sorted, is_sorted, get, contains_key, len, len-entries, empty, empty_of_len, get-empty, get-entries, get-insert, get-remove, len-insert, len-remove}
use Rattle.std.specs.FinMap.Entries.{below_all}
use Rattle.std.proofs.lemmas.Bool.{and_parts, cases_Bool, cond-true, cond-false}
use Rattle.cs_types.specs.Queue.{Seat, Seats, Spot, Spots, spot_cmp, spot_of}
use Rattle.cs_types.specs.Comparisons.{most_comparisons}
use Rattle.cs_types.proofs.Comparisons.{most_comparisons-le}
use Rattle.cs_types.proofs.Queues.{seat_total, seat_cmp-IsAntisymmetric, spot_total, spot_cmp-IsAntisymmetric}
use Rattle.order_tree.proofs.Entries.{less_by, equal_by, true_by}
use Rattle.order_tree.proofs.Renamed.{all_of_found}
use Rattle.cs_types.specs.declared.queue.Queued.{Queued}
use Rattle.run_queue.specs.Run.{IsTied, without, including}

-- ---- what a map has after an edit

module _ {K X : Type 0} {R : K → K → Ordering} (o : IsTotalOrder R) (only : IsAntisymmetric R) (m : FinMap R X) (key : K) where
  -- what is asked of the map with one entry more
  found-insert : (value : X) (query : K) → contains_key (fin.insert m key value) query ≡ is_some (cond (eq_by_cmp R query key) (Some value) (get m query))
  found-insert value query = ap is_some (get-insert o m key value query)

  pub has-insert : (value : X) → IsTrue (contains_key (fin.insert m key value) key)
  has-insert value = found-insert value key ∙ ap is_some (cond-true _ (Some value) (get m key) (ap is_eq (tied_itself o key)))

  pub keeps-insert : (value : X) (query : K) → IsTrue (contains_key m query) → IsTrue (contains_key (fin.insert m key value) query)
  keeps-insert value query there =
      found-insert value query
      ∙ elim (cases_Bool (eq_by_cmp R query key)) [
        | inl tie ↦ ap is_some (cond-true _ (Some value) (get m query) tie)
        | inr apart ↦ ap is_some (cond-false _ (Some value) (get m query) apart) ∙ there
      ]

  pub had-insert : (value : X) (query : K) → IsTrue (contains_key (fin.insert m key value) query) → (query ≡ key) ⊎ IsTrue (contains_key m query)
  had-insert value query there =
      elim (cases_Bool (eq_by_cmp R query key)) [
        | inl tie ↦ inl (only query key (equal_by _ tie))
        | inr apart ↦ inr (ap is_some (sym (cond-false _ (Some value) (get m query) apart)) ∙ sym (found-insert value query) ∙ there)
      ]

  found-remove : (query : K) → contains_key (fin.remove m key) query ≡ is_some (cond (eq_by_cmp R query key) None (get m query))
  found-remove query = ap is_some (get-remove o m key query)

  pub keeps-remove : (query : K) → query ≢ key → IsTrue (contains_key m query) → IsTrue (contains_key (fin.remove m key) query)
  keeps-remove query other there =
      found-remove query
      ∙ elim (cases_Bool (eq_by_cmp R query key)) [
        | inl tie ↦ absurd (other (only query key (equal_by _ tie)))
        | inr apart ↦ ap is_some (cond-false _ None (get m query) apart) ∙ there
      ]

  pub had-remove : (query : K) → IsTrue (contains_key (fin.remove m key) query) → IsTrue (contains_key m query)
  had-remove query there =
      elim (cases_Bool (eq_by_cmp R query key)) [
        | inl tie ↦ let none : false ≡ true = ap is_some (sym (cond-true _ None (get m query) tie)) ∙ sym (found-remove query) ∙ there in absurd cc
        | inr apart ↦ ap is_some (sym (cond-false _ None (get m query) apart)) ∙ sym (found-remove query) ∙ there
      ]

  pub lost-remove : IsTrue (contains_key (fin.remove m key) key) → ⊥
  lost-remove there =
      let none : false ≡ true = ap is_some (sym (cond-true _ None (get m key) (ap is_eq (tied_itself o key)))) ∙ sym (found-remove key) ∙ there in
      absurd cc

  pub gone-remove : get (fin.remove m key) key ≡ None
  gone-remove = get-remove o m key key ∙ cond-true _ None (get m key) (ap is_eq (tied_itself o key))

  -- ---- how many it has then

  pub longer-insert : (value : X) → get m key ≡ None → len (fin.insert m key value) ≡ len m + 1
  longer-insert value none = len-insert o m key value ∙ ap (λ (found : Option X). cond (is_some found) (len m) (len m + 1)) none

  not_empty : IsTrue (contains_key m key) → len m ≢ 0
  not_empty there none =
      let bad : true ≡ false = sym there ∙ ap (λ (n : FinMap R X). is_some (get n key)) (empty_of_len m none) ∙ ap is_some (get-empty R key) in
      absurd cc

  pub shorter-remove : len (fin.remove m key) + cond (contains_key m key) 1 0 ≡ len m
  shorter-remove =
      elim (cases_Bool (contains_key m key)) [
        | inl there ↦
            let some : len m ≢ 0 = not_empty there in
            let fewer = len-remove o m key ∙ cond-true _ (len m - 1) (len m) there in
            ap (λ b. len (fin.remove m key) + cond b 1 0) there ∙ omega arith
        | inr none ↦
            let same = len-remove o m key ∙ cond-false _ (len m - 1) (len m) none in
            ap (λ b. len (fin.remove m key) + cond b 1 0) none ∙ omega arith
      ]

-- ---- as many as there are

-- no two of these are at one seat
abbrev AreApart : List (Spot × ℕ) → Type 0
AreApart [] = Unit {0}
AreApart (e ∷ es) = AllByRecursion (λ (f : Spot × ℕ). f.0.1 ≢ e.0.1) es × AreApart es

seats_left : (tasks : Seats) (seat : Seat) (es : List (Spot × ℕ)) → AllByRecursion (λ (e : Spot × ℕ). IsTrue (contains_key tasks e.0.1)) es →
    AllByRecursion (λ (e : Spot × ℕ). e.0.1 ≢ seat) es → AllByRecursion (λ (e : Spot × ℕ). IsTrue (contains_key (fin.remove tasks seat) e.0.1)) es
seats_left tasks seat [] there others = tt
seats_left tasks seat (e ∷ es) there others =
    (keeps-remove seat_total seat_cmp-IsAntisymmetric tasks seat e.0.1 others.0 there.0, seats_left tasks seat es there.1 others.1)

length-le : (es : List (Spot × ℕ)) (tasks : Seats) → AllByRecursion (λ (e : Spot × ℕ). IsTrue (contains_key tasks e.0.1)) es → AreApart es → length es ≤ len tasks
length-le [] tasks there apart = omega arith
length-le (e ∷ es) tasks there apart =
    let rest = length-le es (fin.remove tasks e.0.1) (seats_left tasks e.0.1 es there.1 apart.0) apart.1 in
    let fewer = ap (λ b. len (fin.remove tasks e.0.1) + cond b 1 0) (sym there.0) ∙ shorter-remove seat_total seat_cmp-IsAntisymmetric tasks e.0.1 in
    omega arith

module _ (tasks : Seats) (cookies : Spots) (tied : IsTied tasks cookies) where
  seats_of : (es : List (Spot × ℕ)) → AllByRecursion (λ (e : Spot × ℕ). IsTrue (contains_key cookies e.0)) es →
      AllByRecursion (λ (e : Spot × ℕ). IsTrue (contains_key tasks e.0.1)) es
  seats_of [] all = tt
  seats_of (e ∷ es) all = (tied.seated e.0 all.0, seats_of es all.1)

  others_apart : (e : Spot × ℕ) → IsTrue (contains_key cookies e.0) → (es : List (Spot × ℕ)) → below_all spot_cmp e.0 es ≡ true →
      AllByRecursion (λ (e : Spot × ℕ). IsTrue (contains_key cookies e.0)) es → AllByRecursion (λ (f : Spot × ℕ). f.0.1 ≢ e.0.1) es
  others_apart e here [] below all = tt
  others_apart e here (f ∷ es) below all = (
    λ same.
        let cookie = tied.one f.0 e.0 all.0 here same in
        let spot : f.0 ≡ e.0 = λ i. (cookie i, same i) in
        let bad : Less ≡ Equal = sym (less_by _ (and_parts _ _ below).0) ∙ ap (spot_cmp e.0) spot ∙ tied_itself spot_total e.0 in
        absurd cc,
    others_apart e here es (and_parts _ _ below).1 all.1,
  )

  all_apart : (es : List (Spot × ℕ)) → is_sorted spot_cmp es ≡ true → AllByRecursion (λ (e : Spot × ℕ). IsTrue (contains_key cookies e.0)) es → AreApart es
  all_apart [] rising all = tt
  all_apart (e ∷ es) rising all = (others_apart e all.0 es (and_parts _ _ rising).0 all.1, all_apart es (and_parts _ _ rising).1 all.1)

  pub len-le : len cookies ≤ len tasks
  len-le =
      let all = all_of_found spot_total (λ spot. IsTrue (contains_key cookies spot)) (entries cookies) (λ spot there. ap is_some (get-entries cookies spot) ∙ there) in
      let few = length-le (entries cookies) tasks (seats_of (entries cookies) all) (all_apart (entries cookies) (true_by _ (entries_sorted cookies)) all) in
      omega (arith, len-entries cookies)

  pub most_comparisons-cookies : most_comparisons (len cookies) ≤ most_comparisons (len tasks)
  most_comparisons-cookies = most_comparisons-le (len cookies) (len tasks) len-le

  -- ---- a task that comes

  module _ (seat : Seat) (pid : ℕ) (free : get tasks seat ≡ None) where
    not_there : (spot : Spot) → IsTrue (contains_key cookies spot) → spot.1 ≢ seat
    not_there spot there same =
        let bad : true ≡ false = sym (tied.seated spot there) ∙ ap (λ s. is_some (get tasks s)) same ∙ ap is_some free in
        absurd cc

    pub free_spot : (cookie : ℕ) → get cookies (cookie, seat) ≡ None
    free_spot cookie = by_found (get cookies (cookie, seat)) refl where
      by_found : (o : Option ℕ) → get cookies (cookie, seat) ≡ o → o ≡ None
      by_found None is = refl
      by_found (Some pid) is = absurd (not_there (cookie, seat) (ap is_some is) refl)

    pub IsTied-plain : IsTied (fin.insert tasks seat pid) cookies
    IsTied-plain = record {
      seated = λ spot there. keeps-insert seat_total seat_cmp-IsAntisymmetric tasks seat pid spot.1 (tied.seated spot there);
      cookie = tied.cookie;
      one = tied.one;
    }

    pub IsTied-cookie : (cookie : ℕ) → cookie ≢ 0 → IsTied (fin.insert tasks seat pid) (fin.insert cookies (cookie, seat) pid)
    IsTied-cookie cookie some = record {
      seated = λ spot there. elim (had spot there) [
        | inl new ↦ subst (λ s. IsTrue (contains_key (fin.insert tasks seat pid) s)) (ap (λ (s : Spot). s.1) (sym new)) (has-insert seat_total seat_cmp-IsAntisymmetric tasks seat pid)
        | inr old ↦ keeps-insert seat_total seat_cmp-IsAntisymmetric tasks seat pid spot.1 (tied.seated spot old)
      ];
      cookie = λ spot there. elim (had spot there) [
        | inl new ↦ λ none. some (ap (λ (s : Spot). s.0) (sym new) ∙ none)
        | inr old ↦ tied.cookie spot old
      ];
      one = λ spot other there others same. elim (had spot there) [
        | inl new ↦ elim (had other others) [
          | inl also ↦ ap (λ (s : Spot). s.0) new ∙ ap (λ (s : Spot). s.0) (sym also)
          | inr old ↦ absurd (not_there other old (sym same ∙ ap (λ (s : Spot). s.1) new))
        ]
        | inr old ↦ elim (had other others) [
          | inl also ↦ absurd (not_there spot old (same ∙ ap (λ (s : Spot). s.1) also))
          | inr too ↦ tied.one spot other old too same
        ]
      ];
    } where
      had : (spot : Spot) → IsTrue (contains_key (fin.insert cookies (cookie, seat) pid) spot) → (spot ≡ (cookie, seat)) ⊎ IsTrue (contains_key cookies spot)
      had spot there = had-insert spot_total spot_cmp-IsAntisymmetric cookies (cookie, seat) pid spot there

  -- ---- a task that goes

  module _ (seat : Seat) (cookie : ℕ) (own : (other : ℕ) → IsTrue (contains_key cookies (other, seat)) → other ≡ cookie) where
    pub IsTied-remove_plain : cookie ≡ 0 → IsTied (fin.remove tasks seat) cookies
    IsTied-remove_plain none = record {
      seated = λ spot there. keeps-remove seat_total seat_cmp-IsAntisymmetric tasks seat spot.1
          (λ same. tied.cookie spot there (own spot.0 (subst (λ s. IsTrue (contains_key cookies (spot.0, s))) same there) ∙ none)) (tied.seated spot there);
      cookie = tied.cookie;
      one = tied.one;
    }

    pub IsTied-remove_cookie : IsTied (fin.remove tasks seat) (fin.remove cookies (cookie, seat))
    IsTied-remove_cookie = record {
      seated = λ spot there. keeps-remove seat_total seat_cmp-IsAntisymmetric tasks seat spot.1
          (λ same.
          let mine = own spot.0 (subst (λ s. IsTrue (contains_key cookies (spot.0, s))) same (had spot there)) in
          let is : spot ≡ (cookie, seat) = λ i. (mine i, same i) in
          lost-remove spot_total spot_cmp-IsAntisymmetric cookies (cookie, seat) (subst (λ s. IsTrue (contains_key (fin.remove cookies (cookie, seat)) s)) is there))
          (tied.seated spot (had spot there));
      cookie = λ spot there. tied.cookie spot (had spot there);
      one = λ spot other there others same. tied.one spot other (had spot there) (had other others) same;
    } where
      had : (spot : Spot) → IsTrue (contains_key (fin.remove cookies (cookie, seat)) spot) → IsTrue (contains_key cookies spot)
      had spot there = had-remove spot_total spot_cmp-IsAntisymmetric cookies (cookie, seat) spot there

-- ---- a task that stays, and gets another cookie

module _ (tasks : Seats) (cookies : Spots) (seat : Seat) where
  -- the tasks with cookies but for this one are tied to the tasks with it as they are to the others
  pub IsTied-without : IsTied (fin.remove tasks seat) cookies → IsTied tasks cookies
  IsTied-without tied = record {
    seated = λ spot there. had-remove seat_total seat_cmp-IsAntisymmetric tasks seat spot.1 (tied.seated spot there);
    cookie = tied.cookie;
    one = tied.one;
  }

  module _ (tied : IsTied tasks cookies) (free : (cookie : ℕ) → get cookies (cookie, seat) ≡ None) where
    -- where no task with a cookie is at the seat, they are tied to the others
    pub tied_others : IsTied (fin.remove tasks seat) cookies
    tied_others = IsTied-remove_plain tasks cookies tied seat 0
        (λ other there. let bad : true ≡ false = sym there ∙ ap is_some (free other) in absurd cc) refl

    module _ (there : IsTrue (contains_key tasks seat)) where
      -- so they are fewer
      pub len-lt : len cookies + 1 ≤ len tasks
      len-lt =
          let few = len-le (fin.remove tasks seat) cookies tied_others in
          let fewer = ap (λ b. len (fin.remove tasks seat) + cond b 1 0) (sym there) ∙ shorter-remove seat_total seat_cmp-IsAntisymmetric tasks seat in
          omega arith

      -- and the task at the seat may enter
      pub IsTied-including : (pid cookie : ℕ) → cookie ≢ 0 → IsTied tasks (fin.insert cookies (cookie, seat) pid)
      IsTied-including pid cookie some =
          let gone = gone-remove seat_total seat_cmp-IsAntisymmetric tasks seat in
          let now = IsTied-cookie (fin.remove tasks seat) cookies tied_others seat pid gone cookie some in record {
            seated = λ spot at. elim (had-insert seat_total seat_cmp-IsAntisymmetric (fin.remove tasks seat) seat pid spot.1 (now.seated spot at)) [
              | inl same ↦ subst (λ s. IsTrue (contains_key tasks s)) (sym same) there
              | inr other ↦ had-remove seat_total seat_cmp-IsAntisymmetric tasks seat spot.1 other
            ];
            cookie = now.cookie;
            one = now.one;
          }

pub IsTied-empty : (tasks : Seats) (cookies : Spots) → cookies ≡ empty → IsTied tasks cookies
IsTied-empty tasks cookies is = record {
  seated = λ spot there. absurd (nothing spot there);
  cookie = λ spot there. absurd (nothing spot there);
  one = λ spot other there others same. absurd (nothing spot there);
} where
  nothing : (spot : Spot) → IsTrue (contains_key cookies spot) → ⊥
  nothing spot there =
      let bad : true ≡ false = sym there ∙ ap (λ (m : Spots). is_some (get m spot)) is ∙ ap is_some (get-empty spot_cmp spot) in
      absurd cc

-- ---- the cookie order without a task, and with it

pub without-some : (task : Queued) (cookies : Spots) → task.cookie ≢ 0 → without task cookies ≡ fin.remove cookies (spot_of task)
without-some task cookies some = cond-false (eqb task.cookie 0) _ _ (ne_eqb task.cookie 0 some)

pub without-none : (task : Queued) (cookies : Spots) → task.cookie ≡ 0 → without task cookies ≡ cookies
without-none task cookies none = cond-true (eqb task.cookie 0) _ _ (eq-eqb task.cookie 0 none)

pub including-some : (task : Queued) (cookies : Spots) → task.cookie ≢ 0 → including task cookies ≡ fin.insert cookies (spot_of task) task.pid
including-some task cookies some = cond-false (eqb task.cookie 0) _ _ (ne_eqb task.cookie 0 some)

pub including-none : (task : Queued) (cookies : Spots) → task.cookie ≡ 0 → including task cookies ≡ cookies
including-none task cookies none = cond-true (eqb task.cookie 0) _ _ (eq-eqb task.cookie 0 none)
