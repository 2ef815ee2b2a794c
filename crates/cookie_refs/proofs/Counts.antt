-- The count of a cookie among those that are kept: at its index, where it has none, and in the map that those of them
-- with a reference are.
use Rattle.std.proofs.Common.{◌≡◌, ◌≢◌, ℕ, Bool, not, suc, ◌+◌, ◌<◌, ◌≤◌, true, false, cond, List, [], ◌∷◌, ◌++◌, inl, inr, length, get_or, set, Result, Ok, Err, IfSome, IfNone, refl, sym, ap, ◌∙◌, Some, arith}
use Rattle.std.specs.Prelude.{◌==◌, unwrap_or}
use Rattle.std.specs.List.{All, AllPairs, filter, remove, sum_by}
use Rattle.std.specs.List.Sorted.{IsSearchInRange, IsBinarySearchResult, IsNonDecreasingBy}
use Rattle.std.specs.Result.{result_ok}
use Rattle.std.specs.Ordering.{nat_cmp, is_lt, is_eq, ordering_index}
use Rattle.std.specs.FinMap.{FinMap, find, from_sorted, get, get-from_sorted, is_sorted, len}
use Rattle.std.specs.FinMap.Entries.{below_all}
use Rattle.std.proofs.lemmas.Bool.{and_from, cases_Bool, cases_eq, cases_lt, cond-true, cond-false, cond_both, not-true}
use Rattle.std.proofs.lemmas.Bool.Decides.{nat_tests}
use Rattle.std.proofs.lemmas.Cmp.{ranked}
use Rattle.std.proofs.lemmas.List.{length-map, length-set, length_push}
use Rattle.std.proofs.lemmas.List.Edits.{length-remove, get_or-remove_below, get_or-remove_above}
use Rattle.std.proofs.lemmas.List.Elements.{All-filter, filter-append, filter_passes}
use Rattle.std.proofs.lemmas.List.Filters.{sum_by-filter_both}
use Rattle.std.proofs.lemmas.List.Kept.{AllPairs-filter}
use Rattle.std.proofs.lemmas.List.Sums.{length-filter, sum_by-cons, sum_by-le, sum_by-remove, sum_by-set, sum_by_push}
use Rattle.cs_types.proofs.Lists.{get_or-set_alike}
use Rattle.cs_types.proofs.Queues.{said, len-from_sorted}
use Rattle.cookie_refs.specs.declared.refs.CookieCount.{CookieCount}
use Rattle.cookie_refs.specs.Inside.{IsRising, AreCookies, IsAt, count_in, entries_of, live_of}

-- what holds of all pairs holds of those of the rest, and of the first with each of the rest
pub AllPairs-tail : {X : Type 0} (R : X → X → Type 0) (x : X) (xs : List X) → AllPairs R (x ∷ xs) → AllPairs R xs
AllPairs-tail R x xs pairs i j d lt in_range = pairs (suc i) (suc j) d (omega arith) (omega arith)

pub AllPairs-head : {X : Type 0} (R : X → X → Type 0) (x : X) (xs : List X) → AllPairs R (x ∷ xs) → All (R x) xs
AllPairs-head R x xs pairs k d lt = pairs 0 (suc k) d (omega arith) (omega arith)

-- a sum of nothings is nothing
pub sum_by_none : {X : Type 0} (f : X → ℕ) (xs : List X) → All (λ x. f x ≡ 0) xs → sum_by f xs ≡ 0
sum_by_none f xs none = omega (arith, sum_by-le f 0 xs (λ k d lt. omega (arith, none k d lt)))

-- no entry has the cookie, so that its count is 0
count_absent : (cookies : List CookieCount) (cookie : ℕ) → All (λ one. one.cookie ≢ cookie) cookies → count_in cookies cookie ≡ 0
count_absent cookies cookie absent =
    sum_by_none _ cookies (λ k d lt. let other = absent k d lt in grind (arith, nat_tests))

-- 0 is in no entry
pub count_of_none : (cookies : List CookieCount) → AreCookies cookies → count_in cookies 0 ≡ 0
count_of_none cookies above_0 = count_absent cookies 0 (λ k d lt same. omega (arith, above_0 k d lt, same))

-- the next serial is in no entry
pub count_in-next : (cookies : List CookieCount) (next : ℕ) → All (λ one. one.cookie < next) cookies → count_in cookies next ≡ 0
count_in-next cookies next below = count_absent cookies next (λ k d lt same. omega (arith, below k d lt))

-- one more entry, of a cookie that had none
pub count_in-push : (cookies : List CookieCount) (serial cookie : ℕ) → count_in cookies serial ≡ 0 →
    count_in (cookies ++ record { cookie = serial; count = 1 } ∷ []) cookie ≡ cond (cookie == serial) 1 (count_in cookies cookie)
count_in-push cookies serial cookie unused =
    let more = sum_by_push (λ (one : CookieCount). cond (one.cookie == cookie) one.count 0) cookies (record { cookie = serial; count = 1 }) in
    elim (cases_eq cookie serial) [
      | inl same ↦ grind (arith, nat_tests)
      | inr differs ↦ grind (arith, nat_tests)
    ]

module _ (cookies : List CookieCount) (rising : IsRising cookies) (cookie : ℕ) where
  -- no other entry has the cookie of one
  count_elsewhere : (index : ℕ) → index < length cookies → ((d : CookieCount) → (get_or cookies index d).cookie ≡ cookie) →
      count_in (remove cookies index) cookie ≡ 0
  count_elsewhere index lt there =
      let others = remove cookies index in
      let other : (k : ℕ) (d : CookieCount) → k < length others → (get_or others k d).cookie ≢ cookie = λ k d in_range same.
      let below : k < index → get_or others k d ≡ get_or cookies k d = λ lt'. get_or-remove_below cookies index d k lt' lt in
      let above : index ≤ k → get_or others k d ≡ get_or cookies (k + 1) d = λ le. get_or-remove_above cookies index d k le lt in
      grind (arith, below, above, length-remove cookies index lt, rising k index d, rising index (k + 1) d, there d) in
      count_absent others cookie other

  -- so the count is that of the entry
  count_at : (index : ℕ) (d : CookieCount) → index < length cookies → ((d : CookieCount) → (get_or cookies index d).cookie ≡ cookie) →
      (get_or cookies index d).count ≡ count_in cookies cookie
  count_at index d lt there =
      let parts = sum_by-remove (λ (one : CookieCount). cond (one.cookie == cookie) one.count 0) cookies index d lt in
      grind (arith, nat_tests, count_elsewhere index lt there, there d)

  -- an entry with the cookie is at its index
  pub at_index : (index : ℕ) → index < length cookies → ((d : CookieCount) → (get_or cookies index d).cookie ≡ cookie) → IsAt cookies cookie index
  at_index index in_range there = record {
    in_range = in_range;
    cookie_there = there;
    count_there = λ d. count_at index d in_range there;
  }

  -- the comparisons with a serial rise along the list, as a binary search asks
  comparisons_rise : IsNonDecreasingBy (λ one. ordering_index (nat_cmp one.cookie cookie)) cookies
  comparisons_rise i j d le in_range = grind (arith, nat_tests, rising i j d)

  -- a binary search by serial ends at the index of the cookie, or finds that it has none
  pub searched : (end : Result ℕ ℕ) → IsSearchInRange end (length cookies) →
      IsBinarySearchResult (λ one. nat_cmp one.cookie cookie) cookies end →
      record { found : IfSome (result_ok end) (IsAt cookies cookie); none : IfNone (result_ok end) (count_in cookies cookie ≡ 0) }
  searched (Ok index) in_range equal =
      let there : (d : CookieCount) → (get_or cookies index d).cookie ≡ cookie = λ d. ranked _ cookie _ (sym (equal d)) in
      record { found = at_index index in_range there; none = tt }
  searched (Err index) in_range parted = record {
    found = tt;
    none = count_absent cookies cookie (λ k d lt same.
        let split = parted comparisons_rise in
        elim (cases_lt k index) [
          | inl before ↦ omega (arith, ranked _ cookie _ (sym (split.0 k d (omega arith) before)), same)
          | inr after ↦ omega (arith, ranked _ cookie _ (sym (split.1 k d after lt)), same)
        ]);
  }

-- ---- the live ones

abbrev pub is_live : CookieCount → Bool
is_live one = not (one.count == 0)

-- what adds nothing can be left out of a sum
sum_by-filter : {X : Type 0} (f : X → ℕ) (p : X → Bool) → ((x : X) → p x ≡ false → f x ≡ 0) → (xs : List X) → sum_by f (filter p xs) ≡ sum_by f xs
sum_by-filter {X} f p nothing xs =
    let fails : X → Bool = λ x. not (p x) in
    let none = sum_by_none f (filter fails xs) (λ k d lt. nothing _ (not-true _ (filter_passes fails xs k d lt))) in
    omega (arith, none, sum_by-filter_both p fails (λ x. refl) f xs)

-- the others have no count
pub count_in-live : (cookies : List CookieCount) (cookie : ℕ) → count_in (live_of cookies) cookie ≡ count_in cookies cookie
count_in-live cookies cookie = sum_by-filter _ is_live (λ one ended. grind (arith, nat_tests)) cookies

-- a filter leaves what it left before
filter_again : {X : Type 0} (p : X → Bool) (xs : List X) → filter p (filter p xs) ≡ filter p xs
filter_again p [] = refl
filter_again p (x ∷ xs) =
    elim (cases_Bool (p x)) [
      | inl passes ↦ rw (cond-true (p x) (x ∷ filter p xs) (filter p xs) passes, cond-true (p x) (x ∷ filter p (filter p xs)) (filter p (filter p xs)) passes, filter_again p xs) refl
      | inr fails ↦ rw (cond-false (p x) (x ∷ filter p xs) (filter p xs) fails) (filter_again p xs)
    ]

-- one more is live
pub length-live_push : (cookies : List CookieCount) (cookie : ℕ) →
    length (live_of (cookies ++ record { cookie = cookie; count = 1 } ∷ [])) ≡ length (live_of cookies) + 1
length-live_push cookies cookie =
    ap length (filter-append is_live cookies (record { cookie = cookie; count = 1 } ∷ [])) ∙ length_push (live_of cookies) (record { cookie = cookie; count = 1 })

-- ---- the map that they are

abbrev Before : CookieCount → CookieCount → Type 0
Before one other = one.cookie < other.cookie

below_entries : (cookie : ℕ) (cookies : List CookieCount) → All (λ one. cookie < one.cookie) cookies → below_all nat_cmp cookie (entries_of cookies) ≡ true
below_entries cookie [] above = refl
below_entries cookie (one ∷ cookies) above =
    let first : is_lt (nat_cmp cookie one.cookie) ≡ true = (let lt = above 0 one (omega arith) in grind (arith, nat_tests)) in
    and_from _ _ first (below_entries cookie cookies (λ k d lt. above (suc k) d (omega arith)))

is_sorted-entries : (cookies : List CookieCount) → IsRising cookies → is_sorted nat_cmp (entries_of cookies) ≡ true
is_sorted-entries [] rising = refl
is_sorted-entries (one ∷ cookies) rising =
    and_from _ _ (below_entries one.cookie cookies (AllPairs-head Before one cookies rising)) (is_sorted-entries cookies (AllPairs-tail Before one cookies rising))

found_count : (cookies : List CookieCount) → IsRising cookies → (cookie : ℕ) → unwrap_or (find nat_cmp cookie (entries_of cookies)) 0 ≡ count_in cookies cookie
found_count [] rising cookie = refl
found_count (one ∷ cookies) rising cookie =
    let own = λ (one : CookieCount). cond (one.cookie == cookie) one.count 0 in
    let parts = sum_by-cons own one cookies in
    elim (cases_eq cookie one.cookie) [
      | inl same ↦
          let here : is_eq (nat_cmp cookie one.cookie) ≡ true = grind (arith, nat_tests) in
          let others = count_absent cookies cookie (λ k d lt. let up = AllPairs-head Before one cookies rising k d lt in λ equal. omega (arith, up, same, equal)) in
          ap (λ found. unwrap_or found 0) (cond-true _ (Some one.count) _ here) ∙ grind (arith, nat_tests)
      | inr differs ↦
          let past : is_eq (nat_cmp cookie one.cookie) ≡ false = grind (arith, nat_tests) in
          ap (λ found. unwrap_or found 0) (cond-false _ (Some one.count) _ past)
          ∙ found_count cookies (AllPairs-tail Before one cookies rising) cookie ∙ grind (arith, nat_tests)
    ]

-- the counts of the live ones
abbrev pub counts_of : List CookieCount → FinMap nat_cmp ℕ
counts_of cookies = from_sorted (entries_of (live_of cookies))

module _ (cookies : List CookieCount) (rising : IsRising cookies) where
  pub rising-live : IsRising (live_of cookies)
  rising-live = AllPairs-filter Before is_live cookies rising

  -- a cookie's count in it
  pub count-entries : (cookie : ℕ) → unwrap_or (get (counts_of cookies) cookie) 0 ≡ count_in cookies cookie
  count-entries cookie =
      let sorted = is_sorted-entries (live_of cookies) rising-live in
      ap (λ found. unwrap_or found 0) (get-from_sorted nat_cmp (entries_of (live_of cookies)) cookie (said sorted))
      ∙ found_count (live_of cookies) rising-live cookie
      ∙ count_in-live cookies cookie

  -- and how many it has
  pub len-entries : len (counts_of cookies) ≡ length (live_of cookies)
  len-entries =
      len-from_sorted nat_cmp (entries_of (live_of cookies)) (is_sorted-entries (live_of cookies) rising-live)
      ∙ length-map (live_of cookies) (λ one. (one.cookie, one.count))

-- ---- an entry that changes

module _ (cookies : List CookieCount) (rising : IsRising cookies) (cookie index : ℕ) (at : IsAt cookies cookie index)
    (one : CookieCount) (same : one.cookie ≡ cookie) where
  -- the serials still rise where a count changes
  pub rising-set : IsRising (set cookies index one)
  rising-set i j d lt in_range =
      let key = λ (one : CookieCount). one.cookie in
      let is = same ∙ sym (at.cookie_there d) in
      omega (arith, get_or-set_alike key cookies index one i d is, get_or-set_alike key cookies index one j d is, rising i j d lt (rw (length-set cookies index one) at in_range))

  -- what becomes of the counts
  pub count-set : (other : ℕ) → unwrap_or (get (counts_of (set cookies index one)) other) 0 + cond (cookie == other) (count_in cookies cookie) 0
      ≡ unwrap_or (get (counts_of cookies) other) 0 + cond (cookie == other) one.count 0
  count-set other =
      let parts = sum_by-set (λ (one : CookieCount). cond (one.cookie == other) one.count 0) cookies index one one at.in_range in
      grind (arith, nat_tests, at.cookie_there one, at.count_there one, count-entries (set cookies index one) rising-set other, count-entries cookies rising other)

  -- and how many are live
  pub length-live_set : length (live_of (set cookies index one)) + cond (count_in cookies cookie == 0) 0 1
      ≡ length (live_of cookies) + cond (one.count == 0) 0 1
  length-live_set =
      let parts = sum_by-set (λ one. cond (is_live one) 1 0) cookies index one one at.in_range in
      grind (arith, nat_tests, at.count_there one, length-filter is_live cookies, length-filter is_live (set cookies index one))

-- ---- the live ones alone, where there is no place for one more

module _ (full : Bool) (cookies : List CookieCount) where
  abbrev pub kept : List CookieCount
  kept = cond full (live_of cookies) cookies

  pub rising-kept : IsRising cookies → IsRising kept
  rising-kept rising = cond_both full (live_of cookies) cookies IsRising (λ none. rising-live cookies rising) (λ some. rising)

  pub All-kept : (P : CookieCount → Type 0) → All P cookies → All P kept
  All-kept P all = cond_both full (live_of cookies) cookies (All P) (λ none. All-filter is_live P cookies all) (λ some. all)

  -- the same are live
  pub live_of-kept : live_of kept ≡ live_of cookies
  live_of-kept = cond_both full (live_of cookies) cookies (λ left. live_of left ≡ live_of cookies) (λ none. filter_again is_live cookies) (λ some. refl)

  -- so no count changes
  pub count_in-kept : (cookie : ℕ) → count_in kept cookie ≡ count_in cookies cookie
  count_in-kept cookie =
      sym (count_in-live kept cookie) ∙ ap (λ live. count_in live cookie) live_of-kept ∙ count_in-live cookies cookie
