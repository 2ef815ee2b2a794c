-- How many cookies are live: as many as are counted, and as many as the tasks have, where the counts agree with these.
use Rattle.std.proofs.Common.{◌≡◌, ℕ, ◌+◌, Bool, true, false, not, cond, eqb, ltb, List, [], ◌∷◌, map, length, refl, sym, ap, ◌∙◌, arith}
use Rattle.std.specs.Prelude.{◌&&◌, ◌||◌, ◌==◌}
use Rattle.std.specs.Cmp.{unsigned_Decides}
use Rattle.std.specs.List.{All, IsDistinct, filter, list_any, sum_by}
use Rattle.std.specs.Set.{unique_keys, is_member}
use Rattle.std.proofs.Math.ListN.{get_or-map}
use Rattle.std.proofs.lemmas.Bool.{eqb-true, cond-true, cond-false}
use Rattle.std.proofs.lemmas.Bool.Decides.{nat_tests}
use Rattle.std.proofs.lemmas.Cmp.{nat_eq_equiv}
use Rattle.std.proofs.lemmas.List.{length-map}
use Rattle.std.proofs.lemmas.List.Elements.{All-head, All-tail, filter_passes}
use Rattle.std.proofs.lemmas.List.Sums.{sum_by-cons}
use Rattle.std.proofs.lemmas.Map.Made.{IsDistinct-from_AllPairs, is_member-filter, length-from_keys}
use Rattle.cs_types.specs.declared.task.Task.{Task}
use Rattle.cs_types.specs.Prctl.{distinct, live_cookies}
use Rattle.cookie_refs.specs.declared.refs.CookieCount.{CookieCount}
use Rattle.cookie_refs.specs.declared.refs.CookieRefs.TheInside.{Inside}
use Rattle.cookie_refs.specs.Refs.{count_of, live_count, references, Agree}
use Rattle.cookie_refs.specs.Inside.{IsRising, IsSound, count_in, live_of, refs_of}
use Rattle.cookie_refs.proofs.Counts.{count-entries, count_in-live, len-entries, rising-live}

-- ---- the cookies that tasks have, each once

abbrev is_cookie : ℕ → Bool
is_cookie cookie = not (cookie == 0)

-- whether a number comes again
is_member-flipped : (x : ℕ) (xs : List ℕ) → list_any (λ other. other == x) xs ≡ is_member eqb xs x
is_member-flipped x [] = refl
is_member-flipped x (y ∷ ys) = rw (nat_eq_equiv.symm y x, is_member-flipped x ys) refl

-- one more number, which is a cookie or none, and comes again or not
unique_more : (keeps again : Bool) (x : ℕ) (numbers kept : List ℕ) → is_cookie x ≡ keeps → is_member eqb kept x ≡ (again && keeps) →
    filter is_cookie numbers ≡ unique_keys eqb kept →
    filter is_cookie (cond again numbers (x ∷ numbers)) ≡ unique_keys eqb (cond keeps (x ∷ kept) kept)
unique_more true true x numbers kept is member so_far = so_far ∙ sym (cond-true _ _ _ member)
unique_more true false x numbers kept is member so_far =
    cond-true _ _ _ is ∙ ap (λ rest. x ∷ rest) so_far ∙ sym (cond-false _ _ _ member)
unique_more false true x numbers kept is member so_far = so_far
unique_more false false x numbers kept is member so_far = cond-false _ _ _ is ∙ so_far

-- It is the same to leave out what comes again, and then 0, as the other way round.
filter-distinct : (numbers : List ℕ) → filter is_cookie (distinct numbers) ≡ unique_keys eqb (filter is_cookie numbers)
filter-distinct [] = refl
filter-distinct (x ∷ xs) =
    let member = is_member-filter nat_eq_equiv is_cookie x (λ y same. ap is_cookie (eqb-true x y same)) xs in
    unique_more (is_cookie x) (list_any (λ other. other == x) xs) x (distinct xs) (filter is_cookie xs) refl
    (member ∙ ap (λ b. b && is_cookie x) (sym (is_member-flipped x xs))) (filter-distinct xs)

-- ---- the cookies that have a count

-- a sum is above 0 where a term is
sum_by_above_0 : {X : Type 0} (f : X → ℕ) (p : X → Bool) (xs : List X) → All (λ x. ltb 0 (f x) ≡ p x) xs → ltb 0 (sum_by f xs) ≡ list_any p xs
sum_by_above_0 f p [] each = refl
sum_by_above_0 f p (x ∷ xs) each =
    let first = All-head (λ x. ltb 0 (f x) ≡ p x) x xs each in
    let rest = sum_by_above_0 f p xs (All-tail (λ x. ltb 0 (f x) ≡ p x) x xs each) in
    rw (sum_by-cons f x xs, ← first, ← rest) (either (f x) (sum_by f xs)) where
      either : (a b : ℕ) → ltb 0 (a + b) ≡ (ltb 0 a || ltb 0 b)
      either a b = grind (arith, nat_tests)

-- a test of a function's values is one of its arguments
list_any-map : {X Y : Type 0} (p : Y → Bool) (f : X → Y) (xs : List X) → list_any p (map f xs) ≡ list_any (λ x. p (f x)) xs
list_any-map p f [] = refl
list_any-map p f (x ∷ xs) = ap (λ b. p (f x) || b) (list_any-map p f xs)

-- a test that does not hang on the element
list_any-and : {X : Type 0} (p : X → Bool) (b : Bool) (xs : List X) → list_any (λ x. p x && b) xs ≡ (list_any p xs && b)
list_any-and p b [] = refl
list_any-and p b (x ∷ xs) = rw (list_any-and p b xs) (both (p x) (list_any p xs) b) where
  both : (s t b : Bool) → ((s && b) || (t && b)) ≡ ((s || t) && b)
  both true true true = refl
  both true true false = refl
  both true false true = refl
  both true false false = refl
  both false true true = refl
  both false true false = refl
  both false false true = refl
  both false false false = refl

-- the serials of cookies
abbrev serials : List CookieCount → List ℕ
serials cookies = map (λ one. one.cookie) cookies

-- a cookie has a count where it is live
count_in_above_0 : (cookies : List CookieCount) (cookie : ℕ) → ltb 0 (count_in cookies cookie) ≡ is_member eqb (serials (live_of cookies)) cookie
count_in_above_0 cookies cookie =
    ap (ltb 0) (sym (count_in-live cookies cookie))
    ∙ sum_by_above_0 _ (λ one. eqb cookie one.cookie) (live_of cookies)
    (λ k d lt. let above = filter_passes (λ one. not (one.count == 0)) cookies k d lt in grind (arith, nat_tests))
    ∙ sym (list_any-map (eqb cookie) (λ one. one.cookie) (live_of cookies))

-- tasks have a reference to a cookie where one has it
references_above_0 : (tasks : List Task) (cookie : ℕ) →
    ltb 0 (sum_by (λ task. references task.cookie cookie) tasks) ≡ is_member eqb (filter is_cookie (map (λ task. task.cookie) tasks)) cookie
references_above_0 tasks cookie =
    sum_by_above_0 _ (λ task. eqb cookie task.cookie && is_cookie cookie) tasks (λ k d lt. grind (arith, nat_tests))
    ∙ list_any-and (λ task. eqb cookie task.cookie) (is_cookie cookie) tasks
    ∙ ap (λ b. b && is_cookie cookie) (sym (list_any-map (eqb cookie) (λ (task : Task). task.cookie) tasks))
    ∙ sym (is_member-filter nat_eq_equiv is_cookie cookie (λ y same. ap is_cookie (eqb-true cookie y same)) (map (λ task. task.cookie) tasks))

-- rising serials are distinct
serials_are_distinct : (cookies : List CookieCount) → IsRising cookies → IsDistinct eqb (serials cookies)
serials_are_distinct cookies rising =
    IsDistinct-from_AllPairs unsigned_Decides (serials cookies) (λ i j d lt in_range same.
    let one : CookieCount = record { cookie = d; count = 0 } in
    let cookie = λ (one : CookieCount). one.cookie in
    let up = rising i j one lt (rw (← length-map cookies cookie) in_range) in
    omega (arith, up, get_or-map cookie cookies i one, get_or-map cookie cookies j one, same))

-- what is counted are the live ones
pub live_count-counted : (refs : Inside) → IsSound refs → live_count (refs_of refs) ≡ refs.live
live_count-counted refs sound = len-entries refs.cookies.items sound.rising ∙ sym sound.counted

-- where the counts agree with the tasks, as many cookies are live as the tasks have
pub live_count-agreed : (refs : Inside) → IsSound refs → (tasks : List Task) → Agree (refs_of refs) tasks →
    live_count (refs_of refs) ≡ length (live_cookies tasks)
live_count-agreed refs sound tasks agree =
    let kept = refs.cookies.items in
    let live = live_of kept in
    let cookies = map (λ (task : Task). task.cookie) tasks in
    let member : (cookie : ℕ) → is_member eqb (serials live) cookie ≡ is_member eqb (filter is_cookie cookies) cookie = λ cookie.
    sym (count_in_above_0 kept cookie) ∙ ap (ltb 0) (sym (count-entries kept sound.rising cookie) ∙ agree_at cookie)
    ∙ references_above_0 tasks cookie in
    len-entries kept sound.rising
    ∙ sym (length-map live (λ one. one.cookie))
    ∙ length-from_keys nat_eq_equiv (serials live) (filter is_cookie cookies) (serials_are_distinct live (rising-live kept sound.rising)) member
    ∙ ap length (sym (filter-distinct cookies)) where
      agree_at : (cookie : ℕ) → count_of (refs_of refs) cookie ≡ sum_by (λ task. references task.cookie cookie) tasks
      agree_at cookie = let said = agree cookie in grind (arith, nat_tests)
