-- Counted: what is charged to the cookies, added task by task, and that it is all that the tasks are charged.
use Rattle.std.proofs.Common.{◌≡◌, ◌≢◌, ℕ, zero, suc, ◌+◌, ◌-◌, ◌*◌, ◌<◌, ◌≤◌, Bool, true, false, cond, List, [], ◌∷◌, ◌++◌, map, take, length, get_or, set, refl, sym, ap, ◌∙◌, subst, zero-add, arith}
use Rattle.std.specs.Prelude.{All, filter, sum_by, ◌==◌}
use Rattle.std.specs.List.{AllByRecursion, range_with_len}
use Rattle.std.proofs.lemmas.Bool.{both_ways, eq-eqb, eqb-true, ne_eqb}
use Rattle.std.proofs.lemmas.List.{take_more, get_or-set_same, get_or-set_other}
use Rattle.std.proofs.lemmas.List.Elements.{filter-append, All-map, recursion_from_All}
use Rattle.std.proofs.lemmas.List.FromFn.{length-map-range_with_len, sum_by-map-range_with_len_more}
use Rattle.std.proofs.lemmas.List.Sums.{sum_by-append, sum_by-cons}
use Rattle.cs_types.specs.Scenario.{IsPlayable}
use Rattle.cs_types.specs.Room.{Opening}
use Rattle.cs_types.specs.History.{History, fold_of}
use Rattle.run_times.specs.Times.{Span, spans_of}
use Rattle.task_times.specs.declared.times.TaskTimes.{TaskTimes}
use Rattle.task_times.specs.declared.times.CookieTimes.{CookieTimes}
use Rattle.task_times.specs.Living.{charged_in, cookie_at}
use Rattle.task_times.specs.TaskSums.{TaskSums, task_times, cookie_times, all_charged, charged_to, pids_for, cookies_for, sums_so_far, sums_of, charged_more}
use Rattle.task_times.proofs.Leaving.{cookie_at-below}
use Rattle.task_times.proofs.Summed.{rows-push, row_at}

-- ---- one task more

-- what one task has charged to a cookie
abbrev share : TaskTimes → ℕ → ℕ
share times cookie = cond (times.cookie == cookie) times.charged 0

charged_to-one : (times : TaskTimes) (cookie : ℕ) → charged_to (times ∷ []) cookie ≡ share times cookie
charged_to-one times cookie = go (times.cookie == cookie) where
  go : (test : Bool) → all_charged (cond test (times ∷ []) []) ≡ cond test times.charged 0
  go true = zero-add times.charged
  go false = refl

charged_to-append : (tasks more : List TaskTimes) (cookie : ℕ) → charged_to (tasks ++ more) cookie ≡ charged_to tasks cookie + charged_to more cookie
charged_to-append tasks more cookie =
    ap all_charged (filter-append (λ (times : TaskTimes). times.cookie == cookie) tasks more)
    ∙ sum_by-append (λ (times : TaskTimes). times.charged) (filter (λ (times : TaskTimes). times.cookie == cookie) tasks) (filter (λ (times : TaskTimes). times.cookie == cookie) more)

charged_to-more : (tasks : List TaskTimes) (i : ℕ) (d : TaskTimes) (cookie : ℕ) → i < length tasks →
    charged_to (take (i + 1) tasks) cookie ≡ charged_to (take i tasks) cookie + share (get_or tasks i d) cookie
charged_to-more tasks i d cookie few =
    ap (λ (ts : List TaskTimes). charged_to ts cookie) (take_more tasks i d few)
    ∙ charged_to-append (take i tasks) (get_or tasks i d ∷ []) cookie
    ∙ ap (λ (n : ℕ). charged_to (take i tasks) cookie + n) (charged_to-one (get_or tasks i d) cookie)

-- the row of a cookie with so much more charged to it twice
charged_more-twice : (a b : ℕ) (row : CookieTimes) → charged_more b (charged_more a row) ≡ charged_more (a + b) row
charged_more-twice a b row = let same : row.charged + a + b ≡ row.charged + (a + b) = omega arith in λ i. record row { charged = same i }

pub charged_more-none : (row : CookieTimes) → row ≡ charged_more 0 row
charged_more-none row = let same : row.charged ≡ row.charged + 0 = omega arith in λ i. record row { charged = same i }

-- the row of its cookie goes on by what it is charged, and no other
share_step : (rows : List CookieTimes) (times : TaskTimes) (k : ℕ) (none : CookieTimes) → times.cookie < length rows →
    get_or (set rows times.cookie (charged_more times.charged (get_or rows times.cookie none))) k none ≡ charged_more (share times k) (get_or rows k none)
share_step rows times k none few = go (times.cookie == k) refl where
  own : CookieTimes
  own = charged_more times.charged (get_or rows times.cookie none)

  go : (test : Bool) → (times.cookie == k) ≡ test → get_or (set rows times.cookie own) k none ≡ charged_more (cond test times.charged 0) (get_or rows k none)
  go true is =
      let e : times.cookie ≡ k = eqb-true times.cookie k is in
      (λ i. get_or (set rows times.cookie own) (sym e i) none)
      ∙ get_or-set_same rows times.cookie own none few
      ∙ ap (λ (n : ℕ). charged_more times.charged (get_or rows n none)) e
  go false is =
      get_or-set_other rows times.cookie k own none (λ same. both_ways (times.cookie == k) is (eq-eqb times.cookie k (sym same)))
      ∙ charged_more-none (get_or rows k none)

-- the rows with one task more
pub cookies_more : (old rows new : List CookieTimes) (tasks : List TaskTimes) (i : ℕ) (d : TaskTimes) → i < length tasks → (get_or tasks i d).cookie < length rows →
    ((none : CookieTimes) → new ≡ set rows (get_or tasks i d).cookie (charged_more (get_or tasks i d).charged (get_or rows (get_or tasks i d).cookie none))) →
    (k : ℕ) (none : CookieTimes) → get_or rows k none ≡ charged_more (charged_to (take i tasks) k) (get_or old k none) →
    get_or new k none ≡ charged_more (charged_to (take (i + 1) tasks) k) (get_or old k none)
cookies_more old rows new tasks i d few low is k none so_far =
    let times = get_or tasks i d in
    ap (λ (xs : List CookieTimes). get_or xs k none) (is none)
    ∙ share_step rows times k none low
    ∙ ap (charged_more (share times k)) so_far
    ∙ charged_more-twice (charged_to (take i tasks) k) (share times k) (get_or old k none)
    ∙ ap (λ (n : ℕ). charged_more n (get_or old k none)) (sym (charged_to-more tasks i d k few))

-- and there is room for the tasks that are left
pub cookies_fit : (rows : List CookieTimes) (at : ℕ) (row : CookieTimes) (left most : ℕ) (d : CookieTimes) → at < length rows → row.charged ≤ (get_or rows at d).charged + 18446744073709551615 →
    ((k : ℕ) (none : CookieTimes) → k < length rows → (get_or rows k none).charged + 18446744073709551615 * (left + 1) ≤ most) →
    (k : ℕ) (none : CookieTimes) → k < length rows → (get_or (set rows at row) k none).charged + 18446744073709551615 * left ≤ most
cookies_fit rows at row left most d low less fits k none few = go (at == k) refl where
  go : (test : Bool) → (at == k) ≡ test → (get_or (set rows at row) k none).charged + 18446744073709551615 * left ≤ most
  go true is =
      let e : at ≡ k = eqb-true at k is in
      let same : (get_or (set rows at row) k none).charged ≡ row.charged =
      ap (λ (n : ℕ). (get_or (set rows at row) n none).charged) (sym e) ∙ ap (λ (r : CookieTimes). r.charged) (get_or-set_same rows at row none low) in
      omega (arith, same, less, fits at d low)
  go false is =
      let same : (get_or (set rows at row) k none).charged ≡ (get_or rows k none).charged =
      ap (λ (r : CookieTimes). r.charged) (get_or-set_other rows at k row none (λ same. both_ways (at == k) is (eq-eqb at k (sym same)))) in
      omega (arith, same, fits k none few)

-- ---- all of them

-- the sum of a number of each of the first cookies
abbrev sum_to : (ℕ → ℕ) → ℕ → ℕ
sum_to number zero = 0
sum_to number (suc n) = sum_to number n + number n

sum_to-none : (n : ℕ) → sum_to (λ k. 0) n ≡ 0
sum_to-none zero = refl
sum_to-none (suc n) = omega (arith, sum_to-none n)

sum_to-both : (a b both : ℕ → ℕ) (n : ℕ) → ((k : ℕ) → both k ≡ a k + b k) → sum_to both n ≡ sum_to a n + sum_to b n
sum_to-both a b both zero is = omega arith
sum_to-both a b both (suc n) is = omega (arith, is n, sum_to-both a b both n is)

share-is : (times : TaskTimes) (k : ℕ) (test : Bool) → (times.cookie == k) ≡ test → share times k ≡ cond test times.charged 0
share-is times k test is = ap (λ (b : Bool). cond b times.charged 0) is

-- what a task is charged is charged to one cookie
share_none : (times : TaskTimes) (n : ℕ) → n ≤ times.cookie → sum_to (share times) n ≡ 0
share_none times zero past = refl
share_none times (suc n) past =
    let other = ne_eqb times.cookie n (λ same. omega (arith, same, past)) in
    omega (arith, share_none times n (omega (arith, past)), share-is times n false other)

share_once : (times : TaskTimes) (n : ℕ) → times.cookie < n → sum_to (share times) n ≡ times.charged
share_once times zero low = absurd (omega (arith, low))
share_once times (suc n) low = go (times.cookie == n) refl (share_once times n) where
  go : (test : Bool) → (times.cookie == n) ≡ test → (times.cookie < n → sum_to (share times) n ≡ times.charged) → sum_to (share times) n + share times n ≡ times.charged
  go true is below = let e : times.cookie ≡ n = eqb-true times.cookie n is in omega (arith, share_none times n (omega (arith, e)), share-is times n true is)
  go false is below =
      let other : times.cookie ≢ n = λ same. both_ways (times.cookie == n) is (eq-eqb times.cookie n same) in
      omega (arith, below (grind (arith, other, low)), share-is times n false is)

all_shares : (tasks : List TaskTimes) (n : ℕ) → AllByRecursion (λ (times : TaskTimes). times.cookie < n) tasks → sum_to (charged_to tasks) n ≡ all_charged tasks
all_shares [] n low = sum_to-none n
all_shares (times ∷ tasks) n low =
    omega (
      arith,
      sum_to-both (share times) (charged_to tasks) (charged_to (times ∷ tasks)) n
          (λ k. charged_to-append (times ∷ []) tasks k ∙ ap (λ (m : ℕ). m + charged_to tasks k) (charged_to-one times k)),
      share_once times n low.0,
      all_shares tasks n low.1,
      sum_by-cons (λ (t : TaskTimes). t.charged) times tasks,
    )

parts_charged : (charged : ℕ → ℕ) (spans : List Span) (n : ℕ) →
    sum_by (λ (times : CookieTimes). times.charged) (map (λ k. cookie_times (charged k) spans k) (range_with_len 0 n)) ≡ sum_to charged n
parts_charged charged spans zero = refl
parts_charged charged spans (suc n) =
    let up : suc n ≡ n + 1 = omega arith in
    ap (λ (m : ℕ). sum_by (λ (times : CookieTimes). times.charged) (map (λ k. cookie_times (charged k) spans k) (range_with_len 0 m))) up
    ∙ sum_by-map-range_with_len_more (λ (times : CookieTimes). times.charged) (λ k. cookie_times (charged k) spans k) 0 n n (zero-add n)
    ∙ ap (λ (m : ℕ). m + charged n) (parts_charged charged spans n)

-- ---- of the sums at the end

-- each task counts for a cookie that has a row
pub rows_below : (entries : ℕ) (opening : Opening) (history : History) (tasks : List TaskTimes) (most : ℕ) → IsPlayable opening.scenario → length history ≤ entries →
    tasks ≡ (sums_of entries opening history).tasks → most ≡ cookies_for entries → All (λ (times : TaskTimes). times.cookie < most) tasks
rows_below entries opening history tasks most playable few are wide =
    subst (All (λ (times : TaskTimes). times.cookie < most)) (sym are)
    (All-map (λ (times : TaskTimes). times.cookie < most) (λ pid. task_times (charged_in (fold_of opening history) pid) (cookie_at opening history pid) (spans_of opening history) pid)
    (range_with_len 0 (pids_for entries)) (λ k d under. cookie_at-below opening history _ most playable (omega (arith, few, wide))))

-- What all cookies are charged adds up to what all tasks are.
pub charged_at : (entries : ℕ) (opening : Opening) (history : History) (sums : TaskSums) → IsPlayable opening.scenario → length history ≤ entries →
    sums ≡ sums_of entries opening history → sum_by (λ (times : CookieTimes). times.charged) sums.cookies ≡ all_charged sums.tasks
charged_at entries opening history sums playable few is =
    let tasks = (sums_of entries opening history).tasks in
    ap (λ (s : TaskSums). sum_by (λ (times : CookieTimes). times.charged) s.cookies) is
    ∙ parts_charged (charged_to tasks) (spans_of opening history) (cookies_for entries)
    ∙ all_shares tasks (cookies_for entries)
    (recursion_from_All (λ (times : TaskTimes). times.cookie < cookies_for entries) tasks (rows_below entries opening history tasks (cookies_for entries) playable few refl refl))
    ∙ ap (λ (s : TaskSums). all_charged s.tasks) (sym is)

-- there is a row for each cookie, and nothing is charged to any yet
pub cookies_wide : (entries : ℕ) (opening : Opening) (history : History) (cookies : List CookieTimes) → cookies ≡ (sums_so_far entries opening history).cookies → length cookies ≡ cookies_for entries
cookies_wide entries opening history cookies are = ap length are ∙ length-map-range_with_len (cookie_times 0 (spans_of opening history)) 0 (cookies_for entries)

pub uncharged : (entries : ℕ) (opening : Opening) (history : History) (cookies : List CookieTimes) → cookies ≡ (sums_so_far entries opening history).cookies →
    All (λ (times : CookieTimes). times.charged ≡ 0) cookies
uncharged entries opening history cookies are = λ k d under.
    ap (λ (times : CookieTimes). times.charged) (row_at (cookie_times 0 (spans_of opening history)) (cookies_for entries) cookies are k d under)

-- what is said of rows is said of the same rows
pub each_part : (slice tasks : List TaskTimes) (parts rows new : List CookieTimes) → slice ≡ tasks → parts ≡ rows →
    ((k : ℕ) (none : CookieTimes) → k < length parts → get_or new k none ≡ charged_more (charged_to slice k) (get_or parts k none)) →
    (k : ℕ) (none : CookieTimes) → k < length rows → get_or new k none ≡ charged_more (charged_to tasks k) (get_or rows k none)
each_part slice tasks parts rows new are same each =
    subst (λ (xs : List CookieTimes). (k : ℕ) (none : CookieTimes) → k < length xs → get_or new k none ≡ charged_more (charged_to tasks k) (get_or xs k none)) same
    (subst (λ (ts : List TaskTimes). (k : ℕ) (none : CookieTimes) → k < length parts → get_or new k none ≡ charged_more (charged_to ts k) (get_or parts k none)) are each)

-- the sums at the end
pub sums_charged : (entries : ℕ) (opening : Opening) (history : History) (old : TaskSums) (tasks : List TaskTimes) (cookies : List CookieTimes) →
    old ≡ sums_so_far entries opening history → tasks ≡ (sums_of entries opening history).tasks → length cookies ≡ length old.cookies →
    ((k : ℕ) (none : CookieTimes) → k < length old.cookies → get_or cookies k none ≡ charged_more (charged_to tasks k) (get_or old.cookies k none)) →
    record { entries = length cookies - 1; tasks = tasks; cookies = cookies } ≡ sums_of entries opening history
sums_charged entries opening history old tasks cookies was are wide each =
    let spans = spans_of opening history in
    let end = (sums_of entries opening history).tasks in
    let charged = charged_to end in
    let step : (k : ℕ) → cookie_times (charged k) spans k ≡ charged_more (charged k) (cookie_times 0 spans k) =
    λ k. (let same : charged k ≡ 0 + charged k = omega arith in λ i. record (cookie_times 0 spans k) { charged = same i }) in
    let parts : cookies ≡ map (λ k. cookie_times (charged k) spans k) (range_with_len 0 (cookies_for entries)) =
    rows-push (cookie_times 0 spans) (λ k. cookie_times (charged k) spans k) (λ k. charged_more (charged k)) step (cookies_for entries)
    old.cookies cookies (cookie_times 0 [] 0) (ap (λ (s : TaskSums). s.cookies) was) wide
    (λ k none few. each k none few ∙ ap (λ (ts : List TaskTimes). charged_more (charged_to ts k) (get_or old.cookies k none)) are) in
    let many : length cookies - 1 ≡ entries = (let count = ap length parts ∙ length-map-range_with_len (λ k. cookie_times (charged k) spans k) 0 (cookies_for entries) in omega (arith, count)) in
    λ i. record { entries = many i; tasks = are i; cookies = parts i }
