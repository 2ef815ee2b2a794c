-- Ranks: how many tasks of a sibling have a smaller stamp, which is where a task stands among them by rising stamp.
use Rattle.std.proofs.Common.{◌≡◌, inl, inr, ℕ, zero, suc, ◌+◌, ◌<◌, ◌≤◌, Bool, true, false, cond, ltb, eqb, List, [], ◌∷◌, map, refl, sym, ap, ◌∙◌, subst, length, get_or, arith}
use Rattle.std.specs.Prelude.{count_by, filter, ◌==◌, Contains}
use Rattle.std.specs.List.{AllByRecursion, AllWithin, IsDistinct}
use Rattle.std.specs.List.Sorted.{IsPermutation, IsSortedByKey, IsNonDecreasing}
use Rattle.std.specs.Ordering.{nat_cmp}
use Rattle.std.proofs.lemmas.Bool.{cases_Bool, lt-ltb, le-ltb, and_parts, ne_eqb}
use Rattle.std.proofs.lemmas.Bool.Decides.{nat_tests}
use Rattle.std.proofs.lemmas.List.{length-map, get_or-map, get_or_default}
use Rattle.std.proofs.lemmas.List.Elements.{All-from_recursion, recursion_from_All}
use Rattle.std.proofs.lemmas.List.Sums.{length-filter, sum_by-cons}
use Rattle.std.proofs.lemmas.List.Sorted.{IsPermutation-map, IsNonDecreasingBy-from_sort, All-permutation, sum_by-IsPermutation, length_permutation}
use Rattle.std.proofs.lemmas.Map.Keys.{IsDistinct-cons, IsDistinct-from_apart, IsDistinct-IsPermutation, IsStrictlyIncreasing-from_distinct, sorted_from_strictly_increasing, below_from_sorted}
use Rattle.cs_types.specs.declared.task.Task.{Task}
use Rattle.task_table.specs.Table.{Rises, RisesFrom}
use Rattle.core_lanes.specs.Queued.{queued_among, mover_of, count_before, IsOf, AreStamped}
use Rattle.core_lanes.proofs.Lists.{fewer, filter-map}
use Rattle.core_lanes.proofs.Queues.{is_of, is_on}

-- ---- how many stamps are smaller

not_below_itself : (n : ℕ) → ltb n n ≡ false
not_below_itself n = grind (arith, nat_tests)

below_still : (k m n : ℕ) → ltb m n ≡ true → ltb k m ≡ true → ltb k n ≡ true
below_still k m n less lower = grind (arith, nat_tests)

neither_below : (m n : ℕ) → ltb m n ≡ false → ltb n m ≡ false → m ≡ n
neither_below m n one two = grind (arith, nat_tests)

-- fewer stamps are smaller than a smaller one of the list
more_before : (tasks : List Task) (x y : Task) → Contains tasks x → ltb x.stamp y.stamp ≡ true → count_before tasks x.stamp < count_before tasks y.stamp
more_before tasks x y there less =
    let lower : Task → Bool = λ other. ltb other.stamp x.stamp in
    let upper : Task → Bool = λ other. ltb other.stamp y.stamp in
    omega (arith, fewer lower upper (λ other is. below_still other.stamp x.stamp y.stamp less is) tasks x there (not_below_itself x.stamp) less, length-filter lower tasks, length-filter upper tasks)

-- and fewer than there are
pub fewer_before : (tasks : List Task) (x : Task) → Contains tasks x → count_before tasks x.stamp < length tasks
fewer_before tasks x there =
    let lower : Task → Bool = λ other. ltb other.stamp x.stamp in
    omega (arith, fewer lower (λ other. true) (λ other is. refl) tasks x there (not_below_itself x.stamp) refl, length-filter lower tasks, ap length (all_kept tasks)) where
      all_kept : (tasks : List Task) → filter (λ other. true) tasks ≡ tasks
      all_kept [] = refl
      all_kept (task ∷ tasks) = ap (λ (ts : List Task). task ∷ ts) (all_kept tasks)

-- so where as many are smaller, the stamps are one
pub same_stamp : (tasks : List Task) (x y : Task) → Contains tasks x → Contains tasks y → count_before tasks x.stamp ≡ count_before tasks y.stamp → x.stamp ≡ y.stamp
same_stamp tasks x y in_x in_y same =
    elim (cases_Bool (ltb x.stamp y.stamp)) [
      | inl less ↦ let more = more_before tasks x y in_x less in absurd (omega (arith, more, same))
      | inr one ↦
          elim (cases_Bool (ltb y.stamp x.stamp)) [
            | inl less ↦ let more = more_before tasks y x in_y less in absurd (omega (arith, more, same))
            | inr two ↦ neither_below x.stamp y.stamp one two
          ]
    ]

-- where those before a place pass and no later one does, so many pass
count_point : (p : ℕ → Bool) (xs : List ℕ) (place : ℕ) → place ≤ length xs → AllWithin (λ x. p x ≡ true) xs 0 place → AllWithin (λ x. p x ≡ false) xs place (length xs) →
    count_by p xs ≡ place
count_point p [] place within pass fail = omega arith
count_point p (x ∷ xs) zero within pass fail =
    let rest = count_point p xs zero (omega arith) (λ k d low high. absurd (omega arith)) (λ k d low high. fail (suc k) d (omega arith) (omega arith)) in
    let first = sum_by-cons (λ y. cond (p y) 1 0) x xs ∙ ap (λ b. cond b 1 0 + count_by p xs) (fail zero x (omega arith) (omega arith)) in
    omega (arith, first, rest)
count_point p (x ∷ xs) (suc place) within pass fail =
    let rest = count_point p xs place (omega arith) (λ k d low high. pass (suc k) d (omega arith) (omega arith)) (λ k d low high. fail (suc k) d (omega arith) (omega arith)) in
    let first = sum_by-cons (λ y. cond (p y) 1 0) x xs ∙ ap (λ b. cond b 1 0 + count_by p xs) (pass zero x (omega arith) (omega arith)) in
    omega (arith, first, rest)

-- ---- the tasks of a sibling, as they are told

-- each of rising tasks is one of them
pub each_of : (tasks : List Task) → Rises tasks → AllByRecursion (IsOf tasks) tasks
each_of tasks rises = recursion_from_All (IsOf tasks) tasks (λ k d below. is_of tasks (get_or tasks k d) rises (k, below, get_or_default tasks k (get_or tasks k d) d below))

-- what is told is a task that is queued on the sibling
pub record IsMover (tasks : List Task) (cpu : ℕ) (mover : ℕ × ℕ) : Type 0 where
  pub task : Task
  pub there : IsOf tasks task
  pub on : is_on cpu task ≡ true
  pub is : mover_of task ≡ mover

module _ (all : List Task) (cpu : ℕ) where
  told : List Task → List (ℕ × ℕ)
  told tasks = map mover_of (queued_among tasks cpu)

  movers_told : (tasks : List Task) → AllByRecursion (IsOf all) tasks → AllByRecursion (IsMover all cpu) (map mover_of (queued_among tasks cpu))
  movers_told [] each = tt
  movers_told (task ∷ tasks) each =
      elim (is_on cpu task) as (λ b. is_on cpu task ≡ b → AllByRecursion (IsMover all cpu) (map mover_of (cond b (task ∷ queued_among tasks cpu) (queued_among tasks cpu)))) [
        | true ↦ λ on. (record { task = task; there = each.0; on = on; is = refl }, movers_told tasks each.1)
        | false ↦ λ off. movers_told tasks each.1
      ] refl

  -- their stamps
  abbrev stamps : List Task → List ℕ
  stamps tasks = map (λ (task : Task). task.stamp) (queued_among tasks cpu)

  stamps_told : (tasks : List Task) → map (λ (mover : ℕ × ℕ). mover.0) (map mover_of tasks) ≡ map (λ (task : Task). task.stamp) tasks
  stamps_told [] = refl
  stamps_told (task ∷ tasks) = ap (λ (rest : List ℕ). task.stamp ∷ rest) (stamps_told tasks)

  module _ (next : ℕ) (stamped : AreStamped next all) where
    -- no later task has the stamp of one
    apart_later : (task : Task) → IsOf all task → is_on cpu task ≡ true → (low : ℕ) (tasks : List Task) → task.spec.pid < low → RisesFrom low tasks →
        AllByRecursion (IsOf all) tasks → AllByRecursion (λ stamp. eqb task.stamp stamp ≡ false) (stamps tasks)
    apart_later task there on low [] below rises each = tt
    apart_later task there on low (other ∷ tasks) below rises each =
        let rest = apart_later task there on (other.spec.pid + 1) tasks (omega (arith, below, rises.0)) rises.1 each.1 in
        elim (is_on cpu other) as (λ b. is_on cpu other ≡ b →
        AllByRecursion (λ stamp. eqb task.stamp stamp ≡ false) (map (λ (t : Task). t.stamp) (cond b (other ∷ queued_among tasks cpu) (queued_among tasks cpu)))) [
          | true ↦ λ here. (
            ne_eqb task.stamp other.stamp (λ same.
                let pid = stamped.distinct task there (and_parts task.queued (task.home == cpu) on).0 other each.0 (and_parts other.queued (other.home == cpu) here).0 (sym same) in
                omega (arith, pid, below, rises.0)),
            rest,
          )
          | false ↦ λ off. rest
        ] refl

    stamps_distinct : (low : ℕ) (tasks : List Task) → RisesFrom low tasks → AllByRecursion (IsOf all) tasks → IsDistinct eqb (stamps tasks)
    stamps_distinct low [] rises each = IsDistinct-from_apart eqb [] (λ i j d less below. absurd (omega arith))
    stamps_distinct low (task ∷ tasks) rises each =
        let rest = stamps_distinct (task.spec.pid + 1) tasks rises.1 each.1 in
        elim (is_on cpu task) as (λ b. is_on cpu task ≡ b → IsDistinct eqb (map (λ (t : Task). t.stamp) (cond b (task ∷ queued_among tasks cpu) (queued_among tasks cpu)))) [
          | true ↦ λ on. IsDistinct-cons eqb task.stamp (stamps tasks) (apart_later task each.0 on (task.spec.pid + 1) tasks (omega arith) rises.1 each.1) rest
          | false ↦ λ off. rest
        ] refl

eqb_flips : (m n : ℕ) → eqb m n ≡ eqb n m
eqb_flips m n = grind (arith, nat_tests)

-- ---- by rising stamp

module _ (all : List Task) (rises : Rises all) (cpu next : ℕ) (stamped : AreStamped next all) (movers : List (ℕ × ℕ))
    (same : IsPermutation (map mover_of (queued_among all cpu)) movers) where
  -- each is a task that is queued on the sibling
  pub mover_at : (i : ℕ) (d : ℕ × ℕ) → i < length movers → IsMover all cpu (get_or movers i d)
  mover_at =
      All-permutation (IsMover all cpu) (map mover_of (queued_among all cpu)) movers same
      (All-from_recursion (IsMover all cpu) (map mover_of (queued_among all cpu)) (movers_told all cpu all (each_of all rises)))

  -- there are as many
  pub length-movers : length movers ≡ length (queued_among all cpu)
  length-movers = length_permutation (map mover_of (queued_among all cpu)) movers same ∙ length-map (queued_among all cpu) mover_of

  abbrev rising : List ℕ
  rising = map (λ (mover : ℕ × ℕ). mover.0) movers

  same_stamps : IsPermutation (map (λ (task : Task). task.stamp) (queued_among all cpu)) rising
  same_stamps =
      subst (λ (stamps : List ℕ). IsPermutation stamps rising) (stamps_told all cpu (queued_among all cpu))
      (IsPermutation-map (λ (mover : ℕ × ℕ). mover.0) (map mover_of (queued_among all cpu)) movers same)

  -- a count of the stamps, in any order, is one of the tasks
  counted : (stamp : ℕ) → count_by (λ (other : ℕ). ltb other stamp) rising ≡ count_before (queued_among all cpu) stamp
  counted stamp =
      let tasks = queued_among all cpu in
      sum_by-IsPermutation (λ (other : ℕ). cond (ltb other stamp) 1 0) (map (λ (t : Task). t.stamp) tasks) rising same_stamps
      ∙ sym (length-filter (λ (other : ℕ). ltb other stamp) (map (λ (t : Task). t.stamp) tasks))
      ∙ ap length (filter-map (λ (t : Task). t.stamp) (λ (other : ℕ). ltb other stamp) tasks)
      ∙ length-map (filter (λ (t : Task). ltb t.stamp stamp) tasks) (λ (t : Task). t.stamp)
      ∙ length-filter (λ (t : Task). ltb t.stamp stamp) tasks

  module _ (sorted : IsSortedByKey (λ (mover : ℕ × ℕ). mover.0) nat_cmp movers) where
    not_falling : IsNonDecreasing rising
    not_falling i j d less below =
        let no_falls = IsNonDecreasingBy-from_sort (λ (mover : ℕ × ℕ). mover.0) movers sorted in
        let within : j < length movers = omega (arith, below, length-map movers (λ (mover : ℕ × ℕ). mover.0)) in
        omega (
          arith,
          no_falls i j (d, d) less within,
          get_or-map (λ (mover : ℕ × ℕ). mover.0) movers i (d, d) d (omega (arith, less, within)),
          get_or-map (λ (mover : ℕ × ℕ). mover.0) movers j (d, d) d within,
        )

    lower : (i j d : ℕ) → i < j → j < length rising → get_or rising i d < get_or rising j d
    lower i j d less below =
        let distinct = IsDistinct-IsPermutation eqb eqb_flips (map (λ (task : Task). task.stamp) (queued_among all cpu)) rising same_stamps
        (stamps_distinct all cpu next stamped 0 all rises (each_of all rises)) in
        below_from_sorted rising i j d (sorted_from_strictly_increasing rising (IsStrictlyIncreasing-from_distinct rising not_falling distinct)) less below

    -- the one at a place has as many before it by its stamp
    pub rank_at : (i : ℕ) (d : ℕ × ℕ) → i < length movers → count_before (queued_among all cpu) (get_or movers i d).0 ≡ i
    rank_at i d within =
        let stamp = (get_or movers i d).0 in
        let many = length-map movers (λ (mover : ℕ × ℕ). mover.0) in
        let here : (e : ℕ) → get_or rising i e ≡ stamp =
        λ e. get_or_default rising i e d.0 (omega (arith, within, many)) ∙ get_or-map (λ (mover : ℕ × ℕ). mover.0) movers i d d.0 within in
        sym (counted stamp)
        ∙ count_point (λ (other : ℕ). ltb other stamp) rising i (omega (arith, within, many))
        (λ k e low high. lt-ltb (get_or rising k e) stamp (omega (arith, lower k i e high (omega (arith, within, many)), here e)))
        (λ k e low high. le-ltb (get_or rising k e) stamp (omega (arith, not_falling i k e low high, here e)))
