-- Moved: what a run queue holds once all its tasks moved to another sibling, where they stand in the same order.
use Rattle.std.proofs.Common.{◌≡◌, ℕ, ◌+◌, ◌-◌, ◌<◌, ◌≤◌, Bool, true, false, cond, not, ltb, List, [], ◌∷◌, map, inl, inr, refl, sym, ap, ◌∙◌, subst, arith}
use Rattle.std.specs.Prelude.{◌==◌, filter, count_by, Contains}
use Rattle.std.specs.List.{AllByRecursion}
use Rattle.std.specs.Option.{option_map_or}
use Rattle.std.specs.Cmp.{IsTotalOrder, nat_cmp_is}
use Rattle.std.specs.Ordering.{ordering_then, nat_cmp}
use Rattle.std.specs.declared.cmp.Ordering.{Ordering}
use Rattle.std.specs.declared.cmp.Ordering.TheVariants.{Less, Equal, Greater}
use Rattle.std.specs.FinMap as fin
use Rattle.std.specs.FinMap.{FinMap, IsAntisymmetric, entries, entries-insert, from_entries, put}
use Rattle.std.specs.FinMap.Entries.{by_order}
use Rattle.std.proofs.lemmas.Bool.{cases_Bool, cases_order, cond-true, cond-false, eqb-true, eqb-false, ne_eqb, lt-ltb}
use Rattle.std.proofs.lemmas.Bool.Decides.{nat_tests}
use Rattle.std.proofs.lemmas.List.{nil_from_length}
use Rattle.std.proofs.lemmas.List.Sums.{length-filter, sum_by-cons}
use Rattle.std.proofs.lemmas.List.Elements.{recursion_from_All}
use Rattle.cs_types.specs.declared.task.Task.{Task}
use Rattle.cs_types.specs.declared.task.Policy.{Policy}
use Rattle.cs_types.specs.declared.task.Policy.TheVariants.{Stop, Deadline, Fifo, Rr, Fair}
use Rattle.cs_types.specs.declared.queue.Queued.{Queued}
use Rattle.cs_types.specs.Order.{class_of, fair_class, real_time_class, is_fair}
use Rattle.cs_types.specs.Queue.{Key, Seat, Spot, seat_cmp, spot_cmp, seat_of, spot_of, rank_by, queued_of}
use Rattle.cs_types.proofs.Queues.{seat_total, seat_cmp-IsAntisymmetric, spot_total, spot_cmp-IsAntisymmetric}
use Rattle.task_table.specs.Table.{Rises}
use Rattle.core_lanes.specs.Queued.{queued_among, queued_at, IsOf}
use Rattle.core_lanes.specs.Moved.{again}
use Rattle.core_lanes.proofs.Lists.{fewer, filter-map}
use Rattle.core_lanes.proofs.Queues.{is_on}
use Rattle.cookie_queue.specs.Anew.{respotted}
use Rattle.run_queue.specs.Anew.{reseated}
use Rattle.run_queue.specs.Run.{IsTied}
use Rattle.run_queue.proofs.Ties.{IsTied-empty, IsTied-plain, IsTied-cookie}
use Rattle.cookie_queue.specs.Spotted.{has_cookie, spotted}
use Rattle.tree_queue.specs.Held.{AreApart, AreDistinct, seated}
use Rattle.tree_queue.specs.Kinds.{kind_of, count_of, AreCounted}
use Rattle.tree_queue.specs.Renewed.{key_in}
use Rattle.tree_queue.proofs.Made.{free_at}
use Rattle.tree_queue.proofs.Held.{seat_stamp, spot_stamp}
use Rattle.tree_queue.proofs.Splits.{each_is_of}
use Rattle.std.proofs.ByRecursion.{All-weaker, all_kept_by}
use Rattle.cs_types.proofs.Lists.{all_map, each_both}

-- ---- comparisons that stay

same_cmp : (a b c d : ℕ) → (a < b → c < d) → (b < a → d < c) → (a ≡ b → c ≡ d) → nat_cmp c d ≡ nat_cmp a b
same_cmp a b c d less more same =
    elim (cases_order a b) [
      | inl is ↦ sym (nat_cmp_is c d Equal (same is)) ∙ nat_cmp_is a b Equal is
      | inr (inl lt) ↦ sym (nat_cmp_is c d Less (less lt)) ∙ nat_cmp_is a b Less lt
      | inr (inr gt) ↦ sym (nat_cmp_is c d Greater (more gt)) ∙ nat_cmp_is a b Greater gt
    ]

not_below_itself : (n : ℕ) → ltb n n ≡ false
not_below_itself n = grind (arith, nat_tests)

below_still : (k m n : ℕ) → m < n → ltb k m ≡ true → ltb k n ≡ true
below_still k m n less lower = grind (arith, nat_tests)

-- ---- a map whose keys are renewed

module _ {K : Type 0} {R : K → K → Ordering} (o : IsTotalOrder R) (only : IsAntisymmetric R) (f : K × ℕ → K) where
  -- an entry with its new key
  abbrev renewed : K × ℕ → K × ℕ
  renewed e = (f e, e.1)

  -- two entries whose keys differ and whose new keys compare as these
  abbrev Stands : K × ℕ → K × ℕ → Type 0
  Stands e other = (R (f e) (f other) ≡ R e.0 other.0) × (R e.0 other.0 ≡ Equal → ⊥)

  put-renewed : (e : K × ℕ) (es : List (K × ℕ)) → AllByRecursion (Stands e) es → map renewed (put R e.0 e.1 es) ≡ put R (f e) e.1 (map renewed es)
  put-renewed e [] all = refl
  put-renewed e (x ∷ xs) all =
      let after : Ordering → List (K × ℕ) = λ r. by_order r (renewed e ∷ renewed x ∷ map renewed xs) ((f x, e.1) ∷ map renewed xs) (renewed x ∷ put R (f e) e.1 (map renewed xs)) in
      elim (R e.0 x.0) as (λ r. R e.0 x.0 ≡ r → map renewed (by_order r (e ∷ x ∷ xs) ((x.0, e.1) ∷ xs) (x ∷ put R e.0 e.1 xs)) ≡ after (R (f e) (f x))) [
        | Less ↦ λ is. ap after (sym is ∙ sym all.0.0)
        | Equal ↦ λ is. absurd (all.0.1 is)
        | Greater ↦ λ is. ap (λ (more : List (K × ℕ)). renewed x ∷ more) (put-renewed e xs all.1) ∙ ap after (sym is ∙ sym all.0.0)
      ] refl

  all_put : (P : K × ℕ → Type 0) (e : K × ℕ) (es : List (K × ℕ)) → P e → AllByRecursion P es → AllByRecursion P (put R e.0 e.1 es)
  all_put P e [] here all = (here, tt)
  all_put P e (x ∷ xs) here all =
      elim (R e.0 x.0) as (λ r. R e.0 x.0 ≡ r → AllByRecursion P (by_order r (e ∷ x ∷ xs) ((x.0, e.1) ∷ xs) (x ∷ put R e.0 e.1 xs))) [
        | Less ↦ λ is. (here, all)
        | Equal ↦ λ is. (subst (λ k. P (k, e.1)) (only e.0 x.0 is) here, all.1)
        | Greater ↦ λ is. (all.0, all_put P e xs here all.1)
      ] refl

  module _ (key : Queued → K) (new : Queued → Queued) where
    abbrev entry : Queued → K × ℕ
    entry task = (key task, task.pid)

    abbrev made : List Queued → FinMap R ℕ
    made tasks = from_entries {R = R} (map entry tasks)

    none : entries (made []) ≡ []
    none = nil_from_length _ (sym (fin.len-entries (made [])) ∙ fin.len-empty R ℕ)

    all_made : (P : K × ℕ → Type 0) (tasks : List Queued) → AllByRecursion (λ (t : Queued). P (entry t)) tasks → AllByRecursion P (entries (made tasks))
    all_made P [] all = subst (AllByRecursion P) (sym none) tt
    all_made P (task ∷ tasks) all =
        subst (AllByRecursion P) (sym (entries-insert o (made tasks) (key task) task.pid))
        (all_put P (entry task) (entries (made tasks)) all.0 (all_made P tasks all.1))

    -- a task whose new key is that of the task anew
    abbrev IsAgain : Queued → Type 0
    IsAgain task = (f (entry task) ≡ key (new task)) × ((new task).pid ≡ task.pid)

    -- a task compares anew with another as before
    abbrev Stays : Queued → Queued → Type 0
    Stays task other = (R (key (new task)) (key (new other)) ≡ R (key task) (key other)) × (R (key task) (key other) ≡ Equal → ⊥)

    -- and so each with those behind it
    abbrev pub AreInOrder : List Queued → Type 0
    AreInOrder [] = Unit {0}
    AreInOrder (task ∷ tasks) = AllByRecursion (Stays task) tasks × AreInOrder tasks

    pub entries-renewed : (tasks : List Queued) → AllByRecursion IsAgain tasks → AreInOrder tasks → entries (made (map new tasks)) ≡ map renewed (entries (made tasks))
    entries-renewed [] each order = none ∙ ap (map renewed) (sym none)
    entries-renewed (task ∷ tasks) each order =
        entries-insert o (made (map new tasks)) (key (new task)) (new task).pid
        ∙ (λ i. put R (sym each.0.0 i) (each.0.1 i) (entries-renewed tasks each.1 order.1 i))
        ∙ sym (put-renewed (entry task) (entries (made tasks)) (all_made (Stands (entry task)) tasks
        (each_both IsAgain (Stays task) _ tasks (λ other its stays. ((λ i. R (each.0.0 i) (its.0 i)) ∙ stays.0, stays.1)) each.1 order.0)))
        ∙ ap (map renewed) (sym (entries-insert o (made tasks) (key task) task.pid))

-- ---- tasks that moved

module _ (from to next : ℕ) (was : List Queued) where
  abbrev new : Queued → Queued
  new task = again from to next was task

  -- a task of the queue, which is not behind where it is fair
  abbrev IsHere : Queued → Type 0
  IsHere task = Contains was task × (task.class ≡ fair_class → from ≤ task.rank)

  rises : (a b : Queued) → Contains was a → a.stamp < b.stamp → (new a).stamp < (new b).stamp
  rises a b there less =
      let lower : Queued → Bool = λ other. ltb other.stamp a.stamp in
      let upper : Queued → Bool = λ other. ltb other.stamp b.stamp in
      omega (arith, fewer lower upper (λ other is. below_still other.stamp a.stamp b.stamp less is) was a there (not_below_itself a.stamp) (lt-ltb a.stamp b.stamp less), length-filter lower was, length-filter upper was)

  stamps : (a b : Queued) → IsHere a → IsHere b → nat_cmp (new a).stamp (new b).stamp ≡ nat_cmp a.stamp b.stamp
  stamps a b here there =
      same_cmp a.stamp b.stamp (new a).stamp (new b).stamp (rises a b here.0) (rises b a there.0)
      (λ same. ap (λ n. next + count_by (λ (other : Queued). ltb other.stamp n) was) same)

  ranks : (a b : Queued) → IsHere a → IsHere b → a.class ≡ b.class → nat_cmp (new a).rank (new b).rank ≡ nat_cmp a.rank b.rank
  ranks a b here there class =
      elim (cases_Bool (a.class == fair_class)) [
        | inl fair ↦
            let a_is = eqb-true a.class fair_class fair in
            let b_is = sym class ∙ a_is in
            let low = here.1 a_is in
            let also = there.1 b_is in
            (λ i. nat_cmp (cond-true (a.class == fair_class) (to + (a.rank - from)) a.rank fair i)
            (cond-true (b.class == fair_class) (to + (b.rank - from)) b.rank (ap (λ n. n == fair_class) (sym class) ∙ fair) i))
            ∙ same_cmp a.rank b.rank (to + (a.rank - from)) (to + (b.rank - from)) (λ lt. omega (arith, lt, low, also)) (λ lt. omega (arith, lt, low, also)) (λ same. omega (arith, same))
        | inr other ↦
            λ i. nat_cmp (cond-false (a.class == fair_class) (to + (a.rank - from)) a.rank other i)
            (cond-false (b.class == fair_class) (to + (b.rank - from)) b.rank (ap (λ n. n == fair_class) (sym class) ∙ other) i)
      ]

  seats : (a b : Queued) → IsHere a → IsHere b → seat_cmp (seat_of (new a)) (seat_of (new b)) ≡ seat_cmp (seat_of a) (seat_of b)
  seats a b here there =
      elim (cases_order a.class b.class) [
        | inl same ↦ λ i. ordering_then (nat_cmp a.class b.class) (ordering_then (ranks a b here there same i) (stamps a b here there i))
        | inr (inl less) ↦ subst (λ r. ordering_then r now ≡ ordering_then r then) (nat_cmp_is a.class b.class Less less) refl
        | inr (inr more) ↦ subst (λ r. ordering_then r now ≡ ordering_then r then) (nat_cmp_is a.class b.class Greater more) refl
      ] where
        now : Ordering
        now = ordering_then (nat_cmp (new a).rank (new b).rank) (nat_cmp (new a).stamp (new b).stamp)

        then : Ordering
        then = ordering_then (nat_cmp a.rank b.rank) (nat_cmp a.stamp b.stamp)

  spots : (a b : Queued) → IsHere a → IsHere b → spot_cmp (spot_of (new a)) (spot_of (new b)) ≡ spot_cmp (spot_of a) (spot_of b)
  spots a b here there = ap (ordering_then (nat_cmp a.cookie b.cookie)) (seats a b here there)

  -- any two are apart still
  apart_again : (a b : Queued) → IsHere a → IsHere b → AreApart a b → AreApart (new a) (new b)
  apart_again a b here there apart = (
    apart.0,
    λ same. elim (cases_order a.stamp b.stamp) [
      | inl is ↦ apart.1 is
      | inr (inl less) ↦ omega (arith, same, rises a b here.0 less)
      | inr (inr more) ↦ omega (arith, same, rises b a there.0 more)
    ],
  )

  pub distinct_again : (tasks : List Queued) → AllByRecursion IsHere tasks → AreDistinct tasks → AreDistinct (map new tasks)
  distinct_again [] each distinct = tt
  distinct_again (task ∷ tasks) each distinct = (
    all_map (AreApart (new task)) new tasks (each_both IsHere (AreApart task) _ tasks (λ other there. apart_again task other each.0 there) each.1 distinct.0),
    distinct_again tasks each.1 distinct.1,
  )

  -- ---- by their seats and spots

  module _ {K : Type 0} {R : K → K → Ordering} (o : IsTotalOrder R) (only : IsAntisymmetric R) (f : K × ℕ → K) (key : Queued → K)
      (of_stamp : (a b : Queued) → key a ≡ key b → a.stamp ≡ b.stamp) (same : (a b : Queued) → IsHere a → IsHere b → R (key (new a)) (key (new b)) ≡ R (key a) (key b)) where
    in_order : (tasks : List Queued) → AllByRecursion IsHere tasks → AreDistinct tasks → AreInOrder o only f key new tasks
    in_order [] each distinct = tt
    in_order (task ∷ tasks) each distinct = (
      each_both IsHere (AreApart task) _ tasks (λ other there apart. (same task other each.0 there, λ tie. apart.1 (of_stamp task other (only (key task) (key other) tie)))) each.1 distinct.0,
      in_order tasks each.1 distinct.1,
    )

  module _ (at : ℕ → Key → Key) where
    -- what is told of a task by its pid is what it has now
    abbrev IsTold : Queued → Type 0
    IsTold task = at task.pid (task.rank, task.stamp) ≡ ((new task).rank, (new task).stamp)

    abbrev seat_at : Seat × ℕ → Seat
    seat_at e = (e.0.0, at e.1 e.0.1)

    abbrev spot_at : Spot × ℕ → Spot
    spot_at e = (e.0.0, (e.0.1.0, at e.1 e.0.1.1))

    pub seated_again : (tasks : List Queued) → AllByRecursion IsHere tasks → AreDistinct tasks → AllByRecursion IsTold tasks →
        entries (seated (map new tasks)) ≡ map (reseated at) (entries (seated tasks))
    seated_again tasks each distinct told =
        entries-renewed seat_total seat_cmp-IsAntisymmetric seat_at seat_of new tasks
        (All-weaker IsTold (IsAgain seat_total seat_cmp-IsAntisymmetric seat_at seat_of new) (λ task is. (ap (λ (k : ℕ × ℕ). (task.class, k)) is, refl)) tasks told)
        (in_order seat_total seat_cmp-IsAntisymmetric seat_at seat_of seat_stamp seats tasks each distinct)

    distinct_filter : (tasks : List Queued) → AreDistinct tasks → AreDistinct (filter has_cookie tasks)
    distinct_filter [] distinct = tt
    distinct_filter (task ∷ tasks) distinct =
        let rest = distinct_filter tasks distinct.1 in
        elim (has_cookie task) as (λ b. AreDistinct (cond b (task ∷ filter has_cookie tasks) (filter has_cookie tasks))) [
          | true ↦ (all_kept_by has_cookie (AreApart task) tasks distinct.0, rest)
          | false ↦ rest
        ]

    pub spotted_again : (tasks : List Queued) → AllByRecursion IsHere tasks → AreDistinct tasks → AllByRecursion IsTold tasks →
        entries (spotted (map new tasks)) ≡ map (respotted at) (entries (spotted tasks))
    spotted_again tasks each distinct told =
        ap (λ (ts : List Queued). entries (from_entries {R = spot_cmp} (map (λ (t : Queued). (spot_of t, t.pid)) ts))) (filter-map new has_cookie tasks)
        ∙ entries-renewed spot_total spot_cmp-IsAntisymmetric spot_at spot_of new (filter has_cookie tasks)
        (All-weaker IsTold (IsAgain spot_total spot_cmp-IsAntisymmetric spot_at spot_of new) (λ task is. (ap (λ (k : ℕ × ℕ). (task.cookie, (task.class, k))) is, refl))
        (filter has_cookie tasks) (all_kept_by has_cookie IsTold tasks told))
        (in_order spot_total spot_cmp-IsAntisymmetric spot_at spot_of spot_stamp spots (filter has_cookie tasks) (all_kept_by has_cookie IsHere tasks each) (distinct_filter tasks distinct))

  -- ---- their counts

  counted_by : (number : Queued → ℕ) → ((task : Queued) → number (new task) ≡ number task) → (one : ℕ) (tasks : List Queued) →
      count_of number one (map new tasks) ≡ count_of number one tasks
  counted_by number same one [] = refl
  counted_by number same one (task ∷ tasks) =
      sum_by-cons (λ (t : Queued). cond (number t == one) 1 0) (new task) (map new tasks)
      ∙ (λ i. cond (same task i == one) 1 0 + counted_by number same one tasks i)
      ∙ sym (sum_by-cons (λ (t : Queued). cond (number t == one) 1 0) task tasks)

  pub counted_again : (number : Queued → ℕ) → ((task : Queued) → number (new task) ≡ number task) → {numbers : ℕ} {counts : List ℕ} (tasks : List Queued) →
      AreCounted number numbers counts tasks → AreCounted number numbers counts (map new tasks)
  counted_again number same tasks counted =
      record { many = counted.many; each = λ one below. counted.each one below ∙ sym (counted_by number same one tasks) }

  pub same_kind : (task : Queued) → kind_of (new task) ≡ kind_of task
  same_kind task =
      elim (cases_Bool (task.class == real_time_class)) [
        | inl is ↦
            ap (λ n. cond (task.class == real_time_class) (4 + n) task.class)
            (cond-false (task.class == fair_class) (to + (task.rank - from)) task.rank
            (ne_eqb task.class fair_class (λ fair. let both : real_time_class ≡ fair_class = sym (eqb-true task.class real_time_class is) ∙ fair in omega (arith, both))))
        | inr other ↦
            cond-false (task.class == real_time_class) (4 + (new task).rank) task.class other
            ∙ sym (cond-false (task.class == real_time_class) (4 + task.rank) task.class other)
      ]

-- ---- those with cookies are theirs

pub tied_held : (tasks : List Queued) → AreDistinct tasks → IsTied (seated tasks) (spotted tasks)
tied_held [] distinct = IsTied-empty (seated []) (spotted []) refl
tied_held (task ∷ tasks) distinct =
    let rest = tied_held tasks distinct.1 in
    let free = free_at seat_total seat_cmp-IsAntisymmetric seat_of seat_stamp task tasks distinct.0 in
    elim (task.cookie == 0) as (λ b. (task.cookie == 0) ≡ b →
    IsTied (seated (task ∷ tasks)) (from_entries (map (λ (t : Queued). (spot_of t, t.pid)) (cond (not b) (task ∷ filter has_cookie tasks) (filter has_cookie tasks))))) [
      | true ↦ λ none. IsTied-plain (seated tasks) (spotted tasks) rest (seat_of task) task.pid free
      | false ↦ λ some. IsTied-cookie (seated tasks) (spotted tasks) rest (seat_of task) task.pid free task.cookie (eqb-false task.cookie 0 some)
    ] refl

-- ---- what a table tells of its tasks

-- a place becomes that of a task, where it has the stamp that another task would have too, and the rank of one that is not fair
abbrev pub Becomes : (ℕ → Key → Key) → Queued → Type 0
Becomes at task = (rank stamp : ℕ) → ((task.class == fair_class) ≡ false → rank ≡ task.rank) → at task.pid (rank, stamp) ≡ (task.rank, task.stamp)

-- the virtual time of a fair task is its rank
new_rank : (policy : Policy) (deadline vtime rank : ℕ) → ((class_of policy == fair_class) ≡ false → rank ≡ rank_by policy deadline vtime) →
    cond (class_of policy == fair_class) vtime rank ≡ rank_by policy deadline vtime
new_rank Stop deadline vtime rank same = same refl
new_rank (Deadline relative) deadline vtime rank same = same refl
new_rank (Fifo priority) deadline vtime rank same = same refl
new_rank (Rr priority) deadline vtime rank same = same refl
new_rank (Fair nice) deadline vtime rank same = refl

pub told_at : (tasks : List Task) (cpu : ℕ) → Rises tasks → AllByRecursion (Becomes (key_in tasks)) (queued_at tasks cpu)
told_at tasks cpu rising =
    all_map (Becomes (key_in tasks)) queued_of (queued_among tasks cpu)
    (All-weaker (IsOf tasks) _
    (λ task there rank stamp same.
    ap (λ found. option_map_or (λ (t : Task). (cond (is_fair t) t.vtime rank, t.stamp)) found (rank, stamp)) there ∙ ap (λ (n : ℕ). (n, task.stamp)) (new_rank task.spec.policy task.deadline task.vtime rank same))
    (queued_among tasks cpu)
    (all_kept_by (is_on cpu) (IsOf tasks) tasks (recursion_from_All (IsOf tasks) tasks (each_is_of tasks rising))))
