-- How the spans count the tasks of a table, and what they say of a group.
use Rattle.std.proofs.Common.{◌≡◌, ℕ, zero, suc, ◌+◌, ◌-◌, ◌≤◌, Bool, cond, not, List, [], ◌∷◌, map, length, get_or, set, drop, Some, inl, inr, refl, sym, ap, ◌∙◌, subst, arith, eq-eqb}
use Rattle.std.specs.Prelude.{◌==◌, ◌&&◌, nat_lt, filter, insert, remove, slice_get, count_by, IsTrue}
use Rattle.std.specs.List.{AllByRecursion}
use Rattle.std.proofs.lemmas.Bool.{cases_Bool, cond-true, cond-false, eqb-true, lt-ltb}
use Rattle.std.proofs.lemmas.List.{map-set}
use Rattle.std.proofs.lemmas.List.Sums.{sum_by-cons, length-filter}
use Rattle.std.proofs.Math.Seq.{map-set_same}
use Rattle.cs_types.specs.declared.task.Task.{Task}
use Rattle.cs_types.specs.Room.{has_pid, inserted}
use Rattle.task_table.specs.declared.spans.Span.{Span}
use Rattle.task_table.specs.Table.{RisesFrom}
use Rattle.task_table.specs.Positions.{IsAt, IsGap, IsSplit}
use Rattle.task_table.specs.Grouping.{place_of, span_at, is_at_place, AreSpans, HasMember, AreGrouped, thread_of, process_of}
use Rattle.task_table.proofs.Rising.{inserted_gap, without_at, with_at}

-- ---- what an edit of the tasks makes of the members

map_insert : {X Y : Type 0} (f : X → Y) (xs : List X) (i : ℕ) (x : X) → map f (insert xs i x) ≡ insert (map f xs) i (f x)
map_insert f xs zero x = refl
map_insert f [] (suc i) x = refl
map_insert f (y ∷ ys) (suc i) x = ap (λ zs. f y ∷ zs) (map_insert f ys i x)

map_remove : {X Y : Type 0} (f : X → Y) (xs : List X) (i : ℕ) → map f (remove xs i) ≡ remove (map f xs) i
map_remove f [] zero = refl
map_remove f [] (suc i) = refl
map_remove f (y ∷ ys) zero = refl
map_remove f (y ∷ ys) (suc i) = ap (λ zs. f y ∷ zs) (map_remove f ys i)

-- the task at a position is a member there
pub has_member : (f : Task → ℕ × ℕ) (tasks : List Task) (position : ℕ) (task : Task) → slice_get tasks position ≡ Some task →
    HasMember (map f tasks) position (f task)
has_member f [] position task is = absurd cc
has_member f (first ∷ tasks) zero task is = let same : first ≡ task = cc in record { within = omega arith; is = ap f same }
has_member f (first ∷ tasks) (suc position) task is =
    let later = has_member f tasks position task is in
    record { within = omega (arith, later.within); is = later.is }

module _ {threads processes : List Span} where
  pub grouped_insert : (task : Task) (position : ℕ) (tasks : List Task) {old_threads old_processes : List Span} → AreGrouped old_threads old_processes tasks →
      IsGap task.spec.pid position tasks →
      ((members : List (ℕ × ℕ)) (position : ℕ) → AreSpans old_threads members → AreSpans threads (insert members position (thread_of task))) →
      ((members : List (ℕ × ℕ)) (position : ℕ) → AreSpans old_processes members → AreSpans processes (insert members position (process_of task))) →
      AreGrouped threads processes (inserted task tasks)
  grouped_insert task position tasks old gap more_threads more_processes =
      subst (AreGrouped threads processes) (sym (inserted_gap task position tasks gap))
      (record {
        by_threads = subst (AreSpans threads) (sym (map_insert thread_of tasks position task)) (more_threads (map thread_of tasks) position old.by_threads);
        by_processes = subst (AreSpans processes) (sym (map_insert process_of tasks position task)) (more_processes (map process_of tasks) position old.by_processes);
      })

  pub grouped_remove : (pid position : ℕ) (tasks : List Task) → IsAt pid position tasks →
      AreSpans threads (remove (map thread_of tasks) position) → AreSpans processes (remove (map process_of tasks) position) →
      AreGrouped threads processes (filter (λ task. not (has_pid pid task)) tasks)
  grouped_remove pid position tasks at less_threads less_processes =
      subst (AreGrouped threads processes) (sym (without_at pid position tasks at))
      (record {
        by_threads = subst (AreSpans threads) (sym (map_remove thread_of tasks position)) less_threads;
        by_processes = subst (AreSpans processes) (sym (map_remove process_of tasks position)) less_processes;
      })

  pub grouped_set : (task : Task) (position : ℕ) (tasks : List Task) → IsAt task.spec.pid position tasks →
      AreSpans threads (set (map thread_of tasks) position (thread_of task)) → AreSpans processes (set (map process_of tasks) position (process_of task)) →
      AreGrouped threads processes (map (λ other. cond (has_pid task.spec.pid other) task other) tasks)
  grouped_set task position tasks at by_threads by_processes =
      subst (AreGrouped threads processes) (sym (with_at task position tasks at))
      (record {
        by_threads = subst (AreSpans threads) (sym (map-set thread_of tasks position task)) by_threads;
        by_processes = subst (AreSpans processes) (sym (map-set process_of tasks position task)) by_processes;
      })

  pub grouped_alike : (task : Task) (position : ℕ) (old : Task) (tasks : List Task) → AreGrouped threads processes tasks → IsAt task.spec.pid position tasks →
      slice_get tasks position ≡ Some old → thread_of task ≡ thread_of old → process_of task ≡ process_of old →
      AreGrouped threads processes (map (λ other. cond (has_pid task.spec.pid other) task other) tasks)
  grouped_alike task position old tasks grouped at is thread process =
      subst (AreGrouped threads processes) (sym (with_at task position tasks at))
      (record {
        by_threads = subst (AreSpans threads) (sym (map-set_same thread_of tasks position task old (thread ∙ sym (ap thread_of got)))) grouped.by_threads;
        by_processes = subst (AreSpans processes) (sym (map-set_same process_of tasks position task old (process ∙ sym (ap process_of got)))) grouped.by_processes;
      }) where
        got_at : (xs : List Task) (i : ℕ) → slice_get xs i ≡ Some old → get_or xs i old ≡ old
        got_at [] i is = absurd cc
        got_at (x ∷ xs) zero is = cc
        got_at (x ∷ xs) (suc i) is = got_at xs i is

        got : get_or tasks position old ≡ old
        got = got_at tasks position is

-- ---- what the span of a group says

module _ (spans : List Span) (f : Task → ℕ × ℕ) (number : ℕ) where
  -- it has at most as many tasks as the span counts
  few_at : (tasks : List Task) → count_by (λ task. (f task).0 == number) tasks ≤ count_by (is_at_place (place_of number)) (map f tasks)
  few_at [] = omega arith
  few_at (task ∷ tasks) =
      let rest = few_at tasks in
      let cons = sum_by-cons (λ task. cond ((f task).0 == number) 1 0) task tasks in
      let counted = sum_by-cons (λ member. cond (is_at_place (place_of number) member) 1 0) (f task) (map f tasks) in
      elim (cases_Bool ((f task).0 == number)) [
        | inl same ↦
            let one : ◌≡◌ {A = ℕ} (cond ((f task).0 == number) 1 0) 1 = cond-true _ 1 0 same in
            let own : ◌≡◌ {A = ℕ} (cond (is_at_place (place_of number) (f task)) 1 0) 1 =
            cond-true _ 1 0 (eq-eqb (place_of (f task).0) (place_of number) (ap place_of (eqb-true (f task).0 number same))) in
            omega (arith, rest, cons, counted, one, own)
        | inr apart ↦
            let none : ◌≡◌ {A = ℕ} (cond ((f task).0 == number) 1 0) 0 = cond-false _ 1 0 apart in
            omega (arith, rest, cons, counted, none)
      ]

  pub counted_in : (tasks : List Task) → AreSpans spans (map f tasks) → length (filter (λ task. (f task).0 == number) tasks) ≤ (span_at spans (place_of number)).count
  counted_in tasks are = omega (arith, length-filter (λ task. (f task).0 == number) tasks, few_at tasks, are.counts (place_of number))

  -- and none has a lower pid
  pub least_in : (tasks : List Task) → ((task : Task) → (f task).1 ≡ task.spec.pid) →
      AllByRecursion (λ member. (span_at spans (place_of member.0)).least ≤ member.1) (map f tasks) →
      AllByRecursion (λ task. IsTrue ((f task).0 == number) → (span_at spans (place_of number)).least ≤ task.spec.pid) tasks
  least_in [] pids leasts = tt
  least_in (task ∷ tasks) pids leasts = (
    λ same. omega (arith, pids task, subst (λ n. (span_at spans (place_of n)).least ≤ (f task).1) (eqb-true (f task).0 number same) leasts.0),
    least_in tasks pids leasts.1,
  )

-- of all tasks no least pid is asked
pub least_of_all : (p : Task → Bool) (tasks : List Task) → AllByRecursion (λ task. IsTrue (p task) → 0 ≤ task.spec.pid) tasks
least_of_all p [] = tt
least_of_all p (task ∷ tasks) = (λ passes. omega arith, least_of_all p tasks)

-- ---- a walk that begins at the least pid of a group

-- where a pid stands, or where it would go, those before it are below it
pub at_split : (pid position : ℕ) (tasks : List Task) → IsAt pid position tasks → IsSplit pid pid position tasks
at_split pid position [] at = absurd at
at_split pid zero (task ∷ rest) at = (omega (arith, at.0), subst (λ n. RisesFrom (n + 1) rest) (sym at.0) at.1)
at_split pid (suc position) (task ∷ rest) at = (at.0, at_split pid position rest at.1)

pub gap_split : (pid position : ℕ) (tasks : List Task) → IsGap pid position tasks → IsSplit pid pid position tasks
gap_split pid zero [] gap = tt
gap_split pid zero (task ∷ rest) gap = (omega (arith, gap.0), gap.1)
gap_split pid (suc position) [] gap = absurd gap
gap_split pid (suc position) (task ∷ rest) gap = (gap.0, gap_split pid position rest gap.1)

-- those before it are not of the group
pub filter_from : (p : Task → Bool) (least position : ℕ) (tasks : List Task) → IsSplit least least position tasks →
    AllByRecursion (λ task. IsTrue (p task) → least ≤ task.spec.pid) tasks → filter p (drop position tasks) ≡ filter p tasks
filter_from p least zero tasks split bound = refl
filter_from p least (suc position) [] split bound = absurd split
filter_from p least (suc position) (task ∷ tasks) split bound =
    elim (cases_Bool (p task)) [
      | inl passes ↦ absurd (omega (arith, split.0, bound.0 passes))
      | inr fails ↦ filter_from p least position tasks split.1 bound.1 ∙ sym (cond-false (p task) (task ∷ filter p tasks) (filter p tasks) fails)
    ]

-- a pid below the least leaves none of them out
pub above_below : (p : Task → Bool) (least : ℕ) (tasks : List Task) → AllByRecursion (λ task. IsTrue (p task) → least ≤ task.spec.pid) tasks →
    filter (λ task. p task && nat_lt (least - 1) task.spec.pid) tasks ≡ filter (λ task. p task && nat_lt 0 task.spec.pid) tasks
above_below p least [] bound = refl
above_below p least (task ∷ tasks) bound =
    let head : (p task && nat_lt (least - 1) task.spec.pid) ≡ (p task && nat_lt 0 task.spec.pid) =
    elim (cases_Bool (p task)) [
      | inl passes ↦ rw passes (same_test least task.spec.pid (bound.0 passes))
      | inr fails ↦ rw fails refl
    ] in
    let rest = above_below p least tasks bound.1 in
    λ i. cond (head i) (task ∷ rest i) (rest i)
  where
    same_test : (least pid : ℕ) → least ≤ pid → nat_lt (least - 1) pid ≡ nat_lt 0 pid
    same_test zero pid within = refl
    same_test (suc below) pid within =
        ap (λ n. nat_lt n pid) (omega arith) ∙ lt-ltb below pid (omega (arith, within)) ∙ sym (lt-ltb 0 pid (omega (arith, within)))
