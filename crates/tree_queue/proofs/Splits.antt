-- Splits: a list of tasks and the same without one of them.
use Rattle.std.proofs.Common.{◌≡◌, ℕ, ◌+◌, ◌≤◌, Bool, true, false, cond, not, List, [], ◌∷◌, ◌++◌, map, length, length-append, sym, ap, ◌∙◌, subst, Some, inl, inr, arith}
use Rattle.std.specs.Prelude.{◌==◌, ◌&&◌, find, filter, All, Contains}
use Rattle.std.specs.List.{AllByRecursion}
use Rattle.std.proofs.lemmas.Bool.{cases_Bool, cond-true, cond-false, eqb-true, eqb-false, eq-eqb, and_parts, not-true}
use Rattle.std.proofs.lemmas.List.Elements.{filter-append, recursion_from_All, All-weaker, All-contains_itself}
use Rattle.std.proofs.lemmas.List.{length-map}
use Rattle.std.proofs.lemmas.List.Sums.{length-filter, count_by-le-length}
use Rattle.std.proofs.ByRecursion.{all_kept_by, kept_by_passes}
use Rattle.cs_types.proofs.Lists.{all_map, each_both}
use Rattle.core_lanes.proofs.Lists.{filter-map, filter-filter}
use Rattle.cs_types.specs.declared.task.Task.{Task}
use Rattle.cs_types.specs.declared.queue.Queued.{Queued}
use Rattle.cs_types.specs.Queue.{queued_of}
use Rattle.cs_types.specs.Room.{has_pid}
use Rattle.task_table.specs.Table.{Rises, RisesFrom}
use Rattle.core_lanes.specs.Queued.{queued_among, queued_at, others, IsOf, HasOwnStamp}
use Rattle.core_lanes.proofs.Queues.{is_on, is_of, others_none}
use Rattle.tree_queue.specs.Held.{AreApart, AreDistinct}

-- the first list is the second with this one among it
pub record IsSplit (task : Queued) (all rest : List Queued) : Type 0 where
  pub before : List Queued
  pub after : List Queued
  pub whole : all ≡ before ++ task ∷ after
  pub left : rest ≡ before ++ after

-- and the others are apart from this one
pub record IsParted (task : Queued) (all rest : List Queued) : Type 0 where
  pub split : IsSplit task all rest
  pub apart : AllByRecursion (AreApart task) rest

-- it has one more
pub length-split : {task : Queued} {all rest : List Queued} → IsSplit task all rest → length all ≡ length rest + 1
length-split {task} split =
    let whole = ap length split.whole ∙ length-append split.before (task ∷ split.after) in
    let left = ap length split.left ∙ length-append split.before split.after in
    omega arith

-- ---- what holds of each

all_out : (P : Queued → Type 0) (before after : List Queued) (task : Queued) → AllByRecursion P (before ++ task ∷ after) → P task × AllByRecursion P (before ++ after)
all_out P [] after task all = all
all_out P (first ∷ before) after task all = let rest = all_out P before after task all.1 in (rest.0, (all.0, rest.1))

all_in : (P : Queued → Type 0) (before after : List Queued) (task : Queued) → P task → AllByRecursion P (before ++ after) → AllByRecursion P (before ++ task ∷ after)
all_in P [] after task here all = (here, all)
all_in P (first ∷ before) after task here all = (all.0, all_in P before after task here all.1)

turned : (a b : Queued) → AreApart a b → AreApart b a
turned a b apart = (λ same. apart.0 (sym same), λ same. apart.1 (sym same))

pub distinct_out : (before after : List Queued) (task : Queued) → AreDistinct (before ++ task ∷ after) →
    AllByRecursion (AreApart task) (before ++ after) × AreDistinct (before ++ after)
distinct_out [] after task distinct = distinct
distinct_out (first ∷ before) after task distinct =
    let others = all_out (AreApart first) before after task distinct.0 in
    let rest = distinct_out before after task distinct.1 in
    ((turned first task others.0, rest.0), (others.1, rest.1))

pub distinct_in : (before after : List Queued) (task : Queued) → AllByRecursion (AreApart task) (before ++ after) → AreDistinct (before ++ after) →
    AreDistinct (before ++ task ∷ after)
distinct_in [] after task apart distinct = (apart, distinct)
distinct_in (first ∷ before) after task apart distinct =
    (all_in (AreApart first) before after task (turned task first apart.0) distinct.0, distinct_in before after task apart.1 distinct.1)

-- a task is apart from the others where no two are one
pub parted_by : {task : Queued} {all rest : List Queued} → IsSplit task all rest → AreDistinct all → IsParted task all rest
parted_by {task} split distinct = record {
  split = split;
  apart = subst (AllByRecursion (AreApart task)) (sym split.left) (distinct_out split.before split.after task (subst AreDistinct split.whole distinct)).0;
}

-- ---- of those that pass a test

pub parted-pass : {task : Queued} {all rest : List Queued} (p : Queued → Bool) → IsParted task all rest → p task ≡ true → IsParted task (filter p all) (filter p rest)
parted-pass {task} {rest = rest} p parted pass =
    let front = parted.split.before in
    let back = parted.split.after in
    record {
      split = record {
        before = filter p front;
        after = filter p back;
        whole = ap (filter p) parted.split.whole
            ∙ filter-append p front (task ∷ back)
            ∙ ap (λ (ts : List Queued). filter p front ++ ts) (cond-true _ (task ∷ filter p back) (filter p back) pass);
        left = ap (filter p) parted.split.left ∙ filter-append p front back;
      };
      apart = all_kept_by p (AreApart task) rest parted.apart;
    }

pub split-fail : {task : Queued} {all rest : List Queued} (p : Queued → Bool) → IsSplit task all rest → p task ≡ false → filter p all ≡ filter p rest
split-fail {task} p split fail =
    ap (filter p) split.whole
    ∙ filter-append p split.before (task ∷ split.after)
    ∙ ap (λ (ts : List Queued). filter p split.before ++ ts) (cond-false _ (task ∷ filter p split.after) (filter p split.after) fail)
    ∙ sym (ap (filter p) split.left ∙ filter-append p split.before split.after)

-- ---- the tasks of a sibling

-- a queued task is one among the others there
splits : (cpu : ℕ) (task : Task) (low : ℕ) (tasks : List Task) → RisesFrom low tasks → find (has_pid task.spec.pid) tasks ≡ Some task → is_on cpu task ≡ true →
    IsSplit (queued_of task) (queued_at tasks cpu) (others task.spec.pid (queued_at tasks cpu))
splits cpu task low [] rises there on = absurd cc
splits cpu task low (first ∷ tasks) rises there on =
    let pid = task.spec.pid in
    elim (cases_Bool (has_pid pid first)) [
      | inl here ↦
          let same : Some first ≡ Some task = sym (cond-true _ (Some first) (find (has_pid pid) tasks) here) ∙ there in
          let is : first ≡ task = cc in
          let on_first : is_on cpu first ≡ true = ap (is_on cpu) is ∙ on in
          let at : first.spec.pid ≡ pid = eqb-true first.spec.pid pid here in
          let none = others_none pid cpu tasks (first.spec.pid + 1) (omega (arith, at)) rises.1 in
          let whole : queued_at (first ∷ tasks) cpu ≡ queued_of first ∷ queued_at tasks cpu =
          ap (map queued_of) (cond-true _ (first ∷ queued_among tasks cpu) (queued_among tasks cpu) on_first) in
          record {
            before = [];
            after = queued_at tasks cpu;
            whole = whole ∙ ap (λ (t : Task). queued_of t ∷ queued_at tasks cpu) is;
            left = ap (others pid) whole
                ∙ cond-false _ (queued_of first ∷ others pid (queued_at tasks cpu)) (others pid (queued_at tasks cpu)) (ap not here)
                ∙ none;
          }
      | inr past ↦
          let rest = splits cpu task (first.spec.pid + 1) tasks rises.1 (sym (cond-false _ (Some first) (find (has_pid pid) tasks) past) ∙ there) on in
          elim (is_on cpu first) as (λ b.
          IsSplit (queued_of task) (map queued_of (cond b (first ∷ queued_among tasks cpu) (queued_among tasks cpu)))
          (others pid (map queued_of (cond b (first ∷ queued_among tasks cpu) (queued_among tasks cpu))))) [
            | true ↦ record {
              before = queued_of first ∷ rest.before;
              after = rest.after;
              whole = ap (λ (ts : List Queued). queued_of first ∷ ts) rest.whole;
              left = cond-true _ (queued_of first ∷ others pid (queued_at tasks cpu)) (others pid (queued_at tasks cpu)) (ap not past)
                  ∙ ap (λ (ts : List Queued). queued_of first ∷ ts) rest.left;
            }
            | false ↦ rest
          ]
    ]

pub split_at : (tasks : List Task) (task : Task) (cpu : ℕ) → Rises tasks → IsOf tasks task → task.queued ≡ true → task.home ≡ cpu →
    IsSplit (queued_of task) (queued_at tasks cpu) (others task.spec.pid (queued_at tasks cpu))
split_at tasks task cpu rises there queued home =
    splits cpu task 0 tasks rises there (ap (λ b. b && (task.home == cpu)) queued ∙ eq-eqb task.home cpu home)

-- there are no more of them than in the table
pub few_queued : (tasks : List Task) (cpu : ℕ) → length (queued_at tasks cpu) ≤ length tasks
few_queued tasks cpu =
    let same = length-map (queued_among tasks cpu) queued_of ∙ length-filter (is_on cpu) tasks in
    let few = count_by-le-length (is_on cpu) tasks in
    omega arith

-- each task of a table is found by its pid
pub each_is_of : (tasks : List Task) → Rises tasks → All (IsOf tasks) tasks
each_is_of tasks rises = All-weaker (Contains tasks) (IsOf tasks) (λ task there. is_of tasks task rises there) tasks (All-contains_itself tasks)

-- the others there are apart from a task that has a stamp of its own
pub others_apart : (tasks : List Task) (task : Task) (cpu : ℕ) → Rises tasks → HasOwnStamp tasks task →
    AllByRecursion (AreApart (queued_of task)) (others task.spec.pid (queued_at tasks cpu))
others_apart tasks task cpu rises own =
    let pid = task.spec.pid in
    let other : Task → Bool = λ t. is_on cpu t && not (has_pid pid t) in
    let kept = filter-map queued_of (λ (q : Queued). not (q.pid == pid)) (queued_among tasks cpu) ∙ ap (map queued_of) (filter-filter (is_on cpu) (λ t. not (has_pid pid t)) tasks) in
    subst (AllByRecursion (AreApart (queued_of task))) (sym kept)
    (all_map (AreApart (queued_of task)) queued_of (filter other tasks)
    (each_both (IsOf tasks) (λ t. other t ≡ true) (λ t. AreApart (queued_of task) (queued_of t)) (filter other tasks) (λ t there passes.
    let parts = and_parts (is_on cpu t) (not (has_pid pid t)) passes in
    let differs = eqb-false t.spec.pid pid (not-true (has_pid pid t) parts.1) in
    (λ same. differs (sym same), λ same. differs (own t there (and_parts t.queued (t.home == cpu) parts.0).0 (sym same))))
    (all_kept_by other (IsOf tasks) tasks (recursion_from_All (IsOf tasks) tasks (each_is_of tasks rises)))
    (kept_by_passes other tasks)))
