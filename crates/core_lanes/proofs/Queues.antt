-- Queues: what the queues hold once a task has left one, and once it has entered one.
use Rattle.std.proofs.Common.{◌≡◌, ◌≢◌, ◌⊎◌, inl, inr, ℕ, zero, suc, ◌+◌, ◌<◌, ◌≤◌, Bool, true, false, cond, not, List, [], ◌∷◌, length, map, set, get_or, refl, subst, sym, ap, ◌∙◌, Option, None, Some, arith, filter, All}
use Rattle.std.specs.Prelude.{find, ◌&&◌, ◌==◌, slice_get, Contains, IfSome}
use Rattle.std.specs.Option.{option_map}
use Rattle.std.proofs.lemmas.Bool.{cond-true, cond-false, cases_Bool, eqb-true, ne_eqb, eq-eqb}
use Rattle.cs_types.specs.declared.task.Task.{Task}
use Rattle.cs_types.specs.declared.queue.Queued.{Queued}
use Rattle.cs_types.specs.Queue.{queued_of}
use Rattle.cs_types.specs.Room.{has_pid}
use Rattle.cs_laws.proofs.Spots.{replaced_by}
use Rattle.task_table.specs.Table.{Rises, RisesFrom}
use Rattle.core_lanes.specs.Queued.{queued_among, queued_at, others, IsOf}
use Rattle.std.proofs.lemmas.List.Elements.{filter_agree, All-head, All-tail, All-weaker, All-from_recursion, All-contains_itself}
use Rattle.std.proofs.Math.Bool.{and_comm, and-true}
use Rattle.task_table.proofs.Rising.{above_all}
use Rattle.task_table.proofs.Tables.{filter_alike}
use Rattle.core_lanes.proofs.Lists.{filter-map, filter-filter}

-- whether a task is queued on a sibling
abbrev pub is_on : ℕ → Task → Bool
is_on cpu task = task.queued && (task.home == cpu)

-- each of a rising list is found by its pid
is_of_at : (low : ℕ) (tasks : List Task) (task : Task) → RisesFrom low tasks → (k : ℕ) → k < length tasks → get_or tasks k task ≡ task →
    (find (has_pid task.spec.pid) tasks ≡ Some task) × (low ≤ task.spec.pid)
is_of_at low [] task rises k below is = absurd (omega arith)
is_of_at low (first ∷ tasks) task rises zero below is =
    let pid : first.spec.pid ≡ task.spec.pid = ap (λ (t : Task). t.spec.pid) is in
    (cond-true (first.spec.pid == task.spec.pid) (Some first) (find (has_pid task.spec.pid) tasks) (eq-eqb _ _ pid) ∙ ap Some is, omega (arith, pid, rises.0))
is_of_at low (first ∷ tasks) task rises (suc k) below is =
    let rest = is_of_at (first.spec.pid + 1) tasks task rises.1 k (omega arith) is in
    let above : first.spec.pid + 1 ≤ task.spec.pid = rest.1 in (
      cond-false (first.spec.pid == task.spec.pid) (Some first) (find (has_pid task.spec.pid) tasks) (ne_eqb first.spec.pid task.spec.pid (λ e. omega (arith, e, above))) ∙ rest.0,
      omega (arith, above, rises.0),
    )

pub is_of : (tasks : List Task) (task : Task) → Rises tasks → Contains tasks task → IsOf tasks task
is_of tasks task rises there = (is_of_at 0 tasks task rises there.0 there.1 there.2).0

-- what has no place in a queue, or no pid, is none
pub none_of : {X Y : Type 0} (f : X → Y) (first : Option X) → None ≡ option_map f first → None ≡ first
none_of f None is = refl
none_of f (Some x) is = absurd cc

-- what a queue has of a task is found by its pid
pub found_queued : (tasks : List Task) (queued : Queued) (first : Option Task) → IfSome first (IsOf tasks) → Some queued ≡ option_map queued_of first →
    find (has_pid queued.pid) tasks ≡ first
found_queued tasks queued None there is = absurd cc
found_queued tasks queued (Some task) there is = let same : queued ≡ queued_of task = cc in ap (λ (q : Queued). find (has_pid q.pid) tasks) same ∙ there

-- ---- the others

-- the tasks but for the one with this pid
abbrev pub but : ℕ → List Task → List Task
but pid tasks = filter (λ other. not (has_pid pid other)) tasks

-- a task has its own pid
pub own_pid : (task : Task) → has_pid task.spec.pid task ≡ true
own_pid task = eq-eqb task.spec.pid task.spec.pid refl

-- Of a changed task only its pid counts where it goes.
pub but-changed : (task : Task) (tasks : List Task) → but task.spec.pid (map (replaced_by task) tasks) ≡ but task.spec.pid tasks
but-changed task [] = refl
but-changed task (first ∷ rest) =
    let more = but-changed task rest in
    elim (cases_Bool (has_pid task.spec.pid first)) [
      | inl is ↦ rw (is, own_pid task) more
      | inr is ↦ rw (is, is) (ap (λ (ts : List Task). first ∷ ts) more)
    ]

module _ (pid cpu : ℕ) (tasks : List Task) where
  -- A queue has the others where the table has.
  pub queued_at-but : queued_at (but pid tasks) cpu ≡ others pid (queued_at tasks cpu)
  queued_at-but =
      let left : Task → Bool = λ task. not (has_pid pid task) in
      ap (map queued_of) (filter-filter left (is_on cpu) tasks
      ∙ filter_agree (λ task. left task && is_on cpu task) (λ task. is_on cpu task && left task) (λ task. and_comm (left task) (is_on cpu task)) tasks
      ∙ sym (filter-filter (is_on cpu) left tasks))
      ∙ sym (filter-map queued_of (λ (queued : Queued). not (queued.pid == pid)) (queued_among tasks cpu))

  -- where no task of a queue has the pid, all are others
  others_all : All (λ task. (is_on cpu task && not (has_pid pid task)) ≡ is_on cpu task) tasks → others pid (queued_at tasks cpu) ≡ queued_at tasks cpu
  others_all each =
      filter-map queued_of (λ (queued : Queued). not (queued.pid == pid)) (queued_among tasks cpu)
      ∙ ap (map queued_of) (filter-filter (is_on cpu) (λ task. not (has_pid pid task)) tasks
      ∙ filter_alike (λ task. is_on cpu task && not (has_pid pid task)) (is_on cpu) tasks each)

  -- one with another pid is there as before
  other : (task : Task) → has_pid pid task ≡ false → (is_on cpu task && not (has_pid pid task)) ≡ is_on cpu task
  other task past = ap (λ b. is_on cpu task && not b) past ∙ and-true (is_on cpu task)

  -- as where each has a higher one
  pub others_none : (low : ℕ) → pid < low → RisesFrom low tasks → others pid (queued_at tasks cpu) ≡ queued_at tasks cpu
  others_none low below rises =
      others_all (All-weaker (λ task. low ≤ task.spec.pid) (λ task. (is_on cpu task && not (has_pid pid task)) ≡ is_on cpu task)
      (λ task above. other task (ne_eqb task.spec.pid pid (λ same. omega (arith, same, below, above)))) tasks
      (All-from_recursion (λ task. low ≤ task.spec.pid) tasks (above_all low tasks rises)))

  -- or where the one with it is not queued on the sibling
  pub others-absent : (task : Task) → Rises tasks → find (has_pid pid) tasks ≡ Some task → is_on cpu task ≡ false → others pid (queued_at tasks cpu) ≡ queued_at tasks cpu
  others-absent task rises found off =
      others_all (All-weaker (Contains tasks) (λ one. (is_on cpu one && not (has_pid pid one)) ≡ is_on cpu one)
      (λ one within. each one (is_of tasks one rises within)) tasks (All-contains_itself tasks)) where
        each : (one : Task) → IsOf tasks one → (is_on cpu one && not (has_pid pid one)) ≡ is_on cpu one
        each one there =
            elim (cases_Bool (has_pid pid one)) [
              | inl here ↦
                  let same : Some one ≡ Some task = sym there ∙ ap (λ n. find (has_pid n) tasks) (eqb-true one.spec.pid pid here) ∙ found in
                  let is : one ≡ task = cc in
                  let gone : is_on cpu one ≡ false = ap (is_on cpu) is ∙ off in
                  (λ i. gone i && not (has_pid pid one)) ∙ sym gone
              | inr past ↦ other one past
            ]

-- The others stay where the task with the pid is replaced.
pub others-replaced : (task : Task) (tasks : List Task) (cpu : ℕ) →
    others task.spec.pid (queued_at (map (replaced_by task) tasks) cpu) ≡ others task.spec.pid (queued_at tasks cpu)
others-replaced task tasks cpu =
    sym (queued_at-but task.spec.pid cpu (map (replaced_by task) tasks)) ∙ ap (λ (ts : List Task). queued_at ts cpu) (but-changed task tasks)
    ∙ queued_at-but task.spec.pid cpu tasks

-- A queue holds the same after a change that it does not see.
pub queued_at-map : (f : Task → Task) (tasks : List Task) (cpu : ℕ) → All (λ task. (is_on cpu (f task) ≡ is_on cpu task) × (queued_of (f task) ≡ queued_of task)) tasks →
    queued_at (map f tasks) cpu ≡ queued_at tasks cpu
queued_at-map f [] cpu each = refl
queued_at-map f (task ∷ tasks) cpu each =
    let Same : Task → Type 0 = λ task. (is_on cpu (f task) ≡ is_on cpu task) × (queued_of (f task) ≡ queued_of task) in
    let here = All-head Same task tasks each in
    let rest = queued_at-map f tasks cpu (All-tail Same task tasks each) in
    let now = queued_among (map f tasks) cpu in
    (λ i. map queued_of (cond (here.0 i) (f task ∷ now) now))
    ∙ (elim (is_on cpu task) as (λ b. map queued_of (cond b (f task ∷ now) now) ≡ map queued_of (cond b (task ∷ queued_among tasks cpu) (queued_among tasks cpu))) [
      | true ↦ λ i. here.1 i ∷ rest i
      | false ↦ rest
    ])

-- ---- the queues

pub slice_get-set : {X : Type 0} (xs : List X) (i k : ℕ) (x y : X) → slice_get (set xs i x) k ≡ Some y →
    ((k ≡ i) × (y ≡ x)) ⊎ ((k ≢ i) × (slice_get xs k ≡ Some y))
slice_get-set [] i k x y at = absurd cc
slice_get-set (first ∷ xs) zero zero x y at = inl (refl, cc)
slice_get-set (first ∷ xs) zero (suc k) x y at = inr ((λ e. omega (arith, e)), at)
slice_get-set (first ∷ xs) (suc i) zero x y at = inr ((λ e. omega (arith, e)), at)
slice_get-set (first ∷ xs) (suc i) (suc k) x y at =
    elim (slice_get-set xs i k x y at) [
      | inl here ↦ inl (ap suc here.0, here.1)
      | inr there ↦ inr ((λ e. there.0 (omega (arith, e))), there.1)
    ]

-- what a queue holds, of each but one, and of that one
pub held-set : {Q : Type 0} (Before Now : ℕ → Q → Type 0) (queues : List Q) (home : ℕ) (queue : Q) →
    ((cpu : ℕ) (q : Q) → cpu ≢ home → Before cpu q → Now cpu q) → ((cpu : ℕ) (q : Q) → slice_get queues cpu ≡ Some q → Before cpu q) → Now home queue →
    (cpu : ℕ) (q : Q) → slice_get (set queues home queue) cpu ≡ Some q → Now cpu q
held-set Before Now queues home queue elsewhere each here cpu q at =
    elim (slice_get-set queues home cpu queue q at) [
      | inl is ↦ subst (λ n. Now n q) (sym is.0) (subst (λ x. Now home x) (sym is.1) here)
      | inr other ↦ elsewhere cpu q other.0 (each cpu q other.1)
    ]

-- a task is not queued on a sibling that is not its home, nor on any where it is not queued
pub off_elsewhere : (task : Task) (cpu : ℕ) → cpu ≢ task.home → is_on cpu task ≡ false
off_elsewhere task cpu other = elim task.queued as (λ b. (b && (task.home == cpu)) ≡ false) [
  | true ↦ ne_eqb task.home cpu (λ e. other (sym e))
  | false ↦ refl
]

pub off_asleep : (task : Task) (cpu : ℕ) → task.queued ≡ false → is_on cpu task ≡ false
off_asleep task cpu asleep = ap (λ b. b && (task.home == cpu)) asleep
