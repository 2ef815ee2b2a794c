-- Lives: the tasks with one more among them, with one changed and then gone, and how a core agrees with these.
use Rattle.std.proofs.Common.{◌≢◌, ◌++◌, ◌≡◌, ℕ, ◌+◌, ◌<◌, ◌≤◌, Bool, true, false, cond, List, [], ◌∷◌, map, refl, subst, sym, ap, ◌∙◌, inl, inr, ltb, arith, length, eq-eqb, ne_eqb}
use Rattle.std.specs.Prelude.{All, Option, Some, None, Ok, Err, find, not, ◌&&◌, ◌||◌, ◌==◌, IsTrue}
use Rattle.std.specs.List.{list_any}
use Rattle.std.proofs.lemmas.Bool.{cases_eq, cases_Bool, cond-true, cond-false, eqb-true}
use Rattle.std.proofs.lemmas.Bool.Decides.{nat_tests}
use Rattle.std.proofs.Math.Bool.{and-false}
use Rattle.std.proofs.lemmas.List.Sums.{sum_by-cons, sum_by_push}
use Rattle.cs_types.proofs.Foremost.{find_passes}
use Rattle.std.proofs.lemmas.List.Elements.{All-push, filter_passes, All-head, All-tail, All-filter, All-weaker}
use Rattle.cs_types.specs.declared.task.Task.{Task}
use Rattle.cs_types.specs.declared.queue.Queued.{Queued}
use Rattle.cs_types.specs.Queue.{queued_of}
use Rattle.cs_types.specs.Room.{has_pid, inserted}
use Rattle.cs_types.specs.Step.{may_not_fork}
use Rattle.cs_types.proofs.Filtered.{find-filter}
use Rattle.cs_types.proofs.Inserted.{All-inserted, find-inserted, inserted-first, inserted-past}
use Rattle.cs_laws.proofs.Spots.{replaced_by}
use Rattle.task_table.specs.Table.{Table, total_among, Rises, RisesFrom, IsSound as IsTable}
use Rattle.task_table.proofs.Rising.{weaker, above_all, find_again}
use Rattle.fork_inherit.specs.Answers.{fork_answer}
use Rattle.fork_inherit.specs.declared.forking.ForkFault.TheVariants.{Eagain}
use Rattle.core_lanes.specs.declared.queue.SiblingQueue.{Ghosts}
use Rattle.core_lanes.specs.declared.lanes.Core.{Core}
use Rattle.core_lanes.specs.Queued.{queued_among, queued_at, IsOf, AreStamped}
use Rattle.core_lanes.specs.Lanes.{IsFit, Agree}
use Rattle.core_lanes.proofs.Stays.{found_in}
use Rattle.core_lanes.proofs.Queues.{others-absent, off_asleep, is_on, but, own_pid, queued_at-but}
use Rattle.core_tasks.specs.State.{IsGiven, IsGone}

-- ---- a task that is changed, and then gone

-- What is asked of the others alone is answered as before.
pub any-changed : (task : Task) (p : Task → Bool) (tasks : List Task) →
    list_any (λ other. p other && not (has_pid task.spec.pid other)) (map (replaced_by task) tasks)
    ≡ list_any (λ other. p other && not (has_pid task.spec.pid other)) tasks
any-changed task p [] = refl
any-changed task p (first ∷ rest) =
    let more = any-changed task p rest in
    elim (cases_Bool (has_pid task.spec.pid first)) [
      | inl is ↦ rw (is, own_pid task, and-false (p task), and-false (p first)) more
      | inr is ↦ rw (is, is) (ap (λ b. (p first && true) || b) more)
    ]

-- Each that is left was there.
was_there : (pid : ℕ) (tasks : List Task) (task : Task) → Rises tasks → IsOf (but pid tasks) task → IsOf tasks task
was_there pid tasks task rises now =
    find_again (λ other. not (has_pid pid other) && has_pid task.spec.pid other) 0 tasks task rises
    (sym (find-filter (λ other. not (has_pid pid other)) (has_pid task.spec.pid) tasks) ∙ now)

-- A core agrees with a table without a task that was asleep.
pub agree-but : {Q : Type 0} {g : Ghosts Q} (core : Core Q g) (table : Table) (task : Task) (totals : List (ℕ × ℕ)) → IsOf table.tasks task → task.queued ≡ false →
    IsTable (record table { tasks = but task.spec.pid table.tasks; totals = totals }) → Agree (core, table) →
    Agree (core, record table { tasks = but task.spec.pid table.tasks; totals = totals })
agree-but {Q} {g} core table task totals there asleep sound agree =
    let pid = task.spec.pid in
    let rises = agree.table.rising in
    let left = λ (other : Task). not (has_pid pid other) in
    record {
      table = sound;
      few_tasks = agree.few_tasks;
      tasks = All-filter left (IsFit (length core.lanes.items)) table.tasks agree.tasks;
      stamped = record {
        below = All-filter left (λ (t : Task). IsTrue t.queued → t.stamp < core.next_stamp) table.tasks agree.stamped.below;
        distinct = λ one now queued other now_other queued_other same.
            agree.stamped.distinct one (was_there pid table.tasks one rises now) queued other (was_there pid table.tasks other rises now_other) queued_other same;
      };
      held = λ cpu queue at.
          subst (λ qs. g.holds queue table.limit qs)
          (sym (queued_at-but pid cpu table.tasks ∙ others-absent pid cpu table.tasks task rises there (off_asleep task cpu asleep)))
          (agree.held cpu queue at);
    }

-- ---- a task more

-- A pid that no task has is found in none.
pub unused : (pid : ℕ) (tasks : List Task) → All (λ task. task.spec.pid ≢ pid) tasks → find (has_pid pid) tasks ≡ None
unused pid [] all = refl
unused pid (first ∷ rest) all =
    cond-false (has_pid pid first) _ _ (ne_eqb _ _ (All-head (λ (task : Task). task.spec.pid ≢ pid) first rest all))
    ∙ unused pid rest (All-tail (λ (task : Task). task.spec.pid ≢ pid) first rest all)

-- No task has the next pid.
pub next_is_unused : (next : ℕ) (tasks : List Task) → All (λ task. IsGiven next task.spec.pid) tasks → find (has_pid next) tasks ≡ None
next_is_unused next tasks all =
    unused next tasks (All-weaker (λ (task : Task). IsGiven next task.spec.pid) (λ (task : Task). task.spec.pid ≢ next) (λ task given same. omega (arith, same, given.1)) tasks all)

module _ (child : Task) (asleep : child.queued ≡ false) where
  -- One more that is asleep is on no queue.
  queued_at-inserted : (cpu low : ℕ) (tasks : List Task) → RisesFrom low tasks → find (has_pid child.spec.pid) tasks ≡ None →
      queued_at (inserted child tasks) cpu ≡ queued_at tasks cpu
  queued_at-inserted cpu low [] rises none = ap (λ b. map queued_of (cond b (child ∷ []) [])) (off_asleep child cpu asleep)
  queued_at-inserted cpu low (task ∷ tasks) rises none =
      elim (cases_Bool (has_pid child.spec.pid task)) [
        | inl same ↦ let some = sym (cond-true _ (Some task) (find (has_pid child.spec.pid) tasks) same) ∙ none in absurd cc
        | inr other ↦ elim (cases_Bool (ltb task.spec.pid child.spec.pid)) [
          | inl smaller ↦
              let rest = queued_at-inserted cpu (task.spec.pid + 1) tasks rises.1 (sym (cond-false _ (Some task) (find (has_pid child.spec.pid) tasks) other) ∙ none) in
              ap (λ (ts : List Task). queued_at ts cpu) (inserted-past child task tasks (grind (arith, nat_tests)))
              ∙ (elim (is_on cpu task) as (λ b. map queued_of (cond b (task ∷ queued_among (inserted child tasks) cpu) (queued_among (inserted child tasks) cpu))
              ≡ map queued_of (cond b (task ∷ queued_among tasks cpu) (queued_among tasks cpu))) [
                | true ↦ ap (λ (qs : List Queued). queued_of task ∷ qs) rest
                | false ↦ rest
              ])
          | inr greater ↦
              let above : child.spec.pid < task.spec.pid = grind (arith, nat_tests) in
              let all : RisesFrom (child.spec.pid + 1) (task ∷ tasks) = (omega (arith, above), rises.1) in
              ap (λ (ts : List Task). queued_at ts cpu)
              (inserted-first child (task ∷ tasks)
              (weaker (λ (t : Task). child.spec.pid + 1 ≤ t.spec.pid) (λ (t : Task). child.spec.pid < t.spec.pid) (λ t least. omega (arith, least)) (task ∷ tasks)
              (above_all (child.spec.pid + 1) (task ∷ tasks) all)))
              ∙ ap (λ b. map queued_of (cond b (child ∷ queued_among (task ∷ tasks) cpu) (queued_among (task ∷ tasks) cpu))) (off_asleep child cpu asleep)
        ]
      ]

  -- Each other was there, so those that are queued were.
  was_queued : (tasks : List Task) (task : Task) → IsOf (inserted child tasks) task → IsTrue task.queued → IsOf tasks task
  was_queued tasks task now queued =
      let found = sym (find-inserted child tasks task.spec.pid) ∙ now in
      elim (cases_Bool (task.spec.pid == child.spec.pid)) [
        | inl same ↦
            let is : Some child ≡ Some task = sym (cond-true _ (Some child) (find (has_pid task.spec.pid) tasks) same) ∙ found in
            let one : child ≡ task = cc in
            let awake : child.queued ≡ true = ap (λ (t : Task). t.queued) one ∙ queued in
            absurd cc
        | inr other ↦ sym (cond-false _ (Some child) (find (has_pid task.spec.pid) tasks) other) ∙ found
      ]

  stamped-inserted : (next : ℕ) (tasks : List Task) → AreStamped next tasks → AreStamped next (inserted child tasks)
  stamped-inserted next tasks stamped = record {
    below = All-inserted (λ (t : Task). IsTrue t.queued → t.stamp < next) child tasks (λ queued. absurd cc) stamped.below;
    distinct = λ one now queued other now_other queued_other same.
        stamped.distinct one (was_queued tasks one now queued) queued other (was_queued tasks other now_other queued_other) queued_other same;
  }

-- A core agrees with a table with a task more, which is asleep.
pub agree-inserted : {Q : Type 0} {g : Ghosts Q} (core : Core Q g) (table more : Table) (child : Task) →
    more ≡ record table { tasks = inserted child table.tasks; totals = more.totals } → find (has_pid child.spec.pid) table.tasks ≡ None →
    child.queued ≡ false → IsFit (length core.lanes.items) child → IsTable more → Agree (core, table) → Agree (core, more)
agree-inserted {Q} {g} core table more child is none asleep fit sound agree =
    subst (λ (t : Table). Agree (core, t)) (sym is) (record {
      table = subst IsTable is sound;
      few_tasks = agree.few_tasks;
      tasks = All-inserted (IsFit (length core.lanes.items)) child table.tasks fit agree.tasks;
      stamped = stamped-inserted child asleep core.next_stamp table.tasks agree.stamped;
      held = λ cpu queue at.
          subst (λ qs. g.holds queue table.limit qs) (sym (queued_at-inserted child asleep cpu 0 table.tasks agree.table.rising none))
          (agree.held cpu queue at);
    })

-- ---- the tasks that ended

-- a living task is not among them
pub total-living : (next pid : ℕ) (tasks : List Task) (task : Task) (all ended : List (ℕ × ℕ)) → find (has_pid pid) tasks ≡ Some task →
    All (IsGone next tasks all) ended → total_among ended pid ≡ 0
total-living next pid tasks task all [] there gone = refl
total-living next pid tasks task all (one ∷ ended) there gone =
    let first = All-head (IsGone next tasks all) one ended gone in
    let own : task.spec.pid ≡ pid = eqb-true task.spec.pid pid (find_passes (has_pid pid) tasks task there) in
    let apart = ne_eqb one.0 pid (λ same. found_in (λ (t : Task). t.spec.pid ≢ one.0) pid tasks task first.absent there (own ∙ sym same)) in
    let head : cond (one.0 == pid) one.1 0 ≡ 0 = cond-false (one.0 == pid) one.1 0 apart in
    let rest : total_among ended pid ≡ 0 = total-living next pid tasks task all ended there (All-tail (IsGone next tasks all) one ended gone) in
    omega (arith, sum_by-cons (λ (total : ℕ × ℕ). cond (total.0 == pid) total.1 0) one ended, head, rest)

-- one more has ended
pub gone-push : (next pid total : ℕ) (tasks : List Task) (task : Task) (ended : List (ℕ × ℕ)) → find (has_pid pid) tasks ≡ Some task → pid < next →
    All (IsGone next tasks ended) ended → All (IsGone next (but pid tasks) (ended ++ (pid, total) ∷ [])) (ended ++ (pid, total) ∷ [])
gone-push next pid total tasks task ended there given gone =
    let more = ended ++ (pid, total) ∷ [] in
    let left = λ (other : Task). not (has_pid pid other) in
    let own : task.spec.pid ≡ pid = eqb-true task.spec.pid pid (find_passes (has_pid pid) tasks task there) in
    let total_of = λ (other : ℕ). sum_by_push (λ (total : ℕ × ℕ). cond (total.0 == other) total.1 0) ended (pid, total) in
    All-push (IsGone next (but pid tasks) more) ended (pid, total)
    (All-weaker (IsGone next tasks ended) (IsGone next (but pid tasks) more) (λ one is.
    let apart = ne_eqb pid one.0 (λ same. found_in (λ (t : Task). t.spec.pid ≢ one.0) pid tasks task is.absent there (own ∙ same)) in
    let last : cond (pid == one.0) total 0 ≡ 0 = cond-false (pid == one.0) total 0 apart in
    record {
      given = is.given;
      absent = All-filter left (λ (t : Task). t.spec.pid ≢ one.0) tasks is.absent;
      alone = omega (arith, total_of one.0, last, is.alone);
    }) ended gone)
    (let last : cond (pid == pid) total 0 ≡ total = cond-true (pid == pid) total 0 (eq-eqb pid pid refl) in
    record {
      given = given;
      absent = but-absent pid tasks;
      alone = omega (arith, total_of pid, last, total-living next pid tasks task ended ended there gone);
    }) where
      but-absent : (pid : ℕ) (tasks : List Task) → All (λ (t : Task). t.spec.pid ≢ pid) (but pid tasks)
      but-absent pid tasks =
          All-weaker (λ (t : Task). not (has_pid pid t) ≡ true) (λ (t : Task). t.spec.pid ≢ pid)
          (λ t other same. let is = eq-eqb t.spec.pid pid same in absurd cc) (but pid tasks) (filter_passes (λ t. not (has_pid pid t)) tasks)

-- what a task was charged is the same, once it is not the table's but that of one that ended
pub total-moved : (before after : ℕ → ℕ) (pid total : ℕ) (ended : List (ℕ × ℕ)) → ((other : ℕ) → after other ≡ cond (other == pid) 0 (before other)) → total ≡ before pid →
    (other : ℕ) → after other + total_among (ended ++ (pid, total) ∷ []) other ≡ before other + total_among ended other
total-moved before after pid total ended moved is other =
    let more = sum_by_push (λ (total : ℕ × ℕ). cond (total.0 == other) total.1 0) ended (pid, total) in
    elim (cases_eq other pid) [
      | inl same ↦
          let gone : after other ≡ 0 = moved other ∙ cond-true _ 0 (before other) (eq-eqb other pid same) in
          let last : cond (pid == other) total 0 ≡ before other = cond-true _ total 0 (eq-eqb pid other (sym same)) ∙ is ∙ ap before (sym same) in
          omega (arith, gone, more, last)
      | inr apart ↦
          let stays : after other ≡ before other = moved other ∙ cond-false _ 0 (before other) (ne_eqb other pid apart) in
          let last : cond (pid == other) total 0 ≡ 0 = cond-false _ total 0 (ne_eqb pid other (λ same. apart (sym same))) in
          omega (arith, stays, more, last)
    ]

-- and a child is none of them
pub gone-inserted : (next : ℕ) (tasks : List Task) (child : Task) (ended : List (ℕ × ℕ)) → child.spec.pid ≡ next →
    All (IsGone next tasks ended) ended → All (IsGone (next + 1) (inserted child tasks) ended) ended
gone-inserted next tasks child ended is =
    All-weaker (IsGone next tasks ended) (IsGone (next + 1) (inserted child tasks) ended)
    (λ one gone. record {
      given = omega (arith, gone.given);
      absent = All-inserted (λ (t : Task). t.spec.pid ≢ one.0) child tasks (λ same. omega (arith, is, same, gone.given)) gone.absent;
      alone = gone.alone;
    }) ended

-- ---- the child of a fork

-- where a child is made, the caller was found, and there was a place left
pub caller_of : (table : Table) (found : Option Task) → fork_answer table found ≡ Ok tt → (by : Task) × (found ≡ Some by) × (may_not_fork table.limit table.tasks by ≡ false)
caller_of table None made = absurd cc
caller_of table (Some by) made = (
  by,
  refl,
  elim (cases_Bool (may_not_fork table.limit table.tasks by)) [
    | inl refused ↦ let bad : Err Eagain ≡ Ok tt = sym (cond-true _ _ _ refused) ∙ made in absurd cc
    | inr allowed ↦ allowed
  ],
)
