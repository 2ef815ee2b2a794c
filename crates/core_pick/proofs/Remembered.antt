-- Remembered: the tasks that remember the occupation after a selection, and what stays where they do.
use Rattle.std.proofs.Common.{◌≡◌, ℕ, suc, ◌+◌, ◌<◌, Bool, true, false, cond, List, [], ◌∷◌, ◌++◌, map, length, refl, subst, sym, ap, ◌∙◌, arith, eqb, Option, Some, None}
use Rattle.std.specs.Prelude.{◌==◌, ◌&&◌, ◌||◌, find, IsTrue}
use Rattle.std.specs.List.{list_any, range_with_len}
use Rattle.std.specs.Option.{option_map}
use Rattle.std.proofs.lemmas.Bool.{cond-false}
use Rattle.std.proofs.lemmas.List.{map-id}
use Rattle.std.proofs.lemmas.Bool.Decides.{nat_tests}
use Rattle.std.proofs.lemmas.List.Elements.{All-map, All-weaker}
use Rattle.cs_types.specs.declared.task.Task.{Task}
use Rattle.cs_types.specs.Queue.{queued_of}
use Rattle.cs_types.specs.Room.{RoomState, has_pid, is_online}
use Rattle.cs_types.specs.Selection.{is_run, pid_of, choice, occupation_of, task_after_selection}
use Rattle.cs_types.proofs.Lists.{map-map_alike}
use Rattle.cs_laws.proofs.Spots.{find-map}
use Rattle.cs_laws.proofs.Tasks.{found_again}
use Rattle.task_table.specs.Table.{Table, IsSound as IsTable}
use Rattle.core_lanes.specs.declared.queue.SiblingQueue.{Ghosts}
use Rattle.core_lanes.specs.declared.lanes.Core.{Core}
use Rattle.core_lanes.specs.Queued.{queued_among, queued_at, IsOf, AreStamped}
use Rattle.core_lanes.specs.Lanes.{IsFit, queues_of}
use Rattle.core_lanes.specs.Changes.{Stays, identity_of}
use Rattle.core_lanes.proofs.Lists.{filter-map, any-push, any-filter, range_more}
use Rattle.core_lanes.proofs.Stays.{both_stay, alike_stays}
use Rattle.core_pick.specs.declared.choice.Choice.{Choice}
use Rattle.core_pick.specs.Choice.{run_of, is_choice_of, task_after_choice}
use Rattle.std.proofs.Math.Bool.{or-false}

-- ---- the task that is chosen for a sibling

run_test : (a b : ℕ) → eqb b a ≡ eqb a b
run_test a b = grind (arith, nat_tests)

-- the task with the pid of the choice remembers, and no other does
pub map-task_after_choice : (tasks : List Task) (choice : Choice) (occupation pid : ℕ) → run_of choice ≡ Some pid →
    map (λ (task : Task). cond (has_pid pid task) (record task { occupation = occupation }) task) tasks ≡ map (task_after_choice choice occupation) tasks
map-task_after_choice tasks choice occupation pid run =
    λ i. map (λ (task : Task). cond (same task i) (record task { occupation = occupation }) task) tasks where
      same : (task : Task) → has_pid pid task ≡ is_choice_of task.spec.pid choice
      same task = run_test pid task.spec.pid ∙ sym (ap (λ one. is_run one (Some task.spec.pid)) run)

-- where it is of no task, none remembers
pub map-task_after_choice_none : (tasks : List Task) (choice : Choice) (occupation : ℕ) → ((pid : ℕ) → is_choice_of pid choice ≡ false) →
    tasks ≡ map (task_after_choice choice occupation) tasks
map-task_after_choice_none [] choice occupation none = refl
map-task_after_choice_none (task ∷ tasks) choice occupation none =
    λ i. sym (cond-false _ (record task { occupation = occupation }) task (none task.spec.pid)) i ∷ map-task_after_choice_none tasks choice occupation none i

-- ---- sibling by sibling

-- whether a sibling, which is online, gets the task with this pid
abbrev pub hits : RoomState → ℕ → ℕ → ℕ → Bool
hits room core cpu pid = is_online room cpu && is_run (pid_of (choice room core cpu)) (Some pid)

-- a task once the siblings below a number have their choices, where this says whether a sibling has chosen the task
abbrev pub remembering : (ℕ → ℕ → Bool) → ℕ → ℕ → Task → Task
remembering gets occupation count task =
    record task { occupation = cond (list_any (λ cpu. gets cpu task.spec.pid) (range_with_len 0 count)) occupation task.occupation }

module _ (gets : ℕ → ℕ → Bool) (occupation cpu : ℕ) where
  any_more : (pid : ℕ) → list_any (λ n. gets n pid) (range_with_len 0 (cpu + 1)) ≡ (list_any (λ n. gets n pid) (range_with_len 0 cpu) || gets cpu pid)
  any_more pid =
      let next : cpu + 1 ≡ suc cpu = omega arith in
      let last : 0 + cpu ≡ cpu = omega arith in
      ap (λ n. list_any (λ n. gets n pid) (range_with_len 0 n)) next
      ∙ ap (list_any (λ n. gets n pid)) (range_more 0 cpu ∙ ap (λ n. range_with_len 0 cpu ++ n ∷ []) last) ∙ any-push (λ n. gets n pid) (range_with_len 0 cpu) cpu

  -- one sibling more has its choice
  pub map-remembering_more : (choice : Choice) → ((pid : ℕ) → is_choice_of pid choice ≡ gets cpu pid) → (tasks : List Task) →
      map (task_after_choice choice occupation) (map (remembering gets occupation cpu) tasks) ≡ map (remembering gets occupation (cpu + 1)) tasks
  map-remembering_more choice same [] = refl
  map-remembering_more choice same (task ∷ tasks) =
      let pid = task.spec.pid in
      let one = by_tests task (list_any (λ n. gets n pid) (range_with_len 0 cpu)) (is_choice_of pid choice)
      ∙ ap (λ b. record task { occupation = cond b occupation task.occupation }) (ap (λ b. list_any (λ n. gets n pid) (range_with_len 0 cpu) || b) (same pid) ∙ sym (any_more pid)) in
      λ i. one i ∷ map-remembering_more choice same tasks i where
        by_tests : (t : Task) (a b : Bool) → cond b (record t { occupation = occupation }) (record t { occupation = cond a occupation t.occupation })
            ≡ record t { occupation = cond (a || b) occupation t.occupation }
        by_tests t true true = refl
        by_tests t true false = refl
        by_tests t false true = refl
        by_tests t false false = refl

  -- or is offline
  pub map-remembering_same : ((pid : ℕ) → gets cpu pid ≡ false) → (tasks : List Task) → map (remembering gets occupation cpu) tasks ≡ map (remembering gets occupation (cpu + 1)) tasks
  map-remembering_same none [] = refl
  map-remembering_same none (task ∷ tasks) =
      let pid = task.spec.pid in
      let one = ap (λ b. record task { occupation = cond b occupation task.occupation }) (sym (or-false (list_any (λ n. gets n pid) (range_with_len 0 cpu))) ∙ ap (λ b. list_any (λ n. gets n pid) (range_with_len 0 cpu) || b) (sym (none pid)) ∙ sym (any_more pid)) in
      λ i. one i ∷ map-remembering_same none tasks i

-- at the start none remembers
pub map-remembering_none : (gets : ℕ → ℕ → Bool) (occupation : ℕ) (tasks : List Task) → tasks ≡ map (remembering gets occupation 0) tasks
map-remembering_none gets occupation tasks = sym (map-id tasks)

-- at the end the chosen ones do
pub map-remembering_all : (room : RoomState) (core occupation : ℕ) (tasks : List Task) → occupation ≡ occupation_of room core →
    map (remembering (hits room core) occupation (length room.siblings)) tasks ≡ map (task_after_selection room core) tasks
map-remembering_all room core occupation tasks same =
    λ i. map (λ (task : Task). record task { occupation = cond (sym (any-filter (λ cpu. is_run (pid_of (choice room core cpu)) (Some task.spec.pid)) (is_online room) (range_with_len 0 (length room.siblings))) i) (same i) task.occupation }) tasks

-- ---- what stays

module _ (occupation : Task → ℕ) (tasks : List Task) where
  -- a task once it remembers
  abbrev after : Task → Task
  after task = record task { occupation = occupation task }

  -- the tasks once they remember
  abbrev now : List Task
  now = map after tasks

  -- each was there, the same but for what it remembers
  was_there : (task : Task) → IsOf now task → (old : Task) × (IsOf tasks old) × (after old ≡ task)
  was_there task is =
      by_found (find (has_pid task.spec.pid) tasks) refl (sym (find-map after (λ t. refl) task.spec.pid tasks) ∙ is) where
        by_found : (found : Option Task) → find (has_pid task.spec.pid) tasks ≡ found → option_map after found ≡ Some task →
            (old : Task) × (IsOf tasks old) × (after old ≡ task)
        by_found None there some = absurd cc
        by_found (Some old) there some = (old, found_again task.spec.pid tasks old there, cc)

  -- so the queues hold the same
  pub queued_at-remembered : (cpu : ℕ) → queued_at now cpu ≡ queued_at tasks cpu
  queued_at-remembered cpu =
      ap (map queued_of) (filter-map after (λ task. task.queued && (task.home == cpu)) tasks)
      ∙ map-map_alike queued_of after (λ task. refl) (queued_among tasks cpu)

  stamped-remembered : (next : ℕ) → AreStamped next tasks → AreStamped next now
  stamped-remembered next stamped = record {
    below = All-map (λ (t : Task). IsTrue t.queued → t.stamp < next) after tasks stamped.below;
    distinct = λ one is queued other is_other queued_other same.
        let first = was_there one is in
        let second = was_there other is_other in
        ap (λ (t : Task). t.spec.pid) (sym second.2)
        ∙ stamped.distinct first.0 first.1 (subst (λ (t : Task). IsTrue t.queued) (sym first.2) queued) second.0 second.1
        (subst (λ (t : Task). IsTrue t.queued) (sym second.2) queued_other) (ap (λ (t : Task). t.stamp) second.2 ∙ same ∙ ap (λ (t : Task). t.stamp) (sym first.2))
        ∙ ap (λ (t : Task). t.spec.pid) first.2;
  }

  -- A core and its table agree still.
  remembered_stays : {Q : Type 0} {g : Ghosts Q} (core : Core Q g) (totals : List (ℕ × ℕ)) (limit : ℕ) →
      IsTable (record { tasks = now; totals = totals; limit = limit }) →
      Stays (core, record { tasks = tasks; totals = totals; limit = limit }) (core, record { tasks = now; totals = totals; limit = limit })
  remembered_stays {Q} {g} core totals limit sound = record {
    agree = λ agree. record {
      table = sound;
      few_tasks = agree.few_tasks;
      tasks = All-map (IsFit (length core.lanes.items)) after tasks
          (All-weaker (IsFit (length core.lanes.items)) (λ (t : Task). IsFit (length core.lanes.items) (after t))
          (λ t fit. record { home = fit.home; policy = fit.policy }) tasks agree.tasks);
      stamped = stamped-remembered core.next_stamp agree.stamped;
      held = λ cpu queue at. subst (λ qs. g.holds queue limit qs) (sym (queued_at-remembered cpu)) (agree.held cpu queue at);
    };
    kept = λ i. record {
      siblings = length core.lanes.items;
      limit = limit;
      identities = map-map_alike identity_of after (λ task. refl) tasks i;
    };
  }

-- also where the core keeps no more than its queues and its stamps
pub stays-remembered : {Q : Type 0} {g : Ghosts Q} (old new : Core Q g × Table) (occupation : Task → ℕ) →
    new.1 ≡ record old.1 { tasks = map (λ (task : Task). record task { occupation = occupation task }) old.1.tasks } → IsTable new.1 →
    queues_of new.0 ≡ queues_of old.0 → new.0.next_stamp ≡ old.0.next_stamp → Stays old new
stays-remembered {Q} {g} old new occupation table sound queues stamp =
    both_stay (remembered_stays occupation old.1.tasks old.0 old.1.totals old.1.limit (subst IsTable table sound)) (alike_stays (old.0, record old.1 { tasks = map (λ (task : Task). record task { occupation = occupation task }) old.1.tasks }) new queues table stamp)
