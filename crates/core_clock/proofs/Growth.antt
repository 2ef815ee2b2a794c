-- Growth: the running tasks grow sibling by sibling.
use Rattle.std.proofs.Common.{◌≡◌, ◌≢◌, ℕ, ℤ, zero, suc, ◌+◌, ◌*◌, ◌<◌, ◌≤◌, Bool, true, false, cond, not, List, [], ◌∷◌, map, take, length, refl, sym, subst, ap, ◌∙◌, arith, Option, Some, None, add-one, eqb-true}
use Rattle.std.specs.Prelude.{◌&&◌, ◌||◌, ◌==◌, find, All, IfSome, IsSomeAnd}
use Rattle.std.specs.List.{AllByRecursion, list_any}
use Rattle.std.specs.Option.{option_and_then, option_map_or}
use Rattle.std.proofs.lemmas.Bool.{cond-false, cond_both, ne_eqb}
use Rattle.std.proofs.lemmas.Bool.Decides.{nat_tests}
use Rattle.std.proofs.lemmas.List.{map-id}
use Rattle.std.proofs.Math.Seq.{take-length}
use Rattle.std.proofs.lemmas.List.Elements.{All-map, All-weaker}
use Rattle.std.proofs.lemmas.List.Folds.{list_any_more}
use Rattle.std.proofs.lemmas.Simd.{map-map}
use Rattle.cs_types.specs.declared.task.Task.{Task}
use Rattle.cs_types.specs.declared.task.Policy.{Policy}
use Rattle.cs_types.specs.declared.task.Policy.TheVariants.{Stop, Rr, Fair}
use Rattle.cs_types.specs.Room.{RoomState, SiblingState, absent, has_pid, task_of, sibling_of, running_on, with_task}
use Rattle.cs_types.specs.Selection.{is_run}
use Rattle.cs_types.specs.Time.{grown_by, grown}
use Rattle.cs_laws.proofs.Homes.{running_is_found}
use Rattle.cs_types.proofs.Growth.{growth-le}
use Rattle.task_table.specs.Table.{Rises}
use Rattle.task_table.proofs.Tables.{changed_each, none_found}
use Rattle.core_clock.specs.Time.{with_grown}
use Rattle.core_lanes.proofs.Timed.{KeepsTask}
use Rattle.std.proofs.Math.Bool.{and_comm}

-- ---- who grows

-- whether one of these siblings runs the task with the pid
abbrev pub is_run_by : List SiblingState → ℕ → Bool
is_run_by siblings pid = list_any (λ (sibling : SiblingState). is_run sibling.run (Some pid)) siblings

-- a task grows where one of these siblings runs it
abbrev pub grown_among : List SiblingState → ℕ → Task → Task
grown_among siblings delta task = cond (is_run_by siblings task.spec.pid) (grown_by delta task.spec.policy task) task

-- a task grows where the sibling runs it and no lower one does
abbrev pub grown_on : RoomState → ℕ → ℕ → Task → Task
grown_on room cpu delta task =
    cond (is_run (sibling_of room cpu).run (Some task.spec.pid) && not (is_run_by (take cpu room.siblings) task.spec.pid))
    (grown_by delta task.spec.policy task) task

abbrev pub with_growth_on : RoomState → ℕ → ℕ → RoomState
with_growth_on room cpu delta = record room { tasks = map (grown_on room cpu delta) room.tasks }

-- ---- one task

-- a task as it is once it has grown
abbrev grow : ℕ → Task → Task
grow delta task = grown_by delta task.spec.policy task

-- one that is neither RR nor fair does not
pub grown_by-neither : (delta : ℕ) (policy : Policy) (task : Task) → ((priority : ℕ) → policy ≢ Rr priority) → ((nice : ℤ) → policy ≢ Fair nice) →
    grown_by delta policy task ≡ task
grown_by-neither delta (Rr priority) task rr fair = absurd (rr priority refl)
grown_by-neither delta (Fair nice) task rr fair = absurd (fair nice refl)
grown_by-neither delta policy task rr fair = refl

-- a task that grows keeps all but its times
kept-grown_by : (delta : ℕ) (policy : Policy) (task : Task) → KeepsTask task (grown_by delta policy task)
kept-grown_by delta Stop task = record { spec = refl; cookie = refl; home = refl; queued = refl; stamp = refl }
kept-grown_by delta policy task = record { spec = refl; cookie = refl; home = refl; queued = refl; stamp = refl }

pub kept-grown : (delta : ℕ) (task : Task) → KeepsTask task (grown_by delta task.spec.policy task)
kept-grown delta task = kept-grown_by delta task.spec.policy task

-- and these become greater by no more than this
pub record GrowsBy (delta : ℕ) (old new : Task) : Type 0 where
  pub used : new.used ≤ old.used + delta
  pub vtime : new.vtime ≤ old.vtime + 69 * delta

grows-grown_by : (delta : ℕ) (policy : Policy) (task : Task) → GrowsBy delta task (grown_by delta policy task)
grows-grown_by delta (Fair nice) task = record { used = omega arith; vtime = omega (arith, growth-le delta nice) }
grows-grown_by delta policy task = record { used = omega arith; vtime = omega arith }

grows-grown_among : (siblings : List SiblingState) (delta : ℕ) (task : Task) → GrowsBy delta task (grown_among siblings delta task)
grows-grown_among siblings delta task =
    cond_both (is_run_by siblings task.spec.pid) (grow delta task) task (GrowsBy delta task) (λ _. grows-grown_by delta task.spec.policy task)
    (λ _. record { used = omega arith; vtime = omega arith })

-- so low times are low still
pub all_grown : (P R : Task → Type 0) (siblings : List SiblingState) (delta : ℕ) (tasks : List Task) → ((old new : Task) → GrowsBy delta old new → P old → R new) → All P tasks →
    All R (map (grown_among siblings delta) tasks)
all_grown P R siblings delta tasks step all =
    All-map R (grown_among siblings delta) tasks
    (All-weaker P (λ (task : Task). R (grown_among siblings delta task)) (λ task. step task (grown_among siblings delta task) (grows-grown_among siblings delta task)) tasks all)

-- ---- the task that a sibling runs

-- what is asked of a number that is another may be asked of that
asked_there : (f : ℕ → Bool) (a b : ℕ) → ((a == b) && f b) ≡ (f a && (b == a))
asked_there f a b = by_test (a == b) refl ∙ ap (λ c. f a && c) flipped where
  flipped : (a == b) ≡ (b == a)
  flipped = grind (arith, nat_tests)

  by_test : (c : Bool) → (a == b) ≡ c → (c && f b) ≡ (f a && c)
  by_test true same = ap f (sym (eqb-true a b same)) ∙ and_comm true (f a)
  by_test false differs = and_comm false (f a)

-- no task grows where none passes
grows_none : (test : Task → Bool) (f : Task → Task) (tasks : List Task) → AllByRecursion (λ task. test task ≡ false) tasks →
    map (λ task. cond (test task) (f task) task) tasks ≡ tasks
grows_none test f [] none = refl
grows_none test f (task ∷ tasks) none = λ i. cond-false (test task) (f task) task none.0 i ∷ grows_none test f tasks none.1 i

-- the room with these tasks
abbrev with_tasks : RoomState → List Task → RoomState
with_tasks room tasks = record room { tasks = tasks }

module _ (room : RoomState) (cpu delta : ℕ) where
  abbrev lower : ℕ → Bool
  lower pid = is_run_by (take cpu room.siblings) pid

  -- the room in which the task grows that a sibling with this run runs
  abbrev grown_with : Option ℕ → RoomState
  grown_with run = with_tasks room (map (λ task. cond (is_run run (Some task.spec.pid) && not (lower task.spec.pid)) (grow delta task) task) room.tasks)

  -- the one in which the task with the pid grows, where it is to
  abbrev grown_where : ℕ → Bool → RoomState
  grown_where pid grows = with_tasks room (map (λ task. cond (grows && has_pid pid task) (grow delta task) task) room.tasks)

  growth_is : (pid : ℕ) → (sibling_of room cpu).run ≡ Some pid → with_growth_on room cpu delta ≡ grown_where pid (not (lower pid))
  growth_is pid is =
      ap grown_with is
      ∙ (λ i. with_tasks room (map (λ (task : Task). cond (asked_there (λ n. not (lower n)) pid task.spec.pid i) (grow delta task) task) room.tasks))

  -- nothing grows where it runs nothing
  pub grown_nothing : running_on room cpu ≡ None → with_growth_on room cpu delta ≡ room
  grown_nothing nothing = by_run (sibling_of room cpu).run refl where
    by_lower : (pid : ℕ) (grows : Bool) → find (has_pid pid) room.tasks ≡ None → grown_where pid grows ≡ room
    by_lower pid true none = ap (with_tasks room) (grows_none (has_pid pid) (grow delta) room.tasks (none_found pid room.tasks none))
    by_lower pid false none = ap (with_tasks room) (map-id room.tasks)

    by_run : (run : Option ℕ) → (sibling_of room cpu).run ≡ run → with_growth_on room cpu delta ≡ room
    by_run None is = ap grown_with is ∙ ap (with_tasks room) (map-id room.tasks)
    by_run (Some pid) is = growth_is pid is ∙ by_lower pid (not (lower pid)) (sym (ap (option_and_then (task_of room)) is) ∙ nothing)

  module _ (task : Task) (runs : running_on room cpu ≡ Some task) where
    -- and the task grows where no lower one runs it too
    pub grown_here : Rises room.tasks → lower task.spec.pid ≡ false → with_task room (grow delta task) ≡ with_growth_on room cpu delta
    grown_here rises none =
        let found = running_is_found room cpu task runs in
        let spec = (kept-grown delta task).spec in
        (λ i. with_tasks room (map (λ (other : Task). cond (has_pid (spec i).pid other) (grow delta task) other) room.tasks))
        ∙ ap (with_tasks room) (changed_each (grow delta) room.tasks task rises found.1)
        ∙ ap (λ b. grown_where task.spec.pid (not b)) (sym none)
        ∙ sym (growth_is task.spec.pid found.0)

  -- so the growth of what it runs is that of the tasks that it alone of these runs
  pub grown_alone : Rises room.tasks → ((task : Task) → running_on room cpu ≡ Some task → lower task.spec.pid ≡ false) → with_grown cpu delta room ≡ with_growth_on room cpu delta
  grown_alone rises alone = by_run (running_on room cpu) refl where
    with_run : Option Task → RoomState
    with_run found = option_map_or (λ task. with_task room (grow delta task)) found room

    by_run : (found : Option Task) → running_on room cpu ≡ found → with_grown cpu delta room ≡ with_growth_on room cpu delta
    by_run None is = ap with_run is ∙ sym (grown_nothing is)
    by_run (Some task) is = ap with_run is ∙ grown_here task is rises (alone task is)

-- ---- no task is run by two

-- where each sibling runs a task that is at home there, no lower one runs the task of this one
pub runs_alone : (room : RoomState) (cpu pid : ℕ) →
    ((cpu : ℕ) → IfSome (sibling_of room cpu).run (λ pid. IsSomeAnd (task_of room pid) (λ task. task.home ≡ cpu))) →
    cpu < length room.siblings → (sibling_of room cpu).run ≡ Some pid → is_run_by (take cpu room.siblings) pid ≡ false
runs_alone room cpu pid own below runs = go cpu (omega arith) where
  IsHome : ℕ → ℕ → Type 0
  IsHome n p = IsSomeAnd (task_of room p) (λ task. task.home ≡ n)

  here : IsHome cpu pid
  here = subst (λ (run : Option ℕ). IfSome run (IsHome cpu)) runs (own cpu)

  one_home : (found : Option Task) (a b : ℕ) → IsSomeAnd found (λ task. task.home ≡ a) → IsSomeAnd found (λ task. task.home ≡ b) → a ≡ b
  one_home None a b is too = absurd is
  one_home (Some task) a b is too = sym is ∙ too

  other : (n : ℕ) → n < cpu → (run : Option ℕ) → IfSome run (IsHome n) → is_run run (Some pid) ≡ false
  other n under None home = refl
  other n under (Some p) home = ne_eqb p pid (λ same. absurd (omega (arith, under, one_home (task_of room pid) n cpu (subst (IsHome n) same home) here)))

  go : (n : ℕ) → n ≤ cpu → is_run_by (take n room.siblings) pid ≡ false
  go zero le = refl
  go (suc n) le =
      ap (λ k. is_run_by (take k room.siblings) pid) (sym (add-one n))
      ∙ list_any_more (λ (sibling : SiblingState). is_run sibling.run (Some pid)) room.siblings n absent (omega (arith, le, below))
      ∙ (λ i. go n (omega (arith, le)) i || other n (omega (arith, le)) (sibling_of room n).run (own n) i)

-- ---- sibling by sibling

-- the room whose tasks have grown with these siblings
abbrev pub grown_with_first : ℕ → ℕ → RoomState → RoomState
grown_with_first delta count room = record room { tasks = map (grown_among (take count room.siblings) delta) room.tasks }

-- none has grown yet
pub grown_with_none : (delta : ℕ) (room : RoomState) → grown_with_first delta 0 room ≡ room
grown_with_none delta room = ap (with_tasks room) (map-id room.tasks)

-- one sibling more
pub grown_with_more : (delta cpu : ℕ) (room : RoomState) → cpu < length room.siblings →
    with_growth_on (grown_with_first delta cpu room) cpu delta ≡ grown_with_first delta (cpu + 1) room
grown_with_more delta cpu room below =
    ap (with_tasks room) (map-map (grown_on (grown_with_first delta cpu room) cpu delta) (grown_among low delta) room.tasks)
    ∙ (λ i. with_tasks room (map (λ (task : Task). one task i) room.tasks)) where
      low : List SiblingState
      low = take cpu room.siblings

      runs : ℕ → Bool
      runs pid = is_run (sibling_of room cpu).run (Some pid)

      -- a task that has grown already, and one that has not
      step : (task : Task) (lower here : Bool) →
          cond (here && not lower) (grow delta (cond lower (grow delta task) task)) (cond lower (grow delta task) task)
          ≡ cond (lower || here) (grow delta task) task
      step task true true = refl
      step task true false = refl
      step task false true = refl
      step task false false = refl

      one : (task : Task) → grown_on (grown_with_first delta cpu room) cpu delta (grown_among low delta task) ≡ grown_among (take (cpu + 1) room.siblings) delta task
      one task =
          let after = grown_among low delta task in
          let same : after.spec ≡ task.spec =
          cond_both (is_run_by low task.spec.pid) (grow delta task) task (λ (t : Task). t.spec ≡ task.spec) (λ _. (kept-grown delta task).spec) (λ _. refl) in
          (λ i. cond (runs (same i).pid && not (is_run_by low (same i).pid)) (grow delta after) after)
          ∙ step task (is_run_by low task.spec.pid) (runs task.spec.pid)
          ∙ ap (λ b. cond b (grow delta task) task) (sym (list_any_more (λ (sibling : SiblingState). is_run sibling.run (Some task.spec.pid)) room.siblings cpu absent below))

-- and all
pub grown_with_all : (delta count : ℕ) (room : RoomState) → count ≡ length room.siblings →
    grown_with_first delta count room ≡ record room { tasks = map (grown room delta) room.tasks }
grown_with_all delta count room all =
    ap (λ (siblings : List SiblingState). with_tasks room (map (grown_among siblings delta) room.tasks))
    (ap (λ n. take n room.siblings) all ∙ take-length room.siblings)
