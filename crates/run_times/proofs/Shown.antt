-- Shown: what the views of a machine say of the living tasks.
use Rattle.std.proofs.Common.{◌≡◌, ◌≢◌, ℕ, ◌-◌, ◌<◌, ◌≤◌, Bool, true, false, cond, ltb, List, [], ◌∷◌, length, refl, sym, ap, ◌∙◌, subst, arith, Option, Some, None}
use Rattle.std.specs.Prelude.{find, filter, unwrap_or, ◌==◌, ◌&&◌}
use Rattle.std.specs.Option.{option_map, option_and_then}
use Rattle.std.proofs.lemmas.Bool.{cond-true, cond-false, eq-eqb, ne_eqb, lt-ltb, ltb-true, and_from}
use Rattle.std.proofs.lemmas.Bool.Decides.{nat_tests}
use Rattle.cs_types.specs.declared.task.Task.{Task}
use Rattle.cs_types.specs.declared.view.CpuView.{CpuView}
use Rattle.cs_types.specs.declared.view.TaskView.{TaskView}
use Rattle.cs_types.specs.Scenario.{IsPlayable}
use Rattle.cs_types.specs.Room.{Opening, RoomState, has_pid, task_of, queued_on, sibling_of, running_on, is_online}
use Rattle.cs_types.specs.Touches.{own_number}
use Rattle.cs_types.specs.History.{History, Moment, fold_of}
use Rattle.cs_types.specs.View.{cpu_view, task_after, task_view}
use Rattle.cs_types.proofs.Foremost.{find_passes}
use Rattle.cs_types.proofs.Inserted.{is_above}
use Rattle.cs_laws.proofs.Rising.{Rises, AreRising, rising-fold_of, above_zero, above_next, above_none}
use Rattle.run_times.specs.declared.by.By.{By}
use Rattle.run_times.specs.Doing.{key_of, key_run, has_queued}

-- the tasks of a machine's history stand by rising pid
pub rises_of : (opening : Opening) (history : History) → IsPlayable opening.scenario → AreRising (fold_of opening history)
rises_of opening history playable = rising-fold_of opening history (λ k d few. (playable.tasks k d few).pid.0) playable.distinct

-- ---- the task with a pid

-- no task has a pid that is not above the bound
none_at : (low high pid : ℕ) (tasks : List Task) → Rises low high tasks → pid ≤ low → find (has_pid pid) tasks ≡ None
none_at low high pid [] rises under = refl
none_at low high pid (task ∷ tasks) rises under =
    let above = rises.0 in
    let other : has_pid pid task ≡ false = grind (arith, nat_tests) in
    cond-false (has_pid pid task) (Some task) (find (has_pid pid) tasks) other ∙ none_at task.spec.pid high pid tasks rises.1 (omega arith)

-- a task, where it has this pid
abbrev where_pid : ℕ → Option Task → Option Task
where_pid pid found = option_and_then (λ (task : Task). cond (has_pid pid task) (Some task) None) found

-- The task with a pid is the one with the least pid above the pid below it, if that has it.
find_next : (low high pid : ℕ) (tasks : List Task) → Rises low high tasks → 0 < pid →
    find (has_pid pid) tasks ≡ where_pid pid (find (is_above (pid - 1)) tasks)
find_next low high pid [] rises some = refl
find_next low high pid (task ∷ tasks) rises some =
    by_test (has_pid pid task) (is_above (pid - 1) task) refl refl (find_next task.spec.pid high pid tasks rises.1 some) where
      by_test : (has above : Bool) → has_pid pid task ≡ has → is_above (pid - 1) task ≡ above →
          find (has_pid pid) tasks ≡ where_pid pid (find (is_above (pid - 1)) tasks) →
          cond has (Some task) (find (has_pid pid) tasks) ≡ where_pid pid (cond above (Some task) (find (is_above (pid - 1)) tasks))
      by_test true true has above rest = sym (cond-true (has_pid pid task) (Some task) None has)
      by_test true false has above rest = absurd (grind (arith, nat_tests))
      by_test false true has above rest =
          let past : pid ≤ task.spec.pid = grind (arith, nat_tests) in
          none_at task.spec.pid high pid tasks rises.1 past ∙ sym (cond-false (has_pid pid task) (Some task) None has)
      by_test false false has above rest = rest

-- the view of the next task above a pid, and that of the task with one
abbrev pub shown_after : RoomState → ℕ → Option TaskView
shown_after room pid = option_map (task_view room) (task_after room pid)

abbrev pub shown_at : RoomState → ℕ → Option TaskView
shown_at room pid = option_map (task_view room) (task_of room pid)

-- no task has pid 0
pub shown_zero : (room : RoomState) → AreRising room → None ≡ shown_at room 0
shown_zero room rises = sym (ap (option_map (task_view room)) (none_at 0 room.next_pid 0 room.tasks rises (omega arith)))

shown_by : (room : RoomState) (pid : ℕ) (found : Option Task) → AreRising room → 0 < pid → task_after room (pid - 1) ≡ found →
    option_map (task_view room) (where_pid pid found) ≡ shown_at room pid
shown_by room pid found rises some e =
    ap (option_map (task_view room)) (sym (find_next 0 room.next_pid pid room.tasks rises some ∙ ap (where_pid pid) e))

-- the next task above the pid below has it
pub shown_here : (room : RoomState) (pid : ℕ) (view : TaskView) → AreRising room → 0 < pid → Some view ≡ shown_after room (pid - 1) → view.pid ≡ pid →
    Some view ≡ shown_at room pid
shown_here room pid view rises some shown same = go (task_after room (pid - 1)) refl shown where
  go : (found : Option Task) → task_after room (pid - 1) ≡ found → Some view ≡ option_map (task_view room) found → Some view ≡ shown_at room pid
  go None e is = absurd cc
  go (Some task) e is =
      let its : view ≡ task_view room task = cc in
      let has : has_pid pid task ≡ true = eq-eqb task.spec.pid pid (sym (ap (λ (v : TaskView). v.pid) its) ∙ same) in
      is ∙ ap (option_map (task_view room)) (sym (cond-true (has_pid pid task) (Some task) None has)) ∙ shown_by room pid (Some task) rises some e

-- it has another
pub shown_other : (room : RoomState) (pid : ℕ) (view : TaskView) → AreRising room → 0 < pid → Some view ≡ shown_after room (pid - 1) → view.pid ≢ pid →
    None ≡ shown_at room pid
shown_other room pid view rises some shown other = go (task_after room (pid - 1)) refl shown where
  go : (found : Option Task) → task_after room (pid - 1) ≡ found → Some view ≡ option_map (task_view room) found → None ≡ shown_at room pid
  go None e is = absurd cc
  go (Some task) e is =
      let its : view ≡ task_view room task = cc in
      let has : has_pid pid task ≡ false = ne_eqb task.spec.pid pid (λ same. other (ap (λ (v : TaskView). v.pid) its ∙ same)) in
      ap (option_map (task_view room)) (sym (cond-false (has_pid pid task) (Some task) None has)) ∙ shown_by room pid (Some task) rises some e

-- there is none
pub shown_none : (room : RoomState) (pid : ℕ) → AreRising room → 0 < pid → None ≡ shown_after room (pid - 1) → None ≡ shown_at room pid
shown_none room pid rises some shown = go (task_after room (pid - 1)) refl shown where
  go : (found : Option Task) → task_after room (pid - 1) ≡ found → None ≡ option_map (task_view room) found → None ≡ shown_at room pid
  go None e is = shown_by room pid None rises some e
  go (Some task) e is = absurd cc

-- ---- a sibling

-- what is shown of a sibling is what it has
pub shown_cpu : (moment : Moment) (cpu : ℕ) (view : CpuView) → Some view ≡ cpu_view moment cpu →
    (view.online ≡ is_online moment.room cpu) × (view.run ≡ unwrap_or (sibling_of moment.room cpu).run 0) × (view.pending ≡ (sibling_of moment.room cpu).pending)
shown_cpu moment cpu view shown = go (ltb cpu (length moment.room.siblings)) shown where
  its : CpuView
  its = record { online = is_online moment.room cpu; run = unwrap_or (sibling_of moment.room cpu).run 0; number = own_number cpu moment.ledger; pending = (sibling_of moment.room cpu).pending }

  go : (test : Bool) → Some view ≡ cond test (Some its) None → (view.online ≡ its.online) × (view.run ≡ its.run) × (view.pending ≡ its.pending)
  go true is = let same : view ≡ its = cc in (ap (λ (v : CpuView). v.online) same, ap (λ (v : CpuView). v.run) same, ap (λ (v : CpuView). v.pending) same)
  go false is = absurd cc

-- the core has it
pub shown_below : (moment : Moment) (cpu : ℕ) (view : CpuView) → Some view ≡ cpu_view moment cpu → cpu < length moment.room.siblings
shown_below moment cpu view shown = go (ltb cpu (length moment.room.siblings)) _ refl shown where
  go : (test : Bool) (its : CpuView) → ltb cpu (length moment.room.siblings) ≡ test → Some view ≡ cond test (Some its) None → cpu < length moment.room.siblings
  go true its few is = ltb-true cpu (length moment.room.siblings) few
  go false its past is = absurd cc

-- the task that it runs is that with the pid which it shows
running_shown : (room : RoomState) (cpu : ℕ) → AreRising room → shown_at room (unwrap_or (sibling_of room cpu).run 0) ≡ option_map (task_view room) (running_on room cpu)
running_shown room cpu rises = go (sibling_of room cpu).run where
  go : (run : Option ℕ) → shown_at room (unwrap_or run 0) ≡ option_map (task_view room) (option_and_then (task_of room) run)
  go None = sym (shown_zero room rises)
  go (Some pid) = refl

-- What it is told apart by is that of the task with the pid which an online sibling shows.
pub key_online : (by : By) (moment : Moment) (cpu key : ℕ) (view : CpuView) (shown : TaskView) → AreRising moment.room → Some view ≡ cpu_view moment cpu → view.online ≡ true →
    Some shown ≡ shown_at moment.room view.run → ((room : RoomState) (task : Task) → shown ≡ task_view room task → key ≡ key_of by task) → Some key ≡ key_run by moment.room cpu
key_online by moment cpu key view shown rises is online found told =
    let its = shown_cpu moment cpu view is in
    its_key (running_on moment.room cpu) (found ∙ ap (shown_at moment.room) its.1 ∙ running_shown moment.room cpu rises)
    ∙ sym (cond-true (is_online moment.room cpu) (option_map (key_of by) (running_on moment.room cpu)) None (sym its.0 ∙ online)) where
      its_key : (task : Option Task) → Some shown ≡ option_map (task_view moment.room) task → Some key ≡ option_map (key_of by) task
      its_key None same = absurd cc
      its_key (Some task) same = ap Some (told moment.room task cc)

-- there is none if no task has it
pub none_online : (by : By) (moment : Moment) (cpu : ℕ) (view : CpuView) → AreRising moment.room → Some view ≡ cpu_view moment cpu → view.online ≡ true →
    None ≡ shown_at moment.room view.run → None ≡ key_run by moment.room cpu
none_online by moment cpu view rises is online found =
    let its = shown_cpu moment cpu view is in
    none (running_on moment.room cpu) (found ∙ ap (shown_at moment.room) its.1 ∙ running_shown moment.room cpu rises)
    ∙ sym (cond-true (is_online moment.room cpu) (option_map (key_of by) (running_on moment.room cpu)) None (sym its.0 ∙ online)) where
      none : (task : Option Task) → None ≡ option_map (task_view moment.room) task → None ≡ option_map (key_of by) task
      none None same = refl
      none (Some task) same = absurd cc

-- ---- the tasks queued on a sibling

abbrev pub is_on : ℕ → Task → Bool
is_on cpu task = task.queued && (task.home == cpu)

-- those of them with a pid above one
abbrev pub queued_above : RoomState → ℕ → ℕ → List Task
queued_above room cpu pid = filter (is_on cpu) (filter (is_above pid) room.tasks)

pub queued_start : (room : RoomState) (cpu : ℕ) → AreRising room → queued_above room cpu 0 ≡ queued_on room cpu
queued_start room cpu rises = ap (filter (is_on cpu)) (above_zero room.next_pid room.tasks rises)

-- the next task, and those above it
pub queued_with : (room : RoomState) (cpu pid : ℕ) (view : TaskView) → AreRising room → Some view ≡ shown_after room pid →
    (task : Task) × (view ≡ task_view room task) × (queued_above room cpu pid ≡ cond (is_on cpu task) (task ∷ queued_above room cpu view.pid) (queued_above room cpu view.pid))
queued_with room cpu pid view rises shown = go (task_after room pid) refl shown where
  go : (found : Option Task) → task_after room pid ≡ found → Some view ≡ option_map (task_view room) found →
      (task : Task) × (view ≡ task_view room task) × (queued_above room cpu pid ≡ cond (is_on cpu task) (task ∷ queued_above room cpu view.pid) (queued_above room cpu view.pid))
  go None e is = absurd cc
  go (Some task) e is =
      let its : view ≡ task_view room task = cc in
      let rest : queued_above room cpu task.spec.pid ≡ queued_above room cpu view.pid = ap (queued_above room cpu) (sym (ap (λ (v : TaskView). v.pid) its)) in (
        task,
        its,
        ap (filter (is_on cpu)) (above_next pid 0 room.next_pid room.tasks task rises e)
            ∙ ap (λ (ts : List Task). cond (is_on cpu task) (task ∷ ts) ts) rest,
      )

-- it is queued there
pub queued_here : (room : RoomState) (cpu pid : ℕ) (view : TaskView) → AreRising room → queued_above room cpu pid ≡ queued_on room cpu →
    Some view ≡ shown_after room pid → view.queued ≡ true → view.cpu ≡ cpu → true ≡ has_queued room cpu
queued_here room cpu pid view rises left shown queued home =
    let with = queued_with room cpu pid view rises shown in
    let on : is_on cpu with.0 ≡ true = and_from with.0.queued (with.0.home == cpu) (sym (ap (λ (v : TaskView). v.queued) with.1) ∙ queued) (eq-eqb with.0.home cpu (sym (ap (λ (v : TaskView). v.cpu) with.1) ∙ home)) in
    let some = with.2 ∙ cond-true (is_on cpu with.0) (with.0 ∷ queued_above room cpu view.pid) (queued_above room cpu view.pid) on in
    let many : 0 < length (queued_on room cpu) = omega (arith, ap length (sym left ∙ some)) in
    sym (lt-ltb 0 (length (queued_on room cpu)) many)

-- it is not
pub queued_past : (room : RoomState) (cpu pid : ℕ) (view : TaskView) → AreRising room → Some view ≡ shown_after room pid → (view.queued && (view.cpu == cpu)) ≡ false →
    queued_above room cpu view.pid ≡ queued_above room cpu pid
queued_past room cpu pid view rises shown off =
    let with = queued_with room cpu pid view rises shown in
    let isnt : is_on cpu with.0 ≡ false = ap (λ (v : TaskView). v.queued && (v.cpu == cpu)) (sym with.1) ∙ off in
    sym (with.2 ∙ cond-false (is_on cpu with.0) (with.0 ∷ queued_above room cpu view.pid) (queued_above room cpu view.pid) isnt)

-- past the last task none is
pub queued_none : (room : RoomState) (cpu pid : ℕ) → queued_above room cpu pid ≡ queued_on room cpu → None ≡ shown_after room pid → false ≡ has_queued room cpu
queued_none room cpu pid left shown = go (task_after room pid) refl shown where
  go : (found : Option Task) → task_after room pid ≡ found → None ≡ option_map (task_view room) found → false ≡ has_queued room cpu
  go None e is = sym (ap (λ (ts : List Task). ltb 0 (length ts)) (sym left ∙ ap (filter (is_on cpu)) (above_none pid room.tasks e)))
  go (Some task) e is = absurd cc

-- the next task has a pid above
pub next_above : (room : RoomState) (pid : ℕ) (view : TaskView) → Some view ≡ shown_after room pid → pid < view.pid
next_above room pid view shown = go (task_after room pid) refl shown where
  go : (found : Option Task) → task_after room pid ≡ found → Some view ≡ option_map (task_view room) found → pid < view.pid
  go None e is = absurd cc
  go (Some task) e is =
      let its : view ≡ task_view room task = cc in
      subst (λ (v : TaskView). pid < v.pid) (sym its) (ltb-true pid task.spec.pid (find_passes (is_above pid) room.tasks task e))
