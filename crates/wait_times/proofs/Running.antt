-- Running: the tasks that siblings run, sibling by sibling, and that their waits are ended.
use Rattle.std.proofs.Common.{◌≡◌, ℕ, ◌+◌, ◌<◌, ◌≤◌, ◌^◌, ◌-◌, Bool, true, false, ltb, List, [], ◌∷◌, ◌++◌, map, length, take, get_or, set, refl, sym, ap, ◌∙◌, subst, inl, inr, arith, Option, Some, None}
use Rattle.std.specs.Prelude.{◌||◌, All, IfSome, Contains, unwrap_or, is_some}
use Rattle.std.specs.List.{AllByRecursion, list_any}
use Rattle.std.proofs.Math.Bool.{or-false}
use Rattle.std.proofs.lemmas.Bool.{cases_eq, eq-eqb, ne_eqb, cond-true, lt-ltb}
use Rattle.std.proofs.lemmas.List.{get_or-set_same, get_or-set_other}
use Rattle.std.proofs.lemmas.List.Elements.{All-contains, All-map, All-from_recursion, All-set}
use Rattle.std.proofs.lemmas.List.Folds.{list_any_more}
use Rattle.cs_types.specs.declared.task.Task.{Task}
use Rattle.cs_types.specs.declared.event.Event.{Event}
use Rattle.cs_types.specs.declared.event.Event.TheVariants.{Advance}
use Rattle.cs_types.specs.declared.reply.Entry.{Entry}
use Rattle.cs_types.specs.declared.view.CpuView.{CpuView}
use Rattle.cs_types.specs.Room.{Opening, RoomState, SiblingState, absent, sibling_of, queued_on}
use Rattle.cs_types.specs.Laws.{pids_on}
use Rattle.cs_types.specs.Selection.{is_run}
use Rattle.cs_types.specs.Step.{step}
use Rattle.cs_types.specs.Time.{with_growth, advanced}
use Rattle.cs_types.specs.Touches.{is_fresh}
use Rattle.cs_types.specs.History.{History, Moment, moment_of, fold_of}
use Rattle.cs_types.specs.View.{cpu_view}
use Rattle.cs_types.proofs.Filtered.{each-filter}
use Rattle.cs_types.proofs.Lists.{map-enumerate_alike, map-map_alike}
use Rattle.cs_laws.proofs.Histories.{moment_of-push}
use Rattle.cs_laws.proofs.Rising.{Rises, AreRising}
use Rattle.run_times.specs.Times.{advance_of}
use Rattle.run_times.proofs.Shown.{shown_cpu}
use Rattle.run_times.proofs.Busy.{IsQueued}
use Rattle.task_times.proofs.Bounds.{pids_below}
use Rattle.wait_times.specs.declared.rows.TaskWaits.{TaskWaits}
use Rattle.wait_times.specs.Waits.{runs_task}
use Rattle.wait_times.specs.Rows.{CanEnd, ended, ended_where}

-- ---- a wait that is ended does not go on, so it is not ended again

pub since-ended : (clock : ℕ) (row : TaskWaits) → (ended clock row).since ≡ None
since-ended clock row = go row.since refl where
  go : (since : Option ℕ) → row.since ≡ since → (ended clock row).since ≡ None
  go None is = ap (λ (s : Option ℕ). (ended clock (record row { since = s })).since) is
  go (Some began) is = ap (λ (s : Option ℕ). (ended clock (record row { since = s })).since) is

still-ended : (clock : ℕ) (row : TaskWaits) → row.since ≡ None → ended clock row ≡ row
still-ended clock row is = ap (λ (s : Option ℕ). ended clock (record row { since = s })) is ∙ ap (λ (s : Option ℕ). record row { since = s }) (sym is)

ended_where-again : (clock : ℕ) (test : Bool) (row : TaskWaits) → ended clock (ended_where test clock row) ≡ ended_where (test || true) clock row
ended_where-again clock true row = still-ended clock (ended clock row) (since-ended clock row)
ended_where-again clock false row = refl

pub can_end-ended : (clock : ℕ) (row : TaskWaits) → CanEnd clock (ended clock row)
can_end-ended clock row =
    let now = ended clock row in
    subst (λ (s : Option ℕ). IfSome s (λ began. (began ≤ clock) × (now.count + 1 < 2 ^ 32) × (now.sum + (clock - began) < 2 ^ 64))) (sym (since-ended clock row)) tt

-- ---- the pid of what a sibling runs

-- the pids of the living are above 0
pids_above_zero : (low high : ℕ) (tasks : List Task) → Rises low high tasks → AllByRecursion (λ (task : Task). 0 < task.spec.pid) tasks
pids_above_zero low high [] rises = tt
pids_above_zero low high (task ∷ tasks) rises = (omega (arith, rises.0), pids_above_zero task.spec.pid high tasks rises.1)

-- what holds of each living task's pid holds of that which a sibling runs
runs_living : (P : ℕ → Type 0) (room : RoomState) (cpu pid : ℕ) → AllByRecursion (λ (task : Task). P task.spec.pid) room.tasks → IsQueued room cpu → (sibling_of room cpu).run ≡ Some pid → P pid
runs_living P room cpu pid each queued is =
    All-contains P (pids_on room cpu) pid
    (All-map P (λ (task : Task). task.spec.pid) (queued_on room cpu)
    (All-from_recursion (λ (task : Task). P task.spec.pid) (queued_on room cpu) (each-filter (λ (task : Task). P task.spec.pid) _ room.tasks each)))
    (subst (λ (run : Option ℕ). IfSome run (Contains (pids_on room cpu))) is queued)

-- it is below the next
pub runs_below : (room : RoomState) (cpu pid : ℕ) → AreRising room → IsQueued room cpu → (sibling_of room cpu).run ≡ Some pid → pid < room.next_pid
runs_below room cpu pid rises = runs_living (λ n. n < room.next_pid) room cpu pid (pids_below room rises)

-- a sibling runs what is shown of it
pub shown_some : (moment : Moment) (cpu : ℕ) (view : CpuView) → Some view ≡ cpu_view moment cpu → 0 < view.run → (sibling_of moment.room cpu).run ≡ Some view.run
shown_some moment cpu view shown some = go (sibling_of moment.room cpu).run (shown_cpu moment cpu view shown).1 where
  go : (run : Option ℕ) → view.run ≡ unwrap_or run 0 → run ≡ Some view.run
  go None is = absurd (let none : view.run ≡ 0 = is in omega (arith, none, some))
  go (Some pid) is = ap Some (sym is)

-- and runs idle where 0 is shown
pub shown_idle : (moment : Moment) (cpu : ℕ) (view : CpuView) → AreRising moment.room → IsQueued moment.room cpu → Some view ≡ cpu_view moment cpu → view.run ≡ 0 →
    (sibling_of moment.room cpu).run ≡ None
shown_idle moment cpu view rises queued shown none = go (sibling_of moment.room cpu).run refl (shown_cpu moment cpu view shown).1 where
  go : (run : Option ℕ) → (sibling_of moment.room cpu).run ≡ run → view.run ≡ unwrap_or run 0 → run ≡ None
  go None e is = refl
  go (Some pid) e is = absurd (
      let above : 0 < pid = runs_living (λ n. 0 < n) moment.room cpu pid (pids_above_zero 0 moment.room.next_pid moment.room.tasks rises) queued e in
      let same : view.run ≡ pid = is in
      omega (arith, above, same, none)
      )

-- a sibling that the core has is shown
pub shown_there : (moment : Moment) (cpu : ℕ) → cpu < length moment.room.siblings → None ≡ cpu_view moment cpu → ⊥
shown_there moment cpu few shown =
    let some = shown ∙ cond-true (ltb cpu (length moment.room.siblings)) _ None (lt-ltb cpu (length moment.room.siblings) few) in cc

-- ---- one sibling more

-- whether one of these siblings runs the task with this pid
abbrev pub runs_among : List SiblingState → ℕ → Bool
runs_among siblings pid = list_any (λ (sibling : SiblingState). is_run sibling.run (Some pid)) siblings

among-more : (room : RoomState) (cpu pid : ℕ) (run : Option ℕ) → cpu < length room.siblings → (sibling_of room cpu).run ≡ run →
    runs_among (take (cpu + 1) room.siblings) pid ≡ (runs_among (take cpu room.siblings) pid || is_run run (Some pid))
among-more room cpu pid run few is =
    list_any_more (λ (sibling : SiblingState). is_run sibling.run (Some pid)) room.siblings cpu absent few
    ∙ ap (λ (r : Option ℕ). runs_among (take cpu room.siblings) pid || is_run r (Some pid)) is

-- one that runs idle ends no wait
pub ended-idle : (room : RoomState) (cpu pid clock : ℕ) (row : TaskWaits) → cpu < length room.siblings → (sibling_of room cpu).run ≡ None →
    ended_where (runs_among (take cpu room.siblings) pid) clock row ≡ ended_where (runs_among (take (cpu + 1) room.siblings) pid) clock row
ended-idle room cpu pid clock row few is =
    ap (λ (b : Bool). ended_where b clock row) (sym (among-more room cpu pid None few is ∙ or-false (runs_among (take cpu room.siblings) pid)))

-- one that runs a task ends the wait of that
pub ended-running : (room : RoomState) (cpu own clock : ℕ) (first rows new : List TaskWaits) → cpu < length room.siblings → (sibling_of room cpu).run ≡ Some own → own < length rows →
    ((none : TaskWaits) → new ≡ set rows own (ended clock (get_or rows own none))) →
    (k : ℕ) (none : TaskWaits) → get_or rows k none ≡ ended_where (runs_among (take cpu room.siblings) k) clock (get_or first k none) →
    get_or new k none ≡ ended_where (runs_among (take (cpu + 1) room.siblings) k) clock (get_or first k none)
ended-running room cpu own clock first rows new few is below made k none so_far = elim (cases_eq own k) [
  | inl same ↦
      let here : runs_among (take (cpu + 1) room.siblings) k ≡ (runs_among (take cpu room.siblings) k || true) =
      among-more room cpu k (Some own) few is ∙ ap (λ (b : Bool). runs_among (take cpu room.siblings) k || b) (eq-eqb own k same) in
      ap (λ (xs : List TaskWaits). get_or xs k none) (made none)
      ∙ ap (λ (n : ℕ). get_or (set rows own (ended clock (get_or rows own none))) n none) (sym same)
      ∙ get_or-set_same rows own (ended clock (get_or rows own none)) none below
      ∙ ap (λ (n : ℕ). ended clock (get_or rows n none)) same
      ∙ ap (ended clock) so_far
      ∙ ended_where-again clock (runs_among (take cpu room.siblings) k) (get_or first k none)
      ∙ ap (λ (b : Bool). ended_where b clock (get_or first k none)) (sym here)
  | inr other ↦
      let here : runs_among (take (cpu + 1) room.siblings) k ≡ runs_among (take cpu room.siblings) k =
      among-more room cpu k (Some own) few is ∙ ap (λ (b : Bool). runs_among (take cpu room.siblings) k || b) (ne_eqb own k other)
      ∙ or-false (runs_among (take cpu room.siblings) k) in
      ap (λ (xs : List TaskWaits). get_or xs k none) (made none)
      ∙ get_or-set_other rows own k (ended clock (get_or rows own none)) none (λ e. other (sym e))
      ∙ so_far
      ∙ ap (λ (b : Bool). ended_where b clock (get_or first k none)) (sym here)
]

-- and all can be ended still
pub can_end-running : (own clock : ℕ) (rows new : List TaskWaits) (row : TaskWaits) → new ≡ set rows own (ended clock row) →
    All (CanEnd clock) rows → All (CanEnd clock) new
can_end-running own clock rows new row made all =
    subst (All (CanEnd clock)) (sym made) (All-set (CanEnd clock) rows own (ended clock row) (can_end-ended clock row) all)

-- ---- an advance

any_run : (siblings : List SiblingState) (pid : ℕ) → runs_among siblings pid ≡ list_any (λ run. is_run run (Some pid)) (map (λ (sibling : SiblingState). sibling.run) siblings)
any_run [] pid = refl
any_run (sibling ∷ siblings) pid = ap (λ (b : Bool). is_run sibling.run (Some pid) || b) (any_run siblings pid)

-- each sibling runs on what it runs
runs-advanced : (room : RoomState) (delta pid : ℕ) → runs_task (advanced room delta) pid ≡ runs_task room pid
unfolding advanced
runs-advanced room delta pid =
    let run : SiblingState → Option ℕ = λ sibling. sibling.run in
    any_run (advanced room delta).siblings pid
    ∙ ap (list_any (λ r. is_run r (Some pid)))
    (map-enumerate_alike run _ (λ numbered. refl) 0 (with_growth room delta).siblings ∙ map-map_alike run _ (λ sibling. refl) room.siblings)
    ∙ sym (any_run room.siblings pid)

runs-step : (room : RoomState) (fresh : Bool) (event : Event) (pid : ℕ) → is_some (advance_of event) ≡ true → runs_task (step room fresh event).room pid ≡ runs_task room pid
runs-step room fresh (Advance delta) pid is = runs-advanced room delta pid
runs-step room fresh event pid is = absurd cc

pub runs-push : (opening : Opening) (history : History) (entry : Entry) (pid : ℕ) → is_some (advance_of entry.event) ≡ true →
    runs_task (fold_of opening (history ++ entry ∷ [])) pid ≡ runs_task (fold_of opening history) pid
runs-push opening history entry pid is =
    let moment = moment_of opening history in
    ap (λ (m : Moment). runs_task m.room pid) (moment_of-push opening history entry) ∙ runs-step moment.room (is_fresh moment.ledger) entry.event pid is
