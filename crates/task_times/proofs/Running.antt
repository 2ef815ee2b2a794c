-- Running: only the home of a task can run it.
use Rattle.std.proofs.Common.{◌≡◌, ℕ, ◌<◌, Bool, true, false, ltb, zero, suc, length, get_or, refl, sym, ap, ◌∙◌, subst, inl, inr, arith, Option, Some, None}
use Rattle.std.specs.Prelude.{◌==◌, unwrap_or, Contains, IfSome}
use Rattle.std.specs.Option.{option_map, option_map_or}
use Rattle.std.proofs.lemmas.Bool.{cases_Bool, cond-true, both_ways, false_from_ne_true, ne_eqb, eqb-true, ltb-true, ltb-false}
use Rattle.std.proofs.lemmas.List.{get_or_default, get_or_past}
use Rattle.std.proofs.lemmas.List.Elements.{All-contains, All-map, All-from_recursion}
use Rattle.std.proofs.lemmas.List.Folds.{list_any_at, list_any_none}
use Rattle.cs_types.specs.declared.task.Task.{Task}
use Rattle.cs_types.specs.declared.view.CpuView.{CpuView}
use Rattle.cs_types.specs.declared.view.TaskView.{TaskView}
use Rattle.cs_types.specs.Room.{RoomState, SiblingState, absent, task_of, queued_on, sibling_of}
use Rattle.cs_types.specs.Selection.{is_run}
use Rattle.cs_types.specs.Time.{is_running}
use Rattle.cs_types.specs.History.{Moment}
use Rattle.cs_types.specs.Laws.{pids_on}
use Rattle.cs_types.specs.View.{cpu_view, task_view}
use Rattle.cs_types.proofs.Foremost.{each_weaker}
use Rattle.cs_laws.proofs.Homes.{IsQueuedOn, each_queued}
use Rattle.cs_laws.proofs.Rising.{AreRising}
use Rattle.run_times.proofs.Shown.{shown_at, shown_cpu, shown_zero}

run_is : (run : Option ℕ) (pid : ℕ) → is_run run (Some pid) ≡ true → run ≡ Some pid
run_is None pid is = absurd cc
run_is (Some other) pid is = ap Some (eqb-true other pid is)

-- a sibling that runs it shows its pid
run_shown : (run : Option ℕ) (pid : ℕ) → 0 < pid → (unwrap_or run 0 == pid) ≡ is_run run (Some pid)
run_shown None pid some = ne_eqb 0 pid (λ same. omega (arith, some, same))
run_shown (Some other) pid some = refl

abbrev runs_it : Task → SiblingState → Bool
runs_it task sibling = is_run sibling.run (Some task.spec.pid)

-- a task that a sibling runs is at home there
home_of_running : (room : RoomState) (cpu : ℕ) (task : Task) → AreRising room → task_of room task.spec.pid ≡ Some task →
    IfSome (sibling_of room cpu).run (Contains (pids_on room cpu)) → (sibling_of room cpu).run ≡ Some task.spec.pid → task.home ≡ cpu
home_of_running room cpu task rises found queued runs =
    let on : Contains (pids_on room cpu) task.spec.pid = subst (λ (run : Option ℕ). IfSome run (Contains (pids_on room cpu))) runs queued in
    All-contains (λ (pid : ℕ). task_of room pid ≡ Some task → task.home ≡ cpu) (pids_on room cpu) task.spec.pid
    (All-map (λ (pid : ℕ). task_of room pid ≡ Some task → task.home ≡ cpu) (λ (other : Task). other.spec.pid) (queued_on room cpu)
    (All-from_recursion (λ (other : Task). task_of room other.spec.pid ≡ Some task → task.home ≡ cpu) (queued_on room cpu)
    (each_weaker (IsQueuedOn room cpu) (λ (other : Task). task_of room other.spec.pid ≡ Some task → task.home ≡ cpu) (queued_on room cpu)
    (λ other is same. let e : other ≡ task = (let f = is.found in cc) in subst (λ (t : Task). t.home ≡ cpu) e is.home) (each_queued room cpu rises))))
    on found

-- So it runs where its home runs it.
is_running_home : (room : RoomState) (task : Task) → AreRising room → task_of room task.spec.pid ≡ Some task →
    ((cpu : ℕ) → cpu < length room.siblings → IfSome (sibling_of room cpu).run (Contains (pids_on room cpu))) →
    is_running room task ≡ runs_it task (sibling_of room task.home)
is_running_home room task rises found each = go (runs_it task (sibling_of room task.home)) refl where
  go : (test : Bool) → runs_it task (sibling_of room task.home) ≡ test → is_running room task ≡ test
  go true is =
      elim (cases_Bool (ltb task.home (length room.siblings))) [
        | inl few ↦ list_any_at (runs_it task) room.siblings task.home absent (ltb-true task.home (length room.siblings) few) is
        | inr past ↦ absurd (both_ways (runs_it task (sibling_of room task.home)) (ap (runs_it task) (get_or_past room.siblings task.home absent (ltb-false task.home (length room.siblings) past))) is)
      ]
  go false is =
      list_any_none (runs_it task) room.siblings
      (λ k d few. false_from_ne_true (runs_it task (get_or room.siblings k d))
      (λ runs.
      let same = get_or_default room.siblings k d absent few in
      let here : runs_it task (sibling_of room k) ≡ true = subst (λ (s : SiblingState). runs_it task s ≡ true) same runs in
      let home : task.home ≡ k = home_of_running room k task rises found (each k few) (run_is (sibling_of room k).run task.spec.pid here) in
      both_ways (runs_it task (sibling_of room task.home)) is (ap (λ (n : ℕ). runs_it task (sibling_of room n)) home ∙ here)))

-- each pid is above 0
some_pid : (room : RoomState) (task : Task) (pid : ℕ) → AreRising room → task_of room pid ≡ Some task → 0 < pid
some_pid room task zero rises found = absurd (let none = shown_zero room rises ∙ ap (option_map (task_view room)) found in cc)
some_pid room task (suc n) rises found = omega arith

-- ---- by what is shown

-- whether what is shown of a sibling runs the pid
abbrev pub shows_run : ℕ → Option CpuView → Bool
shows_run pid shown = option_map_or (λ (home : CpuView). home.run == pid) shown false

task_shown : (moment : Moment) (task : Task) (shown : Option CpuView) → AreRising moment.room → task_of moment.room task.spec.pid ≡ Some task →
    ((cpu : ℕ) → cpu < length moment.room.siblings → IfSome (sibling_of moment.room cpu).run (Contains (pids_on moment.room cpu))) →
    shown ≡ cpu_view moment task.home → shows_run task.spec.pid shown ≡ is_running moment.room task
task_shown moment task None rises found each is =
    elim (cases_Bool (ltb task.home (length moment.room.siblings))) [
      | inl few ↦ absurd (let some = is ∙ cond-true (ltb task.home (length moment.room.siblings)) _ None few in cc)
      | inr past ↦
          sym (is_running_home moment.room task rises found each
          ∙ ap (runs_it task) (get_or_past moment.room.siblings task.home absent (ltb-false task.home (length moment.room.siblings) past)))
    ]
task_shown moment task (Some home) rises found each is =
    ap (λ (n : ℕ). n == task.spec.pid) (shown_cpu moment task.home home is).1
    ∙ run_shown (sibling_of moment.room task.home).run task.spec.pid (some_pid moment.room task task.spec.pid rises found)
    ∙ sym (is_running_home moment.room task rises found each)

-- A task runs where what is shown of its home runs its pid.
pub running_shown : (moment : Moment) (view : TaskView) (shown : Option CpuView) → AreRising moment.room → Some view ≡ shown_at moment.room view.pid →
    ((cpu : ℕ) → cpu < length moment.room.siblings → IfSome (sibling_of moment.room cpu).run (Contains (pids_on moment.room cpu))) →
    shown ≡ cpu_view moment view.cpu → Some (shows_run view.pid shown) ≡ option_map (is_running moment.room) (task_of moment.room view.pid)
running_shown moment view shown rises lives each is = go (task_of moment.room view.pid) refl lives where
  go : (found : Option Task) → task_of moment.room view.pid ≡ found → Some view ≡ option_map (task_view moment.room) found →
      Some (shows_run view.pid shown) ≡ option_map (is_running moment.room) found
  go None e its = absurd cc
  go (Some task) e its =
      let same : view ≡ task_view moment.room task = cc in
      let pid : view.pid ≡ task.spec.pid = ap (λ (v : TaskView). v.pid) same in
      ap Some (ap (λ (n : ℕ). shows_run n shown) pid
      ∙ task_shown moment task shown rises (ap (task_of moment.room) (sym pid) ∙ e) each (is ∙ ap (λ (v : TaskView). cpu_view moment v.cpu) same))
