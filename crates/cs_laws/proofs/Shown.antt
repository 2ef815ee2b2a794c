-- Shown: the trust rule, and which sibling adopts, of what a machine shows after a legal history.
use Rattle.std.proofs.Common.{◌≡◌, ◌≢◌, ◌⊎◌, ℕ, ◌-◌, ◌<◌, ◌≤◌, Bool, true, false, ltb, eqb, List, [], ◌∷◌, refl, sym, ap, ◌∙◌, subst, inl, inr, arith, Option, Some, None, is_some}
use Rattle.std.specs.Prelude.{◌↔◌, ◌&&◌, ◌==◌, IsTrue, find, length, IfSome, IsSomeAnd, unwrap_or}
use Rattle.std.specs.Option.{option_map}
use Rattle.std.proofs.lemmas.Bool.{cases_Bool, cond_both, cond-true, cond-false, and_parts, and_from, and_right, both_ways, eq-eqb, eqb-true, lt-ltb}
use Rattle.std.proofs.lemmas.Bool.Decides.{nat_tests}
use Rattle.cs_types.specs.declared.task.Task.{Task}
use Rattle.cs_types.specs.declared.view.TaskView.{TaskView}
use Rattle.cs_types.specs.declared.event.Event.TheVariants.{Turn, Resched}
use Rattle.cs_types.specs.Scenario.{IsPlayable}
use Rattle.cs_types.specs.Room.{Opening, RoomState, Waiting, has_pid, sibling_of, task_of, is_online}
use Rattle.cs_types.specs.Accounting.{charge}
use Rattle.cs_types.specs.Selection.{is_plain, pick_plain, select, pick_anew, adopt_or_pick_anew}
use Rattle.cs_types.specs.Step.{Stepped, try_steal}
use Rattle.cs_types.specs.Steal.{stolen}
use Rattle.cs_types.specs.Touches.{is_adopted, task_number, pick_number, own_number, is_fresh}
use Rattle.cs_types.specs.History.{History, Moment, step_at, AreEvents, IsLegal, moment_of}
use Rattle.cs_types.specs.View.{core_view, cpu_view, task_view, task_view_after, IsTrusted, adopts, AdoptsByNumbers}
use Rattle.cs_types.proofs.Foremost.{find_passes}
use Rattle.cs_laws.proofs.Rising.{Rises}
use Rattle.cs_laws.proofs.Spots.{spot_of, spot_at}
use Rattle.cs_laws.proofs.Fits.{IsAt, cookie_at}
use Rattle.cs_laws.proofs.Numbers.{own_number-le, fresh-ledger_of}
use Rattle.cs_laws.proofs.Trust.{Holds, holds-moment_of}

-- ---- the task with a pid is the one with the least pid above the pid below it

above_low : (low high pid : ℕ) (tasks : List Task) (task : Task) → Rises low high tasks → find (has_pid pid) tasks ≡ Some task → low < pid
above_low low high pid [] task rises found = absurd cc
above_low low high pid (first ∷ rest) task rises found =
    elim (cases_Bool (has_pid pid first)) [
      | inl here ↦ let under = rises.0 in omega (arith, under, eqb-true first.spec.pid pid here)
      | inr other ↦
          let under = rises.0 in
          let later = above_low first.spec.pid high pid rest task rises.1 (sym (cond-false (has_pid pid first) (Some first) (find (has_pid pid) rest) other) ∙ found) in
          omega (arith, under, later)
    ]

least_above : (low high pid : ℕ) (tasks : List Task) (task : Task) → Rises low high tasks → find (has_pid pid) tasks ≡ Some task →
    find (λ (t : Task). ltb (pid - 1) t.spec.pid) tasks ≡ Some task
least_above low high pid [] task rises found = absurd cc
least_above low high pid (first ∷ rest) task rises found =
    elim (cases_Bool (has_pid pid first)) [
      | inl here ↦
          let under = rises.0 in
          let passes : ltb (pid - 1) first.spec.pid ≡ true = lt-ltb (pid - 1) first.spec.pid (omega (arith, under, eqb-true first.spec.pid pid here)) in
          cond-true (ltb (pid - 1) first.spec.pid) (Some first) (find (λ (t : Task). ltb (pid - 1) t.spec.pid) rest) passes
          ∙ sym (cond-true (has_pid pid first) (Some first) (find (has_pid pid) rest) here) ∙ found
      | inr other ↦
          let rest_found = sym (cond-false (has_pid pid first) (Some first) (find (has_pid pid) rest) other) ∙ found in
          let later = above_low first.spec.pid high pid rest task rises.1 rest_found in
          let fails : ltb (pid - 1) first.spec.pid ≡ false = grind (arith, nat_tests) in
          cond-false (ltb (pid - 1) first.spec.pid) (Some first) (find (λ (t : Task). ltb (pid - 1) t.spec.pid) rest) fails
          ∙ least_above first.spec.pid high pid rest task rises.1 rest_found
    ]

-- ---- a sibling

-- the task that a sibling runs is shown with the core cookie, where that is the task's
shown_with : (moment : Moment) (cpu pid : ℕ) (found : Option Task) → Rises 0 moment.room.next_pid moment.room.tasks → find (has_pid pid) moment.room.tasks ≡ found →
    IsAt cpu (option_map spot_of found) → cookie_at (option_map spot_of found) ≡ moment.room.core_cookie →
    IsSomeAnd (task_view_after moment (pid - 1)) (λ (task : TaskView). (task.pid ≡ pid) × (task.cookie ≡ moment.room.core_cookie))
shown_with moment cpu pid None rises found here same = absurd here
shown_with moment cpu pid (Some task) rises found here same =
    subst (λ one. IsSomeAnd (option_map (task_view moment.room) one) (λ (t : TaskView). (t.pid ≡ pid) × (t.cookie ≡ moment.room.core_cookie)))
    (sym (least_above 0 moment.room.next_pid pid moment.room.tasks task rises found))
    (eqb-true task.spec.pid pid (find_passes (has_pid pid) moment.room.tasks task found), same)

-- what a sibling runs is trusted, where it has what fits it
trusted_run : (moment : Moment) (cpu : ℕ) (run : Option ℕ) → Rises 0 moment.room.next_pid moment.room.tasks →
    IfSome run (λ pid. IsAt cpu (spot_at moment.room pid)) → IfSome run (λ pid. cookie_at (spot_at moment.room pid) ≡ moment.room.core_cookie) →
    (unwrap_or run 0 ≡ 0) ⊎ IsSomeAnd (task_view_after moment (unwrap_or run 0 - 1)) (λ (task : TaskView). (task.pid ≡ unwrap_or run 0) × (task.cookie ≡ moment.room.core_cookie))
trusted_run moment cpu None rises here same = inl refl
trusted_run moment cpu (Some pid) rises here same = inr (shown_with moment cpu pid (task_of moment.room pid) rises refl here same)

trusted_at : (moment : Moment) (cpu : ℕ) → Holds moment → IfSome (cpu_view moment cpu) (IsTrusted (core_view moment) (task_view_after moment))
trusted_at moment cpu holds = cond_both (ltb cpu (length moment.room.siblings)) _ None (λ shown. IfSome shown (IsTrusted (core_view moment) (task_view_after moment)))
    (λ _ online calm. let its = holds.fits cpu in trusted_run moment cpu (sibling_of moment.room cpu).run holds.rises its.runs (its.trusted online calm))
    (λ _. tt)

-- After every legal history what is shown of a sibling keeps the trust rule.
pub trusted-cpu_view : (opening : Opening) (history : History) → IsPlayable opening.scenario → AreEvents opening history → IsLegal opening history → (cpu : ℕ) →
    let moment = moment_of opening history in IfSome (cpu_view moment cpu) (IsTrusted (core_view moment) (task_view_after moment))
trusted-cpu_view opening history playable events legal cpu =
    trusted_at (moment_of opening history) cpu (holds-moment_of opening history playable events legal)

-- ---- adoptions

-- whether something that waits for a sibling is fresh
abbrev has_fresh : Moment → ℕ → Bool
has_fresh moment cpu = is_fresh moment.ledger && is_some (sibling_of moment.room cpu).waiting

none_adopts : (room : RoomState) (cpu : ℕ) → is_adopted (pick_anew room cpu).pick.kind ≡ false
none_adopts room cpu =
    cond_both (is_plain room cpu) (pick_plain room cpu) (select room cpu) (λ made. is_adopted made.pick.kind ≡ false) (λ _. refl) (λ _. refl)

scheduled_adopts : (room : RoomState) (fresh : Bool) (cpu : ℕ) (waiting : Waiting) →
    is_adopted (adopt_or_pick_anew room fresh cpu waiting).pick.kind ≡ (fresh && is_some waiting)
scheduled_adopts room true cpu None = none_adopts (charge room) cpu
scheduled_adopts room false cpu None = none_adopts (charge room) cpu
scheduled_adopts room true cpu (Some run) = refl
scheduled_adopts room false cpu (Some run) = none_adopts (charge room) cpu

-- where nothing waits, nothing fresh does
none_fresh : (moment : Moment) (cpu : ℕ) → (sibling_of moment.room cpu).waiting ≡ None → false ≡ has_fresh moment cpu
none_fresh moment cpu none = sym (and_right (is_fresh moment.ledger) _ (ap is_some none))

-- nothing waits for a sibling that is not pending
calm_waits : (pending : Bool) (waiting : Waiting) → IfSome waiting (λ run. pending ≡ true) → pending ≡ false → waiting ≡ None
calm_waits pending None flags calm = refl
calm_waits pending (Some run) flags calm = absurd (both_ways pending calm flags)

-- A reschedule adopts exactly where something fresh waits.
resched_adopts : (moment : Moment) (cpu : ℕ) → Holds moment → adopts (step_at moment (Resched cpu)).reply ≡ has_fresh moment cpu
resched_adopts moment cpu holds =
    cond_both (is_online moment.room cpu) _ _ (λ (made : Stepped). adopts made.reply ≡ has_fresh moment cpu)
    (λ _. scheduled_adopts moment.room (is_fresh moment.ledger) cpu (sibling_of moment.room cpu).waiting)
    (λ off. none_fresh moment cpu ((holds.fits cpu).away off).2)

-- So does a turn.
turn_adopts : (moment : Moment) (cpu : ℕ) → Holds moment → adopts (step_at moment (Turn cpu)).reply ≡ has_fresh moment cpu
turn_adopts moment cpu holds =
    cond_both (is_online moment.room cpu) _ _ Adopts
    (λ _. cond_both sibling_pending _ _ Adopts (λ _. scheduled_adopts moment.room (is_fresh moment.ledger) cpu (sibling_of moment.room cpu).waiting)
    (λ calm. let none = none_fresh moment cpu (calm_waits sibling_pending (sibling_of moment.room cpu).waiting (holds.fits cpu).flags calm) in
    cond_both ((sibling_of moment.room cpu).place == 0) _ _ Adopts (λ _. none) (λ _. steals (stolen moment.room cpu) ∙ none)))
    (λ off. none_fresh moment cpu ((holds.fits cpu).away off).2) where
      Adopts : Stepped → Type 0
      Adopts made = adopts made.reply ≡ has_fresh moment cpu

      sibling_pending : Bool
      sibling_pending = (sibling_of moment.room cpu).pending

      steals : (task : Option Task) → adopts (try_steal moment.room cpu task).reply ≡ false
      steals None = refl
      steals (Some task) = refl

-- The numbers tell it.
by_numbers : (fresh : Bool) (task pick own : ℕ) (waiting : Waiting) → fresh ≡ (ltb 0 pick && eqb pick task) → own ≤ pick → IfSome waiting (λ run. own < pick) →
    IsTrue (fresh && is_some waiting) ↔ ((pick ≡ task) × (own ≢ pick) × (waiting ≢ None))
by_numbers fresh task pick own None same low behind =
    (λ is. let bad = (and_parts fresh false is).1 in absurd cc, λ due. absurd (due.2 refl))
by_numbers fresh task pick own (Some run) same low behind = (
  λ is. (eqb-true pick task (and_parts (ltb 0 pick) (eqb pick task) (sym same ∙ (and_parts fresh true is).0)).1, λ e. absurd (omega (arith, behind, e)), λ none. absurd cc),
  λ due. let differ = due.1 in
      and_from fresh true (same ∙ and_from (ltb 0 pick) (eqb pick task) (lt-ltb 0 pick (omega (arith, low, differ))) (eq-eqb pick task due.0)) refl,
)

adopts_at : (moment : Moment) (cpu : ℕ) → is_fresh moment.ledger ≡ (ltb 0 (pick_number moment.ledger) && eqb (pick_number moment.ledger) (task_number moment.ledger)) → Holds moment →
    IfSome (cpu_view moment cpu) (AdoptsByNumbers moment cpu (task_number moment.ledger, pick_number moment.ledger))
adopts_at moment cpu fresh holds =
    cond_both (ltb cpu (length moment.room.siblings)) _ None (λ shown. IfSome shown (AdoptsByNumbers moment cpu (task_number moment.ledger, pick_number moment.ledger)))
    (λ _. record { turn = subst Tells (sym (turn_adopts moment cpu holds)) tells; resched = subst Tells (sym (resched_adopts moment cpu holds)) tells }) (λ _. tt) where
      task : ℕ
      task = task_number moment.ledger

      pick : ℕ
      pick = pick_number moment.ledger

      own : ℕ
      own = own_number cpu moment.ledger

      Tells : Bool → Type 0
      Tells test = IsTrue test ↔ ((pick ≡ task) × (own ≢ pick) × ((sibling_of moment.room cpu).waiting ≢ None))

      tells : Tells (has_fresh moment cpu)
      tells = by_numbers (is_fresh moment.ledger) task pick own (sibling_of moment.room cpu).waiting fresh (own_number-le cpu moment.ledger) (holds.behind cpu)

-- After every legal history a turn and a reschedule of a sibling adopt exactly where it is to by the numbers that are shown.
pub adopts-cpu_view : (opening : Opening) (history : History) → IsPlayable opening.scenario → AreEvents opening history → IsLegal opening history → (cpu : ℕ) →
    let moment = moment_of opening history in
    IfSome (cpu_view moment cpu) (AdoptsByNumbers moment cpu (task_number moment.ledger, pick_number moment.ledger))
adopts-cpu_view opening history playable events legal cpu =
    adopts_at (moment_of opening history) cpu (fresh-ledger_of opening history) (holds-moment_of opening history playable events legal)
