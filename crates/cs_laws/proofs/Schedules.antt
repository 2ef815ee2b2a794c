-- Schedules: after a schedule every sibling has what fits it.
use Rattle.std.proofs.Common.{◌≡◌, ◌≢◌, ℕ, ◌<◌, Bool, cond, true, false, length, refl, sym, ap, ◌∙◌, subst, inl, inr, arith, Option, Some, None, is_none}
use Rattle.std.specs.Prelude.{◌⊎◌, ◌==◌, ◌&&◌, ◌||◌, not}
use Rattle.std.specs.Option.{IfSome, option_map}
use Rattle.std.proofs.lemmas.Bool.{cond_both, and_parts, eqb-true, eqb-false, both_ways}
use Rattle.cs_types.specs.declared.task.Task.{Task}
use Rattle.cs_types.specs.Room.{RoomState, SiblingState, Waiting, queued_on, sibling_of, is_online, with_sibling}
use Rattle.cs_types.specs.Order.{first_of}
use Rattle.cs_types.specs.Selection.{first_on, queued_with, cookie_of, pid_of, choice, lead_from, is_run, running, select_for, select, pick_plain, is_plain, pick_anew, adopt_or_pick_anew, schedule, adopt, sibling_after_selection}
use Rattle.cs_types.specs.Accounting.{charge, without_interval}
use Rattle.cs_types.specs.Touches.{is_selected}
use Rattle.cs_types.proofs.Filtered.{each-filter, each_found}
use Rattle.cs_laws.proofs.Rising.{AreRising}
use Rattle.cs_laws.proofs.Selections.{choice_matches, is_run_same, numbered_after_selection}
use Rattle.cs_laws.proofs.Siblings.{kept-adopt_or_pick_anew, is_online-alike}
use Rattle.cs_laws.proofs.Spots.{spot_of, spot_at}
use Rattle.cs_laws.proofs.Moves.{spots-select_for}
use Rattle.cs_laws.proofs.Places.{with_sibling_at, enumerated_at}
use Rattle.cs_laws.proofs.Homes.{IsQueuedOn, each_queued}
use Rattle.cs_laws.proofs.Fits.{Fits, IsAt, cookie_at, SiblingFits, AllFit, fits_same, fits_running, fits_waiting, fits_away, all_same, all_placed, fits_absent}
use Rattle.cs_laws.proofs.Freshness.{freshened}

-- ---- what is chosen

-- the first of a sibling, and its choice, are queued on it
pub first_queued : (room : RoomState) (cpu : ℕ) → AreRising room → IfSome (first_on room cpu) (IsQueuedOn room cpu)
first_queued room cpu rises = go (first_on room cpu) refl where
  go : (first : Option Task) → first_on room cpu ≡ first → IfSome first (IsQueuedOn room cpu)
  go None e = tt
  go (Some task) e = each_found (IsQueuedOn room cpu) _ (queued_on room cpu) task e (each_queued room cpu rises)

pub choice_queued : (room : RoomState) (core cpu : ℕ) → AreRising room → IfSome (choice room core cpu) (IsQueuedOn room cpu)
unfolding choice
choice_queued room core cpu rises =
    cond_both (is_none (first_on room cpu) || (cookie_of (first_on room cpu) == core)) _ _ (λ one. IfSome one (IsQueuedOn room cpu)) (λ _. first_queued room cpu rises)
    (λ _. cond_both (core == 0) None (first_of (queued_with room core cpu)) (λ one. IfSome one (IsQueuedOn room cpu)) (λ _. tt) (λ _. go (first_of (queued_with room core cpu)) refl)) where
      go : (first : Option Task) → first_of (queued_with room core cpu) ≡ first → IfSome first (IsQueuedOn room cpu)
      go None e = tt
      go (Some task) e =
          each_found (IsQueuedOn room cpu) _ (queued_with room core cpu) task e
          (each-filter (IsQueuedOn room cpu) (λ (other : Task). other.cookie == core) (queued_on room cpu) (each_queued room cpu rises))

-- so its pid is at the sibling, and its cookie is found by it
pid_at : (room : RoomState) (cpu : ℕ) (chosen : Option Task) → IfSome chosen (IsQueuedOn room cpu) → IfSome (pid_of chosen) (λ pid. IsAt cpu (spot_at room pid))
pid_at room cpu None is = tt
pid_at room cpu (Some task) is = subst (IsAt cpu) (sym (ap (option_map spot_of) is.found)) (is.queued, is.home)

pid_cookie : (room : RoomState) (cpu core : ℕ) (chosen : Option Task) → IfSome chosen (IsQueuedOn room cpu) → (chosen ≡ None) ⊎ (cookie_of chosen ≡ core) →
    IfSome (pid_of chosen) (λ pid. cookie_at (spot_at room pid) ≡ core)
pid_cookie room cpu core None is same = tt
pid_cookie room cpu core (Some task) is (inl e) = absurd cc
pid_cookie room cpu core (Some task) is (inr same) = subst (λ one. cookie_at one ≡ core) (sym (ap (option_map spot_of) is.found)) same

-- ---- plain

-- every sibling but one has what fits it
abbrev pub OthersFit : RoomState → Bool → ℕ → Type 0
OthersFit room fresh cpu = (other : ℕ) → other ≢ cpu → SiblingFits (spot_at room) room.core_cookie fresh other (sibling_of room other)

plain_fits : (room : RoomState) (fresh later : Bool) (cpu : ℕ) → cpu < length room.siblings → is_online room cpu ≡ true → AreRising room → is_plain room cpu ≡ true →
    (later ≡ true → ⊥) → OthersFit room fresh cpu → AllFit (pick_plain room cpu).room later
plain_fits room fresh later cpu below up rises is old fits =
    with_sibling_at (SiblingFits (spot_at room) room.core_cookie later) (without_interval room) cpu
    _ below
    (fits_running (spot_at room) room.core_cookie later cpu sibling.online (pid_of first) false sibling.place up
    (pid_at room cpu first (first_queued room cpu rises)) (pid_cookie room cpu room.core_cookie first (first_queued room cpu rises) (inr same)))
    (λ other differ.
    let one = sibling_of room other in
    fits_same (spot_at room) (spot_at room) room.core_cookie fresh later other one.online one.run one.pending one.waiting one.place (λ pid has here. refl) (λ is. absurd (old is)) (fits other differ)) where
      first : Option Task
      first = first_on room cpu

      sibling : SiblingState
      sibling = sibling_of room cpu

      same : cookie_of (first_on room cpu) ≡ room.core_cookie
      same =
          let outer = and_parts ((room.core_cookie == 0) && (room.forced == 0)) (cookie_of (first_on room cpu) == 0) is in
          let inner = and_parts (room.core_cookie == 0) (room.forced == 0) outer.0 in
          eqb-true (cookie_of (first_on room cpu)) 0 outer.1 ∙ sym (eqb-true room.core_cookie 0 inner.0)

-- ---- selected

-- an online sibling runs its choice, or has it waiting
sibling_after_selection_fits : (room : RoomState) (core : ℕ) (fresh later : Bool) (selector cpu : ℕ) → is_online room cpu ≡ true → AreRising room →
    (cpu ≢ selector → SiblingFits (spot_at room) room.core_cookie fresh cpu (sibling_of room cpu)) →
    SiblingFits (spot_at room) core later cpu (sibling_after_selection room core selector cpu (sibling_of room cpu))
sibling_after_selection_fits room core fresh later selector cpu up rises fits =
    by_tests (cpu == selector) (is_run sibling.run run) refl refl where
      sibling : SiblingState
      sibling = sibling_of room cpu

      run : Option ℕ
      run = pid_of (choice room core cpu)

      here : IfSome run (λ pid. IsAt cpu (spot_at room pid))
      here = pid_at room cpu (choice room core cpu) (choice_queued room core cpu rises)

      same : IfSome run (λ pid. cookie_at (spot_at room pid) ≡ core)
      same = pid_cookie room cpu core (choice room core cpu) (choice_queued room core cpu rises) (choice_matches room core cpu)

      by_tests : (selects runs_it : Bool) → (cpu == selector) ≡ selects → is_run sibling.run run ≡ runs_it →
          Fits (spot_at room) core later cpu sibling.online (cond selects run sibling.run) (not selects && (not runs_it || sibling.pending))
          (cond (selects || runs_it) None (Some run)) sibling.place
      by_tests true runs_it selects runs = fits_running (spot_at room) core later cpu sibling.online run false sibling.place up here same
      by_tests false true other runs =
          fits_running (spot_at room) core later cpu sibling.online sibling.run sibling.pending sibling.place up (fits (eqb-false cpu selector other)).runs
          (subst (λ r. IfSome r (λ pid. cookie_at (spot_at room pid) ≡ core)) (sym (is_run_same sibling.run run runs)) same)
      by_tests false false other runs =
          fits_waiting (spot_at room) core later cpu sibling.online sibling.run run sibling.place up (fits (eqb-false cpu selector other)).runs here same runs

selected_fits : (room : RoomState) (fresh later : Bool) (cpu : ℕ) → is_online room cpu ≡ true → AreRising room → OthersFit room fresh cpu → AllFit (select room cpu).room later
unfolding select_for
selected_fits room fresh later cpu up rises fits =
    all_same (spot_at room) (spot_at (select_for room cpu core)) core later (sibling_of (select_for room cpu core)) (spots-select_for room cpu core) each where
      core : ℕ
      core = cookie_of (lead_from room cpu)

      one : (other : ℕ) → SiblingFits (spot_at room) core later other (numbered_after_selection room core cpu (other, sibling_of room other))
      one other =
          let sibling = sibling_of room other in
          cond_both sibling.online _ sibling (SiblingFits (spot_at room) core later other)
          (λ on. sibling_after_selection_fits room core fresh later cpu other on rises (fits other))
          (λ off. fits_away (spot_at room) core later other sibling.online sibling.run sibling.pending sibling.waiting sibling.place off
          ((fits other (λ e. both_ways sibling.online off (subst (λ n. is_online room n ≡ true) (sym e) up))).away off))

      each : (other : ℕ) → SiblingFits (spot_at room) core later other (sibling_of (select_for room cpu core) other)
      each other =
          enumerated_at (SiblingFits (spot_at room) core later other) (numbered_after_selection room core cpu) 0 room.siblings other (λ _. fits_absent (spot_at room) core later other)
          (subst (λ n. SiblingFits (spot_at room) core later other (numbered_after_selection room core cpu (n, sibling_of room other))) (omega arith) (one other))

-- ---- every schedule

-- a schedule that adopts nothing is a selection where it leaves one fresh
rescheduled_selects : (room : RoomState) (fresh : Bool) (cpu : ℕ) → freshened (pick_anew room cpu).pick.kind fresh ≡ true → is_selected (pick_anew room cpu).pick.kind ≡ true
rescheduled_selects room fresh cpu old =
    cond_both (is_plain room cpu) (pick_plain room cpu) (select room cpu) (λ made. freshened made.pick.kind fresh ≡ true → is_selected made.pick.kind ≡ true)
    (λ _ e. e) (λ _ _. refl) old

rescheduled_fits : (room : RoomState) (fresh later : Bool) (cpu : ℕ) → cpu < length room.siblings → is_online room cpu ≡ true → AreRising room →
    (later ≡ true → is_selected (pick_anew room cpu).pick.kind ≡ true) → OthersFit room fresh cpu → AllFit (pick_anew room cpu).room later
rescheduled_fits room fresh later cpu below up rises old fits =
    cond_both (is_plain room cpu) (pick_plain room cpu) (select room cpu) (λ made. (later ≡ true → is_selected made.pick.kind ≡ true) → AllFit made.room later)
    (λ is old. plain_fits room fresh later cpu below up rises is (λ e. let bad = old e in absurd cc) fits)
    (λ _ _. selected_fits room fresh later cpu up rises fits) old

adopted_fits : (room : RoomState) (later : Bool) (cpu : ℕ) (run : Option ℕ) → cpu < length room.siblings → is_online room cpu ≡ true →
    (sibling_of room cpu).waiting ≡ Some run → AllFit room true → AllFit (adopt room cpu run).room later
adopted_fits room later cpu run below up waits fits =
    let sibling = sibling_of room cpu in
    let its = fits cpu in
    with_sibling_at (SiblingFits (spot_at room) room.core_cookie later) room cpu (running sibling run) below
    (fits_running (spot_at room) room.core_cookie later cpu sibling.online run false sibling.place up
    (subst (λ w. IfSome w (λ chosen. IfSome chosen (λ pid. IsAt cpu (spot_at room pid)))) waits its.waits)
    (subst (λ w. IfSome w (λ chosen. IfSome chosen (λ pid. cookie_at (spot_at room pid) ≡ room.core_cookie))) waits (its.agrees refl)))
    (λ other differ.
    let one = sibling_of room other in
    fits_same (spot_at room) (spot_at room) room.core_cookie true later other one.online one.run one.pending one.waiting one.place (λ pid has here. refl) (λ _. refl) (fits other))

scheduled_fits : (room : RoomState) (fresh later : Bool) (cpu : ℕ) (waiting : Waiting) → cpu < length room.siblings → is_online room cpu ≡ true → AreRising room →
    (sibling_of room cpu).waiting ≡ waiting → (later ≡ true → freshened (adopt_or_pick_anew room fresh cpu waiting).pick.kind fresh ≡ true) → AllFit room fresh →
    AllFit (adopt_or_pick_anew room fresh cpu waiting).room later
scheduled_fits room fresh later cpu None below up rises waits old fits =
    rescheduled_fits (charge room) fresh later cpu below up rises (λ e. rescheduled_selects (charge room) fresh cpu (old e)) (λ other differ. fits other)
scheduled_fits room true later cpu (Some run) below up rises waits old fits = adopted_fits room later cpu run below up waits fits
scheduled_fits room false later cpu (Some run) below up rises waits old fits =
    rescheduled_fits (charge room) false later cpu below up rises (λ e. rescheduled_selects (charge room) false cpu (old e)) (λ other differ. fits other)

-- the place of the sibling's next try to steal makes no difference
balanced_fits : (room : RoomState) (fresh later : Bool) (cpu : ℕ) (waiting : Waiting) (place : ℕ) → is_online room cpu ≡ true →
    AllFit (adopt_or_pick_anew room fresh cpu waiting).room later →
    AllFit (with_sibling (adopt_or_pick_anew room fresh cpu waiting).room cpu (record (sibling_of (adopt_or_pick_anew room fresh cpu waiting).room cpu) { place = place })) later
balanced_fits room fresh later cpu waiting place up fits =
    all_placed (adopt_or_pick_anew room fresh cpu waiting).room later cpu place
    (is_online-alike (adopt_or_pick_anew room fresh cpu waiting).room room (kept-adopt_or_pick_anew room fresh cpu waiting) cpu ∙ up) fits

-- After a schedule of an online sibling every one has what fits it.
pub schedule_fits : (room : RoomState) (fresh later : Bool) (cpu : ℕ) → cpu < length room.siblings → is_online room cpu ≡ true → AreRising room →
    (later ≡ true → freshened (schedule room fresh cpu).pick.kind fresh ≡ true) → AllFit room fresh → AllFit (schedule room fresh cpu).room later
schedule_fits room fresh later cpu below up rises old fits =
    balanced_fits room fresh later cpu (sibling_of room cpu).waiting _ up
    (scheduled_fits room fresh later cpu (sibling_of room cpu).waiting below up rises refl old fits)

-- also of one that had what does not fit it, where it adopts nothing
pub again_fits : (room : RoomState) (fresh later : Bool) (cpu : ℕ) → cpu < length room.siblings → is_online room cpu ≡ true → AreRising room →
    (later ≡ true → freshened (schedule room false cpu).pick.kind false ≡ true) → OthersFit room fresh cpu → AllFit (schedule room false cpu).room later
again_fits room fresh later cpu below up rises old fits =
    balanced_fits room false later cpu (sibling_of room cpu).waiting _ up (go (sibling_of room cpu).waiting old) where
      go : (waiting : Waiting) → (later ≡ true → freshened (adopt_or_pick_anew room false cpu waiting).pick.kind false ≡ true) → AllFit (adopt_or_pick_anew room false cpu waiting).room later
      go None old = rescheduled_fits (charge room) fresh later cpu below up rises (λ e. rescheduled_selects (charge room) false cpu (old e)) fits
      go (Some run) old = rescheduled_fits (charge room) fresh later cpu below up rises (λ e. rescheduled_selects (charge room) false cpu (old e)) fits
