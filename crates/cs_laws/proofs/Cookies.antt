-- Cookies: after a call of `prctl` each sibling has what fits it.
use Rattle.std.proofs.Common.{◌≡◌, ℕ, ◌+◌, Bool, cond, true, false, List, [], ◌∷◌, refl, sym, ap, ◌∙◌, subst, inl, inr, arith, Option, Some, None}
use Rattle.std.specs.Prelude.{◌==◌, ◌||◌, sum_by}
use Rattle.std.specs.List.{AllByRecursion, list_any}
use Rattle.std.specs.Option.{option_map, option_map_or}
use Rattle.std.proofs.lemmas.Bool.{cases_Bool, cond_both, cond-false, or_parts, or_from, eqb-true}
use Rattle.std.proofs.lemmas.Bool.Decides.{nat_tests}
use Rattle.std.proofs.lemmas.List.Sums.{sum_by-cons}
use Rattle.std.proofs.lemmas.Option.{same_Some}
use Rattle.cs_types.specs.declared.task.Task.{Task}
use Rattle.cs_types.specs.declared.event.Ask.{Ask}
use Rattle.cs_types.specs.declared.event.Event.TheVariants.{Prctl}
use Rattle.cs_types.specs.declared.reply.Reply.{Reply}
use Rattle.cs_types.specs.declared.reply.Reply.TheVariants.{Zero}
use Rattle.cs_types.specs.Room.{RoomState, SiblingState, Waiting, has_pid, sibling_of, task_of}
use Rattle.cs_types.specs.Prctl.{asked_by_call, Setting, setting_by, setting_of, target_of, is_share_from, is_in_scope, is_set, runs_one, set_cookies, makes_cookie, with_used, with_answer, prctl_answer, prctl_room}
use Rattle.cs_types.specs.Touches.{cookie_touches, setting_touches, selection_of}
use Rattle.cs_types.proofs.Filtered.{each-filter}
use Rattle.cs_laws.proofs.Tasks.{found_again}
use Rattle.cs_laws.proofs.Rising.{AreRising}
use Rattle.cs_laws.proofs.Selections.{prctl_selects_nothing}
use Rattle.cs_laws.proofs.Spots.{Spot, spot_of, spot_at, each_is_found}
use Rattle.cs_laws.proofs.Moves.{spot_set, spots-set_cookies}
use Rattle.cs_laws.proofs.Places.{mapped_at}
use Rattle.cs_laws.proofs.Fits.{IsAt, cookie_at, Fits, SiblingFits, AllFit, fits_where, fits_absent, all_later}
use Rattle.cs_laws.proofs.Freshness.{fresh_after, fresh_before}

-- ---- the tasks that a call sets

-- each is living, as it stands in the room
abbrev AreFound : RoomState → List Task → Type 0
AreFound room tasks = AllByRecursion (λ task. task_of room task.spec.pid ≡ Some task) tasks

by_is_found : (room : RoomState) (caller target : Task) (ask : Ask) → AreRising room → task_of room caller.spec.pid ≡ Some caller → AreFound room (setting_by room caller target ask).tasks
by_is_found room caller target ask rises found =
    cond_both (is_share_from ask) _ _ (λ (set : Setting). AreFound room set.tasks) (λ _. (found, tt))
    (λ _. each-filter (λ task. task_of room task.spec.pid ≡ Some task) (λ task. is_in_scope ask.scope target.spec task.spec) room.tasks (each_is_found 0 room.next_pid room.tasks rises))

setting_is_found : (room : RoomState) (pid : ℕ) (ask : Ask) → AreRising room → AreFound room (setting_of room pid ask).tasks
setting_is_found room pid ask rises = go (task_of room pid) refl where
  for_target : (caller : Task) → task_of room caller.spec.pid ≡ Some caller → (target : Option Task) →
      AreFound room (option_map_or (λ target. setting_by room caller target ask) target (record { tasks = []; cookie = 0 })).tasks
  for_target caller found None = tt
  for_target caller found (Some target) = by_is_found room caller target ask rises found

  go : (caller : Option Task) → task_of room pid ≡ caller →
      AreFound room (option_map_or (λ caller. option_map_or (λ target. setting_by room caller target ask) (target_of room pid ask) (record { tasks = []; cookie = 0 })) caller (record { tasks = []; cookie = 0 })).tasks
  go None e = tt
  go (Some caller) e = for_target caller (found_again pid room.tasks caller e) (target_of room pid ask)

-- where none touches, none of them does
none_touches : (cookie : ℕ) (tasks : List Task) → sum_by (cookie_touches cookie) tasks ≡ 0 → AllByRecursion (λ task. cookie_touches cookie task ≡ 0) tasks
none_touches cookie [] none = tt
none_touches cookie (task ∷ tasks) none =
    let sum = sum_by-cons (cookie_touches cookie) task tasks in
    (omega (arith, sum, none), none_touches cookie tasks (omega (arith, sum, none)))

-- so a queued one has the cookie already
had_it : (cookie own : ℕ) (queued : Bool) → queued ≡ true → cond queued (cond (own == 0) 0 1 + cond (cookie == 0) 0 1) 0 ≡ 0 → cookie ≡ own
had_it cookie own queued is none = grind (arith, nat_tests)

-- a task that is set is one of them
with_set : {R : Type 0} (pid : ℕ) (P Q : Task → Type 0) (tasks : List Task) → list_any (has_pid pid) tasks ≡ true → AllByRecursion P tasks → AllByRecursion Q tasks →
    ((task : Task) → has_pid pid task ≡ true → P task → Q task → R) → R
with_set pid P Q [] any ps qs then = absurd cc
with_set pid P Q (task ∷ tasks) any ps qs then =
    elim (cases_Bool (has_pid pid task)) [
      | inl is ↦ then task is ps.0 qs.0
      | inr isnt ↦ with_set pid P Q tasks (sym (ap (λ b. b || list_any (has_pid pid) tasks) isnt) ∙ any) ps.1 qs.1 then
    ]

-- A setting that does not touch leaves the cookie of each queued task.
same_cookie : (room : RoomState) (set : Setting) → AreFound room set.tasks → setting_touches set ≡ 0 → (cpu pid : ℕ) → IsAt cpu (spot_at room pid) →
    cookie_at (option_map (spot_set set pid) (spot_at room pid)) ≡ cookie_at (spot_at room pid)
same_cookie room set found none cpu pid here = go (spot_at room pid) refl here where
  go : (one : Option Spot) → spot_at room pid ≡ one → IsAt cpu one → cookie_at (option_map (spot_set set pid) one) ≡ cookie_at one
  go None e here = refl
  go (Some spot) e here =
      cond_both (is_set set pid) (record spot { cookie = set.cookie }) spot (λ (s : Spot). s.cookie ≡ spot.cookie)
      (λ is. with_set pid (λ task. task_of room task.spec.pid ≡ Some task) (λ task. cookie_touches set.cookie task ≡ 0) set.tasks is found (none_touches set.cookie set.tasks none)
      (λ task its there untouched.
      let at : spot_at room pid ≡ Some (spot_of task) = ap (spot_at room) (sym (eqb-true task.spec.pid pid its)) ∙ ap (option_map spot_of) there in
      let same : spot_of task ≡ spot = same_Some (spot_of task) spot (sym at ∙ e) in
      had_it set.cookie task.cookie task.queued (ap (λ (s : Spot). s.queued) same ∙ here.0) untouched ∙ ap (λ (s : Spot). s.cookie) same))
      (λ _. refl)

-- ---- the siblings after a setting

set_fits : (room : RoomState) (fresh later : Bool) (set : Setting) → AreFound room set.tasks → (later ≡ true → (setting_touches set ≡ 0) × (fresh ≡ true)) → AllFit room fresh →
    AllFit (set_cookies room set) later
set_fits room fresh later set found old fits cpu =
    subst (λ at. SiblingFits at room.core_cookie later cpu (sibling_of (set_cookies room set) cpu)) (λ i pid. sym (spots-set_cookies room set pid) i)
    (mapped_at (SiblingFits now room.core_cookie later cpu) (λ sibling. record sibling { pending = sibling.pending || runs_one set sibling }) room.siblings cpu
    (fits_absent now room.core_cookie later cpu)
    (go sibling.online sibling.run sibling.pending sibling.waiting sibling.place (fits cpu))) where
      sibling : SiblingState
      sibling = sibling_of room cpu

      now : ℕ → Option Spot
      now pid = option_map (spot_set set pid) (spot_at room pid)

      stays : (pid : ℕ) (one : Option Spot) → IsAt cpu one → IsAt cpu (option_map (spot_set set pid) one)
      stays pid None here = here
      stays pid (Some spot) here =
          cond_both (is_set set pid) (record spot { cookie = set.cookie }) spot (λ (s : Spot). (s.queued ≡ true) × (s.home ≡ cpu)) (λ _. here) (λ _. here)

      unset : (pid : ℕ) → is_set set pid ≡ false → (one : Option Spot) → option_map (spot_set set pid) one ≡ one
      unset pid isnt None = refl
      unset pid isnt (Some spot) = ap Some (cond-false (is_set set pid) (record spot { cookie = set.cookie }) spot isnt)

      go : (up : Bool) (run : Option ℕ) (pending : Bool) (waiting : Waiting) (place : ℕ) → Fits (spot_at room) room.core_cookie fresh cpu up run pending waiting place →
          Fits now room.core_cookie later cpu up run (pending || option_map_or (is_set set) run false) waiting place
      go up run pending waiting place its =
          fits_where (spot_at room) now room.core_cookie fresh later cpu up run pending (pending || option_map_or (is_set set) run false) waiting place
          (λ pid has here. stays pid (spot_at room pid) here)
          (λ is. ((old is).1, λ pid waits here. same_cookie room set found (old is).0 cpu pid here))
          (λ calm. (
            (or_parts pending (option_map_or (is_set set) run false) calm).0,
            λ pid runs here. ap cookie_at (unset pid (sym (ap (λ r. option_map_or (is_set set) r false) runs) ∙ (or_parts pending (option_map_or (is_set set) run false) calm).1) (spot_at room pid)),
          ))
          (λ off. or_from pending (option_map_or (is_set set) run false) (its.away off).1 (ap (λ r. option_map_or (is_set set) r false) (its.away off).0)) its

-- After a call each sibling has what fits it.
pub prctl-fits : (room : RoomState) (fresh : Bool) (caller : ℕ) (ask : Ask) → AreRising room → AllFit room fresh →
    AllFit (prctl_room room caller ask) (fresh_after room fresh (Prctl caller ask) (prctl_answer room caller ask))
prctl-fits room fresh caller ask rises fits = go (prctl_answer room caller ask) (prctl_selects_nothing room caller ask) where
  made : RoomState
  made = with_used room (makes_cookie room caller ask) (asked_by_call room caller ask)

  go : (answer : Reply) → selection_of answer ≡ None → AllFit (with_answer made (setting_of room caller ask) answer) (fresh_after room fresh (Prctl caller ask) answer)
  go Zero none =
      set_fits made fresh _ (setting_of room caller ask) (setting_is_found room caller ask rises) (λ later. fresh_before room fresh (Prctl caller ask) Zero none later) fits
  go answer none = all_later made fresh _ (λ later. (fresh_before room fresh (Prctl caller ask) answer none later).1) fits
