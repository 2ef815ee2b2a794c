-- Orders: after every step but a call each sibling has what fits it.
use Rattle.std.proofs.Common.{◌≡◌, ◌≢◌, ℕ, ◌<◌, Bool, cond, true, false, length, get_or, refl, sym, ap, ◌∙◌, subst, inl, inr, Option, Some, None}
use Rattle.std.specs.Prelude.{◌==◌, ◌&&◌, ◌||◌, not, nat_lt, find, unwrap_or}
use Rattle.std.specs.Option.{IfSome, option_map}
use Rattle.std.proofs.lemmas.Bool.{cond_both, cond-false, and_parts, and_right, eqb-true, eq-eqb, both_ways, not-true, or_parts, or_from, false_from_ne_true}
use Rattle.cs_types.specs.declared.task.Task.{Task}
use Rattle.cs_types.specs.declared.task.Policy.{Policy}
use Rattle.cs_types.specs.declared.event.Event.{Event}
use Rattle.cs_types.specs.declared.event.Event.TheVariants.{Turn, Block, Exit, Tick, Wake, Fork, SetSched, Offline, Online, Load, Unload}
use Rattle.cs_types.specs.declared.reply.Reply.TheVariants.{Loaded, NoGuard, Dropped, Picked, Set, Done}
use Rattle.cs_types.specs.Room.{RoomState, Waiting, absent, has_pid, sibling_of, running_on, is_online, online, task_of, with_task, flag}
use Rattle.cs_types.specs.Selection.{schedule, is_run}
use Rattle.cs_types.specs.Queueing.{dequeue, enqueue, refreshed, moved, rehomed, preempts, queue_at_home}
use Rattle.cs_types.specs.Step.{load_answer, unload_answer, Stepped, picked, wake, block, exit, fork, turn, without, has_threads, child_of, child_at_home, may_not_fork, with_child, tick, run_idle, try_steal, with_policy, set_policy, with_policy_set, take_offline, bring_online}
use Rattle.cs_types.specs.Steal.{source_of, may_steal, stolen, set_place, next_place}
use Rattle.cs_types.specs.Hotplug.{back, lowest_other, leave}
use Rattle.cs_types.specs.Accounting.{charge}
use Rattle.cs_types.specs.Time.{begin_slice, asks_at_tick, advanced}
use Rattle.cs_types.proofs.Foremost.{find_none, each_weaker}
use Rattle.cs_laws.proofs.Tasks.{found_again}
use Rattle.cs_laws.proofs.Rising.{AreRising, below_high, rising-dequeue, rising-without}
use Rattle.cs_laws.proofs.Siblings.{kept, kept-with_sibling, kept-run_idle, kept-without, length-alike, is_online-alike}
use Rattle.cs_laws.proofs.Spots.{Spot, spot_of, spot_at}
use Rattle.cs_laws.proofs.Moves.{spots-advanced, spots-ticked_room, spots-queue_at_home, spots-dequeue, spots-without, spots-moved, spots-with_child, spots-with_policy, spots-requeue, spot_off, spots-leave}
use Rattle.cs_laws.proofs.Places.{with_sibling_at, with_sibling_either}
use Rattle.cs_laws.proofs.Homes.{IsHoused, IsQueuedOn, stolen_is, running_is_found, rehomed_is_online, rehomed_is_found, child_at_home_is_online, child_is_found, sibling_of-advanced, sibling_of-without}
use Rattle.cs_laws.proofs.Fits.{IsAt, cookie_at, Fits, SiblingFits, AllFit, Has, fits_where, fits_moved, fits_running, fits_away, fits_absent, all_same, all_later, all_flagged, all_placed}
use Rattle.cs_laws.proofs.Freshness.{fresh_after, fresh_before, picked_fresh, slept_fresh, ended_fresh}
use Rattle.cs_laws.proofs.Schedules.{OthersFit, schedule_fits, again_fits}
use Rattle.cs_types.specs.Guards.{guard_of, is_bench, is_active, load, unload}

-- ---- steps

-- after a step that an event made, every sibling has what fits it
abbrev pub StepFits : RoomState → Bool → Event → Stepped → Type 0
StepFits room fresh event made = AllFit made.room (fresh_after room fresh event made.reply)

-- a task that no sibling has moves
all_moved : (old new : RoomState) (fresh later : Bool) (moves : ℕ) (spot : Option Spot) → new.siblings ≡ old.siblings → new.core_cookie ≡ old.core_cookie →
    ((pid : ℕ) → spot_at new pid ≡ cond (pid == moves) spot (spot_at old pid)) →
    ((cpu : ℕ) → Has (sibling_of old cpu).run (sibling_of old cpu).waiting moves → IsAt cpu (spot_at old moves) → ⊥) → (later ≡ true → fresh ≡ true) →
    AllFit old fresh → AllFit new later
all_moved old new fresh later moves spot same core moved hasnt still fits cpu =
    let sibling = sibling_of old cpu in
    subst (λ s. SiblingFits (spot_at new) new.core_cookie later cpu (get_or s cpu absent)) (sym same)
    (subst (λ c. SiblingFits (spot_at new) c later cpu sibling) (sym core)
    (fits_moved (spot_at old) (spot_at new) old.core_cookie fresh later cpu sibling.online sibling.run sibling.pending sibling.waiting sibling.place moves spot moved (hasnt cpu) still (fits cpu)))

-- ---- turn and resched

pub resched-fits : (room : RoomState) (fresh : Bool) (event : Event) (cpu : ℕ) → cpu < length room.siblings → is_online room cpu ≡ true → AreRising room → AllFit room fresh →
    StepFits room fresh event (picked Picked (schedule room fresh cpu))
resched-fits room fresh event cpu below up rises fits =
    schedule_fits room fresh _ cpu below up rises (picked_fresh room fresh event (schedule room fresh cpu).pick) fits

try_steal-fits : (room : RoomState) (fresh : Bool) (cpu : ℕ) (task : Option Task) → is_online room cpu ≡ true → AreRising room → IsHoused room → stolen room cpu ≡ task → AllFit room fresh →
    StepFits room fresh (Turn cpu) (try_steal room cpu task)
try_steal-fits room fresh cpu None up rises housed made fits = all_placed room fresh cpu (next_place room cpu) up fits
try_steal-fits room fresh cpu (Some task) up rises housed made fits =
    all_flagged after false source _ (is_online-alike after room kept_after source ∙ its_home)
    (all_flagged placed false cpu true (is_online-alike placed room kept_placed cpu ∙ up)
    (all_placed (moved room cpu task) false cpu 0 up
    (all_moved room (moved room cpu task) fresh false task.spec.pid _ refl refl (spots-moved room cpu task is.0.found) hasnt (λ e. absurd cc) fits))) where
      source : ℕ
      source = source_of room cpu

      is : IsQueuedOn room source task × (may_steal (sibling_of room cpu) (sibling_of room source) task ≡ true)
      is = stolen_is room cpu task rises made

      placed : RoomState
      placed = set_place (moved room cpu task) cpu 0

      after : RoomState
      after = flag placed cpu true

      kept_placed : kept placed ≡ kept room
      kept_placed = kept-with_sibling (moved room cpu task) cpu _ refl

      kept_after : kept after ≡ kept room
      kept_after = kept-with_sibling placed cpu _ refl ∙ kept_placed

      its_home : is_online room source ≡ true
      its_home =
          subst (λ n. is_online room n ≡ true) is.0.home
          (subst (λ one. IfSome one (λ (spot : Spot). spot.queued ≡ true → is_online room spot.home ≡ true)) (ap (option_map spot_of) is.0.found) (housed.homes task.spec.pid) is.0.queued)

      waits_not : Bool
      waits_not = not (is_run (unwrap_or (sibling_of room source).waiting None) (Some task.spec.pid))

      runs_not : Bool
      runs_not = not (is_run (sibling_of room source).run (Some task.spec.pid))

      passes : (waits_not ≡ true) × (runs_not ≡ true)
      passes = and_parts waits_not runs_not (and_parts (waits_not && runs_not) (not (nat_lt (sibling_of room cpu).occupation task.occupation)) is.1).0

      at_source : (other : ℕ) → Has (sibling_of room other).run (sibling_of room other).waiting task.spec.pid → other ≡ source → ⊥
      at_source other (inl runs) same =
          both_ways (is_run (sibling_of room source).run (Some task.spec.pid)) (not-true (is_run (sibling_of room source).run (Some task.spec.pid)) passes.1)
          (ap (λ run. is_run run (Some task.spec.pid)) (sym (ap (λ n. (sibling_of room n).run) same) ∙ runs) ∙ eq-eqb _ _ refl)
      at_source other (inr waits) same =
          both_ways (is_run (unwrap_or (sibling_of room source).waiting None) (Some task.spec.pid)) (not-true (is_run (unwrap_or (sibling_of room source).waiting None) (Some task.spec.pid)) passes.0)
          (ap (λ (w : Waiting). is_run (unwrap_or w None) (Some task.spec.pid)) (sym (ap (λ n. (sibling_of room n).waiting) same) ∙ waits) ∙ eq-eqb _ _ refl)

      hasnt : (other : ℕ) → Has (sibling_of room other).run (sibling_of room other).waiting task.spec.pid → IsAt other (spot_at room task.spec.pid) → ⊥
      hasnt other has here = at_source other has (sym (subst (IsAt other) (ap (option_map spot_of) is.0.found) here).1 ∙ is.0.home)

pub turn-fits : (room : RoomState) (fresh : Bool) (cpu : ℕ) → cpu < length room.siblings → is_online room cpu ≡ true → AreRising room → IsHoused room → AllFit room fresh →
    StepFits room fresh (Turn cpu) (turn room fresh cpu)
turn-fits room fresh cpu below up rises housed fits =
    cond_both (sibling_of room cpu).pending _ _ (StepFits room fresh (Turn cpu)) (λ _. resched-fits room fresh (Turn cpu) cpu below up rises fits)
    (λ _. cond_both ((sibling_of room cpu).place == 0) _ _ (StepFits room fresh (Turn cpu)) (λ _. fits) (λ _. try_steal-fits room fresh cpu (stolen room cpu) up rises housed refl fits))

-- ---- block and exit

-- a task that a sibling runs is at no other
runs_alone : (room : RoomState) (cpu other : ℕ) (task : Task) → task_of room task.spec.pid ≡ Some task → IsAt cpu (spot_at room task.spec.pid) → other ≢ cpu →
    IsAt other (spot_at room task.spec.pid) → ⊥
runs_alone room cpu other task found here differ there = go (spot_at room task.spec.pid) here there where
  go : (one : Option Spot) → IsAt cpu one → IsAt other one → ⊥
  go None here there = here
  go (Some spot) here there = differ (sym there.1 ∙ here.1)

-- the other siblings have what fits them in the room without it
others_fit : (room gone : RoomState) (fresh : Bool) (cpu : ℕ) (task : Task) (spot : Option Spot) → cpu < length room.siblings → running_on room cpu ≡ Some task →
    gone.siblings ≡ room.siblings → gone.core_cookie ≡ room.core_cookie → ((pid : ℕ) → spot_at gone pid ≡ cond (pid == task.spec.pid) spot (spot_at room pid)) →
    AllFit room fresh → OthersFit (run_idle gone cpu) fresh cpu
others_fit room gone fresh cpu task spot below runs same core moved fits other differ =
    with_sibling_at (λ n s. n ≢ cpu → SiblingFits (spot_at gone) gone.core_cookie fresh n s) gone cpu (record (sibling_of gone cpu) { run = None })
    (subst (λ ss. cpu < length ss) (sym same) below) (λ isnt. absurd (isnt refl)) (λ n _. there n) other differ where
      found : ((sibling_of room cpu).run ≡ Some task.spec.pid) × (task_of room task.spec.pid ≡ Some task)
      found = running_is_found room cpu task runs

      there : (n : ℕ) → n ≢ cpu → SiblingFits (spot_at gone) gone.core_cookie fresh n (sibling_of gone n)
      there n differ =
          let sibling = sibling_of room n in
          let here : IsAt cpu (spot_at room task.spec.pid) = subst (λ run. IfSome run (λ pid. IsAt cpu (spot_at room pid))) found.0 (fits cpu).runs in
          subst (λ ss. SiblingFits (spot_at gone) gone.core_cookie fresh n (get_or ss n absent)) (sym same)
          (subst (λ c. SiblingFits (spot_at gone) c fresh n sibling) (sym core)
          (fits_moved (spot_at room) (spot_at gone) room.core_cookie fresh fresh n sibling.online sibling.run sibling.pending sibling.waiting sibling.place task.spec.pid spot moved
          (λ has there. runs_alone room cpu n task found.1 here differ there) (λ e. e) (fits n)))

pub block-fits : (room : RoomState) (fresh : Bool) (cpu : ℕ) (task : Option Task) → cpu < length room.siblings → is_online room cpu ≡ true → AreRising room → running_on room cpu ≡ task →
    AllFit room fresh → StepFits room fresh (Block cpu) (block room cpu task)
block-fits room fresh cpu None below up rises runs fits = fits
block-fits room fresh cpu (Some task) below up rises runs fits =
    let gone = run_idle (dequeue (charge room) task) cpu in
    let same = kept-run_idle (charge room) cpu task in
    again_fits gone fresh _ cpu (subst (λ n. cpu < n) (sym (length-alike gone room same)) below) (is_online-alike gone room same cpu ∙ up)
    (rising-dequeue room task rises) (slept_fresh room fresh (Block cpu) task.spec.pid (schedule gone false cpu).pick)
    (others_fit room (dequeue (charge room) task) fresh cpu task _ below runs refl refl (spots-dequeue room task (running_is_found room cpu task runs).1) fits)

pub exit-fits : (room : RoomState) (fresh : Bool) (cpu : ℕ) (task : Option Task) → cpu < length room.siblings → is_online room cpu ≡ true → AreRising room → running_on room cpu ≡ task →
    AllFit room fresh → StepFits room fresh (Exit cpu) (exit room cpu task)
exit-fits room fresh cpu None below up rises runs fits = fits
exit-fits room fresh cpu (Some task) below up rises runs fits =
    let gone = run_idle (without (charge room) task) cpu in
    let same = kept-without (charge room) cpu task in
    cond_both (has_threads room task) _ _ (StepFits room fresh (Exit cpu)) (λ _. fits)
    (λ _. again_fits gone fresh _ cpu (subst (λ n. cpu < n) (sym (length-alike gone room same)) below) (is_online-alike gone room same cpu ∙ up)
    (rising-without room task rises) (ended_fresh room fresh (Exit cpu) task.spec.pid (schedule gone false cpu).pick)
    (others_fit room (without (charge room) task) fresh cpu task None below runs refl refl (spots-without room task) fits))

-- ---- wake and fork

-- a task that is not queued is at no sibling
asleep_nowhere : (room : RoomState) (task : Task) (cpu pid : ℕ) → task_of room pid ≡ Some task → task.queued ≡ false → IsAt cpu (spot_at room pid) → ⊥
asleep_nowhere room task cpu pid found asleep here =
    both_ways task.queued asleep (subst (IsAt cpu) (ap (option_map spot_of) found) here).0

-- so it may be queued at an online home
queued-fits : (room : RoomState) (fresh : Bool) (task old : Task) → find (has_pid task.spec.pid) room.tasks ≡ Some old → old.queued ≡ false → is_online room task.home ≡ true →
    AllFit room fresh → AllFit (queue_at_home room task) false
queued-fits room fresh task old found asleep up fits =
    all_flagged (enqueue room (refreshed room task)) false task.home (preempts room (refreshed room task)) up
    (all_moved room (enqueue room (refreshed room task)) fresh false task.spec.pid _ refl refl (spots-queue_at_home room task old found)
    (λ cpu has here. asleep_nowhere room old cpu task.spec.pid found asleep here) (λ e. absurd cc) fits)

pub wake-fits : (room : RoomState) (fresh : Bool) (pid : ℕ) (task : Option Task) → task_of room pid ≡ task → IsHoused room → AllFit room fresh → StepFits room fresh (Wake pid) (wake room task)
wake-fits room fresh pid None found housed fits = fits
wake-fits room fresh pid (Some task) found housed fits =
    cond_both task.queued _ _ (StepFits room fresh (Wake pid)) (λ _. fits)
    (λ asleep. queued-fits room fresh (rehomed room task) task (rehomed_is_found room task (found_again pid room.tasks task found)) asleep (rehomed_is_online room task housed) fits)

pub fork-fits : (room : RoomState) (fresh : Bool) (pid : ℕ) (thread : Bool) (caller : Option Task) → AreRising room → IsHoused room → AllFit room fresh →
    StepFits room fresh (Fork pid thread) (fork room thread caller)
fork-fits room fresh pid thread None rises housed fits = fits
fork-fits room fresh pid thread (Some caller) rises housed fits =
    let child = child_of caller thread room.next_pid in
    let born = with_child room child in
    let nobody : task_of room room.next_pid ≡ None =
    find_none (has_pid room.next_pid) room.tasks (each_weaker (λ other. other.spec.pid ≢ room.next_pid) (λ other. has_pid room.next_pid other ≡ false) room.tasks
    (λ other differ. false_from_ne_true (has_pid room.next_pid other) (λ same. differ (eqb-true other.spec.pid room.next_pid same))) (below_high 0 room.next_pid room.tasks rises).1) in
    cond_both (may_not_fork room.task_limit room.tasks caller) _ _ (StepFits room fresh (Fork pid thread)) (λ _. fits)
    (λ _. queued-fits born fresh (child_at_home room child) child (child_is_found room caller thread) refl (child_at_home_is_online room child housed)
    (all_moved room born fresh fresh room.next_pid _ refl refl (spots-with_child room caller thread)
    (λ cpu has here. subst (IsAt cpu) (ap (option_map spot_of) nobody) here) (λ e. e) fits))

-- ---- tick and advance

pub tick-fits : (room : RoomState) (fresh : Bool) (cpu : ℕ) (task : Option Task) → is_online room cpu ≡ true → running_on room cpu ≡ task → AllFit room fresh →
    StepFits room fresh (Tick cpu) (tick room cpu task)
tick-fits room fresh cpu None up runs fits = fits
tick-fits room fresh cpu (Some task) up runs fits =
    let then = charge room in
    all_flagged (begin_slice then cpu task) fresh cpu (asks_at_tick then cpu task) up
    (all_same (spot_at room) (spot_at (begin_slice then cpu task)) room.core_cookie fresh (sibling_of room) (spots-ticked_room then cpu task (running_is_found room cpu task runs).1) fits)

pub advanced-fits : (room : RoomState) (fresh : Bool) (delta : ℕ) → AllFit room fresh → AllFit (advanced room delta) fresh
unfolding advanced
advanced-fits room fresh delta fits =
    all_same (spot_at room) (spot_at (advanced room delta)) room.core_cookie fresh (sibling_of (advanced room delta)) (spots-advanced room delta)
    (λ cpu. sibling_of-advanced (SiblingFits (spot_at room) room.core_cookie fresh cpu) room delta cpu (λ least ran. fits_absent (spot_at room) room.core_cookie fresh cpu) (λ least ran. fits cpu))

-- ---- setsched

pub set_policy-fits : (room : RoomState) (fresh : Bool) (pid : ℕ) (policy : Policy) (task : Option Task) → task_of room pid ≡ task → IsHoused room → AllFit room fresh →
    StepFits room fresh (SetSched pid policy) (set_policy room policy task)
set_policy-fits room fresh pid policy None found housed fits = fits
set_policy-fits room fresh pid policy (Some task) found housed fits =
    all_later (with_policy_set room policy task) fresh _ (λ later. (fresh_before room fresh (SetSched pid policy) Set refl later).1)
    (cond_both task.queued _ _ (λ (made : RoomState). AllFit made fresh) queued
    (λ _. all_same (spot_at room) (spot_at (with_task room changed)) room.core_cookie fresh (sibling_of room) (spots-with_policy room policy task its) fits)) where
      changed : Task
      changed = with_policy policy task

      its : task_of room task.spec.pid ≡ Some task
      its = found_again pid room.tasks task found

      queued : task.queued ≡ true → AllFit (flag (queue_at_home (dequeue room changed) changed) task.home (is_run (sibling_of room task.home).run (Some task.spec.pid))) fresh
      queued is =
          let home : is_online room task.home ≡ true =
          subst (λ one. IfSome one (λ (spot : Spot). spot.queued ≡ true → is_online room spot.home ≡ true)) (ap (option_map spot_of) its) (housed.homes task.spec.pid) is in
          let gone = dequeue room changed in
          let again = enqueue gone (refreshed gone changed) in
          let first = preempts gone (refreshed gone changed) in
          all_flagged (flag again task.home first) fresh task.home (is_run (sibling_of room task.home).run (Some task.spec.pid))
          (is_online-alike (flag again task.home first) room (kept-with_sibling again task.home _ refl) task.home ∙ home)
          (all_flagged again fresh task.home first home
          (all_same (spot_at room) (spot_at again) room.core_cookie fresh (sibling_of room) (spots-requeue room policy task its is) fits))

-- ---- leaving and coming back

without-fits : (room : RoomState) (fresh : Bool) (cpu : ℕ) → AllFit room fresh → AllFit (leave room cpu) fresh
unfolding leave
without-fits room fresh cpu fits other =
    subst (λ at. SiblingFits at room.core_cookie fresh other (sibling_of (leave room cpu) other)) (λ i pid. sym (spots-leave room cpu pid) i)
    (sibling_of-without (SiblingFits now room.core_cookie fresh other) room cpu other (λ _. fits_absent now room.core_cookie fresh other)
    (λ _. fits_away now room.core_cookie fresh other false None false None 0 refl (refl, refl, refl, refl))
    (λ differ. let sibling = sibling_of room other in
    let its = fits other in
    fits_flagged_where differ sibling.online sibling.run sibling.pending sibling.waiting sibling.place its)) where
      now : ℕ → Option Spot
      now pid = option_map (spot_off cpu (lowest_other room cpu)) (spot_at room pid)

      stays : other ≢ cpu → (pid : ℕ) → IsAt other (spot_at room pid) → now pid ≡ spot_at room pid
      stays differ pid here = go (spot_at room pid) here where
        go : (one : Option Spot) → IsAt other one → option_map (spot_off cpu (lowest_other room cpu)) one ≡ one
        go None here = refl
        go (Some spot) here =
            ap Some (cond-false (spot.queued && (spot.home == cpu)) _ spot
            (and_right spot.queued (spot.home == cpu) (false_from_ne_true (spot.home == cpu) (λ at. differ (sym here.1 ∙ eqb-true spot.home cpu at)))))

      fits_flagged_where : other ≢ cpu → (up : Bool) (run : Option ℕ) (pending : Bool) (waiting : Waiting) (place : ℕ) →
          Fits (spot_at room) room.core_cookie fresh other up run pending waiting place → Fits now room.core_cookie fresh other up run (pending || up) waiting place
      fits_flagged_where differ up run pending waiting place its =
          fits_where (spot_at room) now room.core_cookie fresh fresh other up run pending (pending || up) waiting place
          (λ pid has here. subst (IsAt other) (sym (stays differ pid here)) here)
          (λ is. (is, λ pid waits here. ap cookie_at (stays differ pid here)))
          (λ calm. ((or_parts pending up calm).0, λ pid runs here. ap cookie_at (stays differ pid here)))
          (λ off. or_from pending up (its.away off).1 off) its

pub take_offline-fits : (room : RoomState) (fresh : Bool) (cpu : ℕ) → AllFit room fresh → StepFits room fresh (Offline cpu) (take_offline room cpu)
take_offline-fits room fresh cpu fits =
    cond_both (not (is_online room cpu)) _ _ (StepFits room fresh (Offline cpu)) (λ _. fits)
    (λ _. cond_both (length (online room) == 1) _ _ (StepFits room fresh (Offline cpu)) (λ _. fits)
    (λ _. all_later (leave room cpu) fresh _ (λ later. (fresh_before room fresh (Offline cpu) Done refl later).1) (without-fits room fresh cpu fits)))

pub bring_online-fits : (room : RoomState) (fresh : Bool) (cpu : ℕ) → AllFit room fresh → StepFits room fresh (Online cpu) (bring_online room cpu)
bring_online-fits room fresh cpu fits =
    cond_both (is_online room cpu) _ _ (StepFits room fresh (Online cpu)) (λ _. fits)
    (λ _. with_sibling_either (SiblingFits (spot_at room) room.core_cookie fresh) room cpu (back (sibling_of room cpu))
    (fits_running (spot_at room) room.core_cookie fresh cpu true None true 0 refl tt tt) fits)

-- what a guard becomes changes nothing of a sibling
pub load-fits : (room : RoomState) (fresh : Bool) (index : ℕ) → AllFit room fresh →
    StepFits room fresh (Load index) (record { reply = load_answer room.guards index; room = record room { guards = load room.guards index } })
load-fits room fresh index fits =
    cond_both (is_bench (guard_of room.guards index).place) Loaded NoGuard
    (λ answer. StepFits room fresh (Load index) (record { reply = answer; room = record room { guards = load room.guards index } })) (λ _. fits) (λ _. fits)

pub unload-fits : (room : RoomState) (fresh : Bool) (index : ℕ) → AllFit room fresh →
    StepFits room fresh (Unload index) (record { reply = unload_answer room.guards index; room = record room { guards = unload room.guards index } })
unload-fits room fresh index fits =
    cond_both (is_active (guard_of room.guards index).place) Dropped NoGuard
    (λ answer. StepFits room fresh (Unload index) (record { reply = answer; room = record room { guards = unload room.guards index } })) (λ _. fits) (λ _. fits)
