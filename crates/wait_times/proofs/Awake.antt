-- Awake: a task that is woken is queued, and stays so until it ran.
use Rattle.std.proofs.Common.{◌≡◌, ℕ, Bool, true, false, cond, length, refl, sym, ap, ◌∙◌, inl, inr, Option, Some, None}
use Rattle.std.specs.Prelude.{◌==◌, ◌&&◌, not}
use Rattle.std.specs.Option.{option_map, option_map_or}
use Rattle.std.proofs.lemmas.Bool.{cases_lt, cond_both, both_ways, eq-eqb, eqb-true}
use Rattle.std.proofs.lemmas.List.{get_or_past}
use Rattle.std.proofs.lemmas.List.Folds.{list_any_at}
use Rattle.cs_types.specs.declared.task.Task.{Task}
use Rattle.cs_types.specs.declared.task.Policy.{Policy}
use Rattle.cs_types.specs.declared.event.Event.{Event}
use Rattle.cs_types.specs.declared.event.Event.TheVariants.{Turn, Resched, Block, Exit, Tick, Wake, Advance, Fork, Prctl, SetSched, Offline, Online, Load, Unload}
use Rattle.cs_types.specs.declared.reply.Reply.{Reply}
use Rattle.cs_types.specs.declared.reply.Reply.TheVariants.{Zero}
use Rattle.cs_types.specs.Room.{RoomState, SiblingState, absent, has_pid, sibling_of, running_on, is_online, online, task_of}
use Rattle.cs_types.specs.Selection.{is_run, schedule}
use Rattle.cs_types.specs.Prctl.{asked_by_call, Setting, setting_of, is_set, makes_cookie, with_used, with_answer, prctl_answer, set_cookies}
use Rattle.cs_types.specs.Step.{Stepped, step, wake, block, exit, fork, turn, without, has_threads, child_of, child_at_home, may_not_fork, with_child, tick, run_idle, try_steal, unless_offline, set_policy, take_offline, bring_online}
use Rattle.cs_types.specs.Queueing.{dequeue, rehomed, queue_at_home}
use Rattle.cs_types.specs.Steal.{stolen}
use Rattle.cs_types.specs.Hotplug.{lowest_other, leave}
use Rattle.cs_types.specs.Accounting.{charge}
use Rattle.cs_types.specs.Time.{advanced}
use Rattle.cs_types.proofs.Foremost.{find_passes}
use Rattle.cs_laws.proofs.Tasks.{found_again}
use Rattle.cs_laws.proofs.Rising.{AreRising}
use Rattle.cs_laws.proofs.Spots.{Spot, spot_of, spot_at}
use Rattle.cs_laws.proofs.Moves.{spots-schedule, spots-advanced, spots-ticked_room, spots-queue_at_home, spots-dequeue, spots-without, spots-moved, spots-with_child, spots-with_policy_set, spot_off, spots-leave, spot_set, spots-set_cookies}
use Rattle.cs_laws.proofs.Homes.{stolen_is, running_is_found, rehomed_is_found, child_is_found}
use Rattle.wait_times.specs.Waits.{runs_task, woken_by}

-- whether a task with this spot is queued, none where no such task lives
abbrev pub is_queued : Option Spot → Bool
is_queued spot = option_map_or (λ (s : Spot). s.queued) spot false

-- A task with this pid lives, and is queued.
abbrev pub IsAwake : ℕ → RoomState → Type 0
IsAwake pid room = is_queued (spot_at room pid) ≡ true

-- ---- a change of a room

-- that does not move it
awake_same : (pid : ℕ) (old new : RoomState) → spot_at new pid ≡ spot_at old pid → IsAwake pid old → IsAwake pid new
awake_same pid old new same awake = ap is_queued same ∙ awake

-- that moves a task
awake_moved : (pid moves : ℕ) (old new : RoomState) (spot : Option Spot) → spot_at new pid ≡ cond (pid == moves) spot (spot_at old pid) →
    ((pid == moves) ≡ true → is_queued spot ≡ true) → IsAwake pid old → IsAwake pid new
awake_moved pid moves old new spot same here awake =
    ap is_queued same ∙ cond_both (pid == moves) spot (spot_at old pid) (λ s. is_queued s ≡ true) here (λ _. awake)

-- that leaves it queued, wherever it is
awake_kept : (pid : ℕ) (old new : RoomState) (f : Spot → Spot) → ((spot : Spot) → (f spot).queued ≡ spot.queued) → spot_at new pid ≡ option_map f (spot_at old pid) →
    IsAwake pid old → IsAwake pid new
awake_kept pid old new f keeps same awake = ap is_queued same ∙ go (spot_at old pid) ∙ awake where
  go : (spot : Option Spot) → is_queued (option_map f spot) ≡ is_queued spot
  go None = refl
  go (Some spot) = keeps spot

-- ---- what a sibling runs

-- a task that no sibling runs is not what this one runs
runs_at : (room : RoomState) (cpu pid : ℕ) → (sibling_of room cpu).run ≡ Some pid → runs_task room pid ≡ true
runs_at room cpu pid is = elim (cases_lt cpu (length room.siblings)) [
  | inl few ↦ list_any_at (λ (s : SiblingState). is_run s.run (Some pid)) room.siblings cpu absent few (ap (λ (r : Option ℕ). is_run r (Some pid)) is ∙ eq-eqb pid pid refl)
  | inr past ↦ absurd (let none : None ≡ Some pid = sym (ap (λ (s : SiblingState). s.run) (get_or_past room.siblings cpu absent past)) ∙ is in cc)
]

not_run : (room : RoomState) (cpu pid : ℕ) (task : Task) → running_on room cpu ≡ Some task → runs_task room pid ≡ false → (pid == task.spec.pid) ≡ true → ⊥
not_run room cpu pid task runs quiet same =
    both_ways (runs_task room pid) quiet (runs_at room cpu pid ((running_is_found room cpu task runs).0 ∙ ap Some (sym (eqb-true pid task.spec.pid same))))

-- ---- the steps

awake-schedule : (pid : ℕ) (room : RoomState) (fresh : Bool) (cpu : ℕ) → IsAwake pid room → IsAwake pid (schedule room fresh cpu).room
awake-schedule pid room fresh cpu = awake_same pid room (schedule room fresh cpu).room (spots-schedule room fresh cpu pid)

awake-try_steal : (pid : ℕ) (room : RoomState) (cpu : ℕ) (task : Option Task) → AreRising room → stolen room cpu ≡ task → IsAwake pid room → IsAwake pid (try_steal room cpu task).room
awake-try_steal pid room cpu None rises made awake = awake
awake-try_steal pid room cpu (Some task) rises made awake =
    awake_moved pid task.spec.pid room (try_steal room cpu (Some task)).room _ (spots-moved room cpu task (stolen_is room cpu task rises made).0.found pid) (λ _. refl) awake

awake-turn : (pid : ℕ) (room : RoomState) (fresh : Bool) (cpu : ℕ) → AreRising room → IsAwake pid room → IsAwake pid (turn room fresh cpu).room
awake-turn pid room fresh cpu rises awake =
    cond_both (sibling_of room cpu).pending _ _ (λ (made : Stepped). IsAwake pid made.room) (λ _. awake-schedule pid room fresh cpu awake)
    (λ _. cond_both ((sibling_of room cpu).place == 0) _ _ (λ (made : Stepped). IsAwake pid made.room) (λ _. awake)
    (λ _. awake-try_steal pid room cpu (stolen room cpu) rises refl awake))

awake-block : (pid : ℕ) (room : RoomState) (cpu : ℕ) (task : Option Task) → running_on room cpu ≡ task → runs_task room pid ≡ false → IsAwake pid room → IsAwake pid (block room cpu task).room
awake-block pid room cpu None runs quiet awake = awake
awake-block pid room cpu (Some task) runs quiet awake =
    let idle = run_idle (dequeue (charge room) task) cpu in
    awake-schedule pid idle false cpu
    (awake_moved pid task.spec.pid room idle _ (spots-dequeue room task (running_is_found room cpu task runs).1 pid)
    (λ same. absurd (not_run room cpu pid task runs quiet same)) awake)

awake-exit : (pid : ℕ) (room : RoomState) (cpu : ℕ) (task : Option Task) → running_on room cpu ≡ task → runs_task room pid ≡ false → IsAwake pid room → IsAwake pid (exit room cpu task).room
awake-exit pid room cpu None runs quiet awake = awake
awake-exit pid room cpu (Some task) runs quiet awake =
    let idle = run_idle (without (charge room) task) cpu in
    cond_both (has_threads room task) _ _ (λ (made : Stepped). IsAwake pid made.room) (λ _. awake)
    (λ _. awake-schedule pid idle false cpu
    (awake_moved pid task.spec.pid room idle None (spots-without room task pid) (λ same. absurd (not_run room cpu pid task runs quiet same)) awake))

awake-tick : (pid : ℕ) (room : RoomState) (cpu : ℕ) (task : Option Task) → running_on room cpu ≡ task → IsAwake pid room → IsAwake pid (tick room cpu task).room
awake-tick pid room cpu None runs awake = awake
awake-tick pid room cpu (Some task) runs awake =
    awake_same pid room (tick room cpu (Some task)).room (spots-ticked_room (charge room) cpu task (running_is_found room cpu task runs).1 pid) awake

awake-wake : (pid : ℕ) (room : RoomState) (woken : ℕ) (task : Option Task) → task_of room woken ≡ task → IsAwake pid room → IsAwake pid (wake room task).room
awake-wake pid room woken None found awake = awake
awake-wake pid room woken (Some task) found awake =
    cond_both task.queued _ _ (λ (made : Stepped). IsAwake pid made.room) (λ _. awake)
    (λ _. awake_moved pid (rehomed room task).spec.pid room (queue_at_home room (rehomed room task)) _
    (spots-queue_at_home room (rehomed room task) task (rehomed_is_found room task (found_again woken room.tasks task found)) pid) (λ _. refl) awake)

-- the room with a child that is queued
abbrev born : RoomState → Task → Bool → RoomState
born room caller thread = with_child room (child_of caller thread room.next_pid)

abbrev child : RoomState → Task → Bool → Task
child room caller thread = child_at_home room (child_of caller thread room.next_pid)

spots-born : (pid : ℕ) (room : RoomState) (caller : Task) (thread : Bool) →
    spot_at (queue_at_home (born room caller thread) (child room caller thread)) pid
    ≡ cond (pid == room.next_pid) (Some (record (spot_of (child room caller thread)) { queued = true })) (spot_at (born room caller thread) pid)
spots-born pid room caller thread =
    spots-queue_at_home (born room caller thread) (child room caller thread) (child_of caller thread room.next_pid) (child_is_found room caller thread) pid

awake-fork : (pid : ℕ) (room : RoomState) (thread : Bool) (caller : Option Task) → IsAwake pid room → IsAwake pid (fork room thread caller).room
awake-fork pid room thread None awake = awake
awake-fork pid room thread (Some caller) awake =
    cond_both (may_not_fork room.task_limit room.tasks caller) _ _ (λ (made : Stepped). IsAwake pid made.room) (λ _. awake)
    (λ _. ap is_queued (spots-born pid room caller thread)
    ∙ cond_both (pid == room.next_pid) _ (spot_at (born room caller thread) pid) (λ s. is_queued s ≡ true) (λ _. refl)
    (λ other. ap is_queued (spots-with_child room caller thread pid)
    ∙ ap (λ (b : Bool). is_queued (cond b (Some (spot_of (child_of caller thread room.next_pid))) (spot_at room pid))) other ∙ awake))

awake-with_answer : (pid : ℕ) (room : RoomState) (set : Setting) (answer : Reply) → IsAwake pid room → IsAwake pid (with_answer room set answer)
awake-with_answer pid room set Zero awake =
    awake_kept pid room (set_cookies room set) (spot_set set pid)
    (λ spot. cond_both (is_set set pid) (record spot { cookie = set.cookie }) spot (λ (s : Spot). s.queued ≡ spot.queued) (λ _. refl) (λ _. refl))
    (spots-set_cookies room set pid) awake
awake-with_answer pid room set answer awake = awake

awake-set_policy : (pid : ℕ) (room : RoomState) (policy : Policy) (other : ℕ) (task : Option Task) → task_of room other ≡ task → IsAwake pid room → IsAwake pid (set_policy room policy task).room
awake-set_policy pid room policy other None found awake = awake
awake-set_policy pid room policy other (Some task) found awake =
    awake_same pid room (set_policy room policy (Some task)).room (spots-with_policy_set room policy task (found_again other room.tasks task found) pid) awake

awake-take_offline : (pid : ℕ) (room : RoomState) (cpu : ℕ) → IsAwake pid room → IsAwake pid (take_offline room cpu).room
awake-take_offline pid room cpu awake =
    cond_both (not (is_online room cpu)) _ _ (λ (made : Stepped). IsAwake pid made.room) (λ _. awake)
    (λ _. cond_both (length (online room) == 1) _ _ (λ (made : Stepped). IsAwake pid made.room) (λ _. awake)
    (λ _. awake_kept pid room (leave room cpu) (spot_off cpu (lowest_other room cpu))
    (λ spot. cond_both (spot.queued && (spot.home == cpu)) (record spot { home = lowest_other room cpu }) spot (λ (s : Spot). s.queued ≡ spot.queued) (λ _. refl) (λ _. refl))
    (spots-leave room cpu pid) awake))

awake-bring_online : (pid : ℕ) (room : RoomState) (cpu : ℕ) → IsAwake pid room → IsAwake pid (bring_online room cpu).room
awake-bring_online pid room cpu awake =
    cond_both (is_online room cpu) _ _ (λ (made : Stepped). IsAwake pid made.room) (λ _. awake) (λ _. awake)

awake-unless_offline : (pid : ℕ) (room : RoomState) (cpu : ℕ) (stepped : Stepped) → IsAwake pid room → IsAwake pid stepped.room → IsAwake pid (unless_offline room cpu stepped).room
awake-unless_offline pid room cpu stepped awake now =
    cond_both (is_online room cpu) _ _ (λ (made : Stepped). IsAwake pid made.room) (λ _. now) (λ _. awake)

-- A task that is queued and that no sibling runs stays queued.
pub awake-step : (pid : ℕ) (room : RoomState) (fresh : Bool) (event : Event) → AreRising room → runs_task room pid ≡ false → IsAwake pid room → IsAwake pid (step room fresh event).room
awake-step pid room fresh (Turn cpu) rises quiet awake = awake-unless_offline pid room cpu _ awake (awake-turn pid room fresh cpu rises awake)
awake-step pid room fresh (Resched cpu) rises quiet awake = awake-unless_offline pid room cpu _ awake (awake-schedule pid room fresh cpu awake)
awake-step pid room fresh (Block cpu) rises quiet awake = awake-unless_offline pid room cpu _ awake (awake-block pid room cpu (running_on room cpu) refl quiet awake)
awake-step pid room fresh (Exit cpu) rises quiet awake = awake-unless_offline pid room cpu _ awake (awake-exit pid room cpu (running_on room cpu) refl quiet awake)
awake-step pid room fresh (Tick cpu) rises quiet awake = awake-unless_offline pid room cpu _ awake (awake-tick pid room cpu (running_on room cpu) refl awake)
awake-step pid room fresh (Wake woken) rises quiet awake = awake-wake pid room woken (task_of room woken) refl awake
awake-step pid room fresh (Advance delta) rises quiet awake = awake_same pid room (advanced room delta) (spots-advanced room delta pid) awake
awake-step pid room fresh (Fork caller thread) rises quiet awake = awake-fork pid room thread (task_of room caller) awake
awake-step pid room fresh (Prctl caller ask) rises quiet awake =
    awake-with_answer pid (with_used room (makes_cookie room caller ask) (asked_by_call room caller ask)) (setting_of room caller ask) (prctl_answer room caller ask) awake
awake-step pid room fresh (SetSched other policy) rises quiet awake = awake-set_policy pid room policy other (task_of room other) refl awake
awake-step pid room fresh (Offline cpu) rises quiet awake = awake-take_offline pid room cpu awake
awake-step pid room fresh (Online cpu) rises quiet awake = awake-bring_online pid room cpu awake
awake-step pid room fresh (Load index) rises quiet awake = awake
awake-step pid room fresh (Unload index) rises quiet awake = awake

-- ---- what wakes a task

pid-rehomed : (room : RoomState) (task : Task) → (rehomed room task).spec.pid ≡ task.spec.pid
pid-rehomed room task = cond_both (is_online room task.home) _ _ (λ (t : Task). t.spec.pid ≡ task.spec.pid) (λ _. refl) (λ _. refl)

woken-wake : (pid : ℕ) (room : RoomState) (woken : ℕ) (task : Option Task) → task_of room woken ≡ task → woken_by (Wake woken) (wake room task).reply ≡ Some pid → IsAwake pid (wake room task).room
woken-wake pid room woken None found is = absurd cc
woken-wake pid room woken (Some task) found told = cond_both task.queued _ _ (λ (made : Stepped). woken_by (Wake woken) made.reply ≡ Some pid → IsAwake pid made.room) (λ _ is. absurd cc)
    (λ _ is.
    let own : woken ≡ pid = cc in
    let same : task.spec.pid ≡ woken = eqb-true task.spec.pid woken (find_passes (has_pid woken) room.tasks task found) in
    ap is_queued (spots-queue_at_home room (rehomed room task) task (rehomed_is_found room task (found_again woken room.tasks task found)) pid)
    ∙ cond_both (pid == (rehomed room task).spec.pid) _ (spot_at room pid) (λ s. is_queued s ≡ true) (λ _. refl)
    (λ other. absurd (both_ways (pid == (rehomed room task).spec.pid) other (eq-eqb pid (rehomed room task).spec.pid (sym own ∙ sym same ∙ sym (pid-rehomed room task)))))) told

woken-fork : (pid : ℕ) (room : RoomState) (caller : ℕ) (thread : Bool) (task : Option Task) → woken_by (Fork caller thread) (fork room thread task).reply ≡ Some pid → IsAwake pid (fork room thread task).room
woken-fork pid room caller thread None is = absurd cc
woken-fork pid room caller thread (Some task) told = cond_both (may_not_fork room.task_limit room.tasks task) _ _ (λ (made : Stepped). woken_by (Fork caller thread) made.reply ≡ Some pid → IsAwake pid made.room) (λ _ is. absurd cc)
    (λ _ is.
    let own : room.next_pid ≡ pid = cc in
    ap is_queued (spots-born pid room task thread)
    ∙ cond_both (pid == room.next_pid) _ (spot_at (born room task thread) pid) (λ s. is_queued s ≡ true) (λ _. refl)
    (λ other. absurd (both_ways (pid == room.next_pid) other (eq-eqb pid room.next_pid (sym own))))) told

-- A task that is woken is queued.
pub woken_is_awake : (pid : ℕ) (room : RoomState) (fresh : Bool) (event : Event) → woken_by event (step room fresh event).reply ≡ Some pid → IsAwake pid (step room fresh event).room
woken_is_awake pid room fresh (Wake woken) is = woken-wake pid room woken (task_of room woken) refl is
woken_is_awake pid room fresh (Fork caller thread) is = woken-fork pid room caller thread (task_of room caller) is
woken_is_awake pid room fresh event is = absurd cc
