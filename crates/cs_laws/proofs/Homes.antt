-- Homes: after every history some sibling is online, and each queued task is at home on one that is.
use Rattle.std.proofs.Common.{◌≡◌, ◌≢◌, ℕ, ◌+◌, ◌<◌, Bool, cond, true, false, List, [], ◌∷◌, length, map, get_or, refl, sym, ap, ◌∙◌, subst, arith, Option, Some, None}
use Rattle.std.specs.Prelude.{find, filter, not, is_some, ◌==◌, ◌&&◌, ◌||◌}
use Rattle.std.specs.List.{AllByRecursion, enumerate_from}
use Rattle.std.specs.Option.{IfSome, option_map, option_and_then}
use Rattle.std.proofs.lemmas.Bool.{cond_both, and_parts, eqb-true, eqb-false, not-false}
use Rattle.std.proofs.lemmas.List.{length-map, length-set}
use Rattle.std.proofs.lemmas.List.FromFn.{length-enumerate_from}
use Rattle.std.proofs.lemmas.Option.{IfSome_then}
use Rattle.cs_types.specs.declared.task.Task.{Task}
use Rattle.cs_types.specs.declared.task.Policy.{Policy}
use Rattle.cs_types.specs.declared.event.Event.{Event}
use Rattle.cs_types.specs.declared.event.Event.TheVariants.{Turn, Resched, Block, Exit, Tick, Wake, Advance, Fork, Prctl, SetSched, Offline, Online, Load, Unload}
use Rattle.cs_types.specs.declared.reply.Reply.{Reply}
use Rattle.cs_types.specs.declared.reply.Reply.TheVariants.{Zero}
use Rattle.cs_types.specs.Scenario.{IsEvent}
use Rattle.cs_types.specs.Room.{RoomState, SiblingState, absent, has_pid, sibling_of, running_on, is_online, online, lowest_online, task_of, queued_on}
use Rattle.cs_types.specs.Order.{first_of}
use Rattle.cs_types.specs.Selection.{schedule, queued_with}
use Rattle.cs_types.specs.Prctl.{asked_by_call, Setting, setting_of, is_set, makes_cookie, with_used, with_answer, prctl_answer, set_cookies}
use Rattle.cs_types.specs.Step.{Stepped, step, wake, block, exit, fork, turn, without, has_threads, child_of, child_at_home, may_not_fork, with_child, tick, run_idle, try_steal, unless_offline, set_policy, take_offline, bring_online}
use Rattle.cs_types.specs.Queueing.{dequeue, moved_to, rehomed, queue_at_home}
use Rattle.cs_types.specs.Steal.{source_of, stolen, may_steal}
use Rattle.cs_types.specs.Hotplug.{away, stand_by, left, back, lowest_other, leave, with_sibling_back}
use Rattle.cs_types.specs.Accounting.{charge}
use Rattle.cs_types.specs.Time.{with_growth, least_of, advanced}
use Rattle.cs_types.proofs.Foremost.{find_passes}
use Rattle.cs_types.proofs.Filtered.{each-filter, each_found}
use Rattle.cs_types.proofs.Inserted.{found-inserted}
use Rattle.cs_laws.proofs.Tasks.{found_again}
use Rattle.cs_laws.proofs.Rising.{AreRising}
use Rattle.cs_types.proofs.Lists.{map-enumerate_alike, map-map_alike, get_or-map_default, each_both}
use Rattle.cs_laws.proofs.Siblings.{kept, kept-schedule, kept-try_steal, kept-run_idle, kept-without, kept-queue_at_home, kept-tick, kept-with_answer, kept-set_policy, length-alike, is_online-alike, length-step}
use Rattle.cs_laws.proofs.Spots.{Spot, spot_at, each_is_found}
use Rattle.cs_laws.proofs.Moves.{spots-schedule, spots-advanced, spots-ticked_room, spots-queue_at_home, spots-dequeue, spots-without, spots-moved, spots-with_child, spots-with_policy_set, spot_off, spots-leave, spot_set, spots-set_cookies}
use Rattle.cs_laws.proofs.Places.{with_sibling_either, mapped_at, enumerated_at, lowest_online_is, lowest_other_is}

-- ---- homes

-- where a task is queued, its home is online
abbrev pub IsHome : RoomState → Option Spot → Type 0
IsHome room one = IfSome one (λ spot. spot.queued ≡ true → is_online room spot.home ≡ true)

pub record IsHoused (room : RoomState) : Type 0 where
  pub some : (cpu : ℕ) × (cpu < length room.siblings) × (is_online room cpu ≡ true)
  pub homes : (pid : ℕ) → IsHome room (spot_at room pid)

-- a change that leaves the same siblings online, or more, and each queued task at a home
housed_more : (old new : RoomState) → length new.siblings ≡ length old.siblings → ((cpu : ℕ) → is_online old cpu ≡ true → is_online new cpu ≡ true) →
    ((pid : ℕ) → IsHome old (spot_at new pid)) → IsHoused old → IsHoused new
housed_more old new long same homes housed =
    record {
      some = (housed.some.0, subst (λ n. housed.some.0 < n) (sym long) housed.some.1, same housed.some.0 housed.some.2);
      homes = λ pid. IfSome_then (spot_at new pid) (homes pid) (λ spot home queued. same spot.home (home queued));
    }

housed_by : (old new : RoomState) → kept new ≡ kept old → ((pid : ℕ) → IsHome old (spot_at new pid)) → IsHoused old → IsHoused new
housed_by old new same homes housed =
    housed_more old new (length-alike new old same) (λ cpu up. is_online-alike new old same cpu ∙ up) homes housed

-- so where no task moves
housed_same : (old new : RoomState) → kept new ≡ kept old → ((pid : ℕ) → spot_at new pid ≡ spot_at old pid) → IsHoused old → IsHoused new
housed_same old new same spots housed = housed_by old new same (λ pid. subst (IsHome old) (sym (spots pid)) (housed.homes pid)) housed

-- and where one does, to a home
home_at : (old : RoomState) (new : Option Spot) (pid moves : ℕ) (spot : Option Spot) → new ≡ cond (pid == moves) spot (spot_at old pid) →
    IsHome old spot → IsHoused old → IsHome old new
home_at old new pid moves spot same home housed =
    subst (IsHome old) (sym same) (cond_both (pid == moves) spot (spot_at old pid) (IsHome old) (λ _. home) (λ _. housed.homes pid))

-- ---- what is stolen, and what a sibling runs

-- what is known of a task that is queued on a sibling
pub record IsQueuedOn (room : RoomState) (cpu : ℕ) (task : Task) : Type 0 where
  pub found : task_of room task.spec.pid ≡ Some task
  pub queued : task.queued ≡ true
  pub home : task.home ≡ cpu

filter_each : {X : Type 0} (p : X → Bool) (xs : List X) → AllByRecursion (λ x. p x ≡ true) (filter p xs)
filter_each p [] = tt
filter_each p (x ∷ xs) =
    cond_both (p x) (x ∷ filter p xs) (filter p xs) (AllByRecursion (λ y. p y ≡ true)) (λ pass. (pass, filter_each p xs)) (λ _. filter_each p xs)

pub each_queued : (room : RoomState) (cpu : ℕ) → AreRising room → AllByRecursion (IsQueuedOn room cpu) (queued_on room cpu)
each_queued room cpu rises =
    let test : Task → Bool = λ task. task.queued && (task.home == cpu) in
    each_both (λ task. test task ≡ true) (λ task. task_of room task.spec.pid ≡ Some task) (IsQueuedOn room cpu) (queued_on room cpu)
    (λ task pass found. let parts = and_parts task.queued (task.home == cpu) pass in record { found = found; queued = parts.0; home = eqb-true task.home cpu parts.1 })
    (filter_each test room.tasks)
    (each-filter (λ task. task_of room task.spec.pid ≡ Some task) test room.tasks (each_is_found 0 room.next_pid room.tasks rises))

-- A stolen task is queued on the source, which neither runs it nor is to run it.
pub stolen_is : (room : RoomState) (thief : ℕ) (task : Task) → AreRising room → stolen room thief ≡ Some task →
    IsQueuedOn room (source_of room thief) task × (may_steal (sibling_of room thief) (sibling_of room (source_of room thief)) task ≡ true)
unfolding stolen
stolen_is room thief task rises made = (
  each_found (IsQueuedOn room source) _ (filter may (queued_with room room.core_cookie source)) task found
      (each-filter (IsQueuedOn room source) may (queued_with room room.core_cookie source)
      (each-filter (IsQueuedOn room source) (λ other. other.cookie == room.core_cookie) (queued_on room source) (each_queued room source rises))),
  each_found (λ other. may other ≡ true) _ (filter may (queued_with room room.core_cookie source)) task found (filter_each may (queued_with room room.core_cookie source)),
) where
  source : ℕ
  source = source_of room thief

  may : Task → Bool
  may other = may_steal (sibling_of room thief) (sibling_of room source) other

  of_some : (b : Bool) (first : Option Task) → cond b None first ≡ Some task → first ≡ Some task
  of_some true first made = absurd cc
  of_some false first made = made

  found : first_of (filter may (queued_with room room.core_cookie source)) ≡ Some task
  found = of_some ((room.core_cookie == 0) || is_some (sibling_of room thief).run) (first_of (filter may (queued_with room room.core_cookie source))) made

-- ---- the steps

housed-schedule : (room : RoomState) (fresh : Bool) (cpu : ℕ) → IsHoused room → IsHoused (schedule room fresh cpu).room
housed-schedule room fresh cpu housed =
    housed_same room (schedule room fresh cpu).room (kept-schedule room fresh cpu) (spots-schedule room fresh cpu) housed

housed-try_steal : (room : RoomState) (cpu : ℕ) (task : Option Task) → is_online room cpu ≡ true → AreRising room → stolen room cpu ≡ task → IsHoused room →
    IsHoused (try_steal room cpu task).room
housed-try_steal room cpu None up rises made housed = housed_same room (try_steal room cpu None).room (kept-try_steal room cpu None) (λ pid. refl) housed
housed-try_steal room cpu (Some task) up rises made housed =
    housed_by room (try_steal room cpu (Some task)).room (kept-try_steal room cpu (Some task))
    (λ pid. home_at room _ pid task.spec.pid _ (spots-moved room cpu task (stolen_is room cpu task rises made).0.found pid) (λ _. up) housed) housed

housed-turn : (room : RoomState) (fresh : Bool) (cpu : ℕ) → is_online room cpu ≡ true → AreRising room → IsHoused room → IsHoused (turn room fresh cpu).room
housed-turn room fresh cpu up rises housed =
    cond_both (sibling_of room cpu).pending _ _ (λ (made : Stepped). IsHoused made.room) (λ _. housed-schedule room fresh cpu housed)
    (λ _. cond_both ((sibling_of room cpu).place == 0) _ _ (λ (made : Stepped). IsHoused made.room) (λ _. housed)
    (λ _. housed-try_steal room cpu (stolen room cpu) up rises refl housed))

-- the task that a sibling runs is found by its own pid
pub running_is_found : (room : RoomState) (cpu : ℕ) (task : Task) → running_on room cpu ≡ Some task →
    ((sibling_of room cpu).run ≡ Some task.spec.pid) × (task_of room task.spec.pid ≡ Some task)
running_is_found room cpu task runs = go (sibling_of room cpu).run runs where
  go : (run : Option ℕ) → option_and_then (task_of room) run ≡ Some task → (run ≡ Some task.spec.pid) × (task_of room task.spec.pid ≡ Some task)
  go None runs = absurd cc
  go (Some pid) runs =
      (ap Some (sym (eqb-true task.spec.pid pid (find_passes (has_pid pid) room.tasks task runs))), found_again pid room.tasks task runs)

housed-block : (room : RoomState) (cpu : ℕ) (task : Option Task) → running_on room cpu ≡ task → IsHoused room → IsHoused (block room cpu task).room
housed-block room cpu None runs housed = housed
housed-block room cpu (Some task) runs housed =
    housed-schedule (run_idle (dequeue (charge room) task) cpu) false cpu
    (housed_by room (run_idle (dequeue (charge room) task) cpu) (kept-run_idle (charge room) cpu task)
    (λ pid. home_at room _ pid task.spec.pid _ (spots-dequeue room task (running_is_found room cpu task runs).1 pid) (λ queued. absurd cc) housed) housed)

housed-exit : (room : RoomState) (cpu : ℕ) (task : Option Task) → IsHoused room → IsHoused (exit room cpu task).room
housed-exit room cpu None housed = housed
housed-exit room cpu (Some task) housed =
    cond_both (has_threads room task) _ _ (λ (made : Stepped). IsHoused made.room) (λ _. housed)
    (λ _. housed-schedule (run_idle (without (charge room) task) cpu) false cpu
    (housed_by room (run_idle (without (charge room) task) cpu) (kept-without (charge room) cpu task)
    (λ pid. home_at room _ pid task.spec.pid None (spots-without room task pid) tt housed) housed))

housed-queue_at_home : (room : RoomState) (task old : Task) → find (has_pid task.spec.pid) room.tasks ≡ Some old → is_online room task.home ≡ true →
    IsHoused room → IsHoused (queue_at_home room task)
housed-queue_at_home room task old found up housed =
    housed_by room (queue_at_home room task) (kept-queue_at_home room task)
    (λ pid. home_at room _ pid task.spec.pid _ (spots-queue_at_home room task old found pid) (λ _. up) housed) housed

-- a task that woke is at home on an online sibling
pub rehomed_is_online : (room : RoomState) (task : Task) → IsHoused room → is_online room (rehomed room task).home ≡ true
rehomed_is_online room task housed =
    cond_both (is_online room task.home) task (moved_to room (lowest_online room) task) (λ (t : Task). is_online room t.home ≡ true) (λ up. up)
    (λ _. lowest_online_is room housed.some.0 housed.some.1 housed.some.2)

pub rehomed_is_found : (room : RoomState) (task : Task) → task_of room task.spec.pid ≡ Some task → task_of room (rehomed room task).spec.pid ≡ Some task
rehomed_is_found room task found =
    cond_both (is_online room task.home) task (moved_to room (lowest_online room) task) (λ (t : Task). task_of room t.spec.pid ≡ Some task) (λ _. found) (λ _. found)

housed-wake : (room : RoomState) (pid : ℕ) (task : Option Task) → task_of room pid ≡ task → IsHoused room → IsHoused (wake room task).room
housed-wake room pid None found housed = housed
housed-wake room pid (Some task) found housed =
    cond_both task.queued _ _ (λ (made : Stepped). IsHoused made.room) (λ _. housed)
    (λ _. housed-queue_at_home room (rehomed room task) task (rehomed_is_found room task (found_again pid room.tasks task found)) (rehomed_is_online room task housed) housed)

-- so is a child, which is found by its pid
pub child_at_home_is_online : (room : RoomState) (child : Task) → IsHoused room → is_online room (child_at_home room child).home ≡ true
child_at_home_is_online room child housed =
    cond_both (is_online room child.home) child.home (lowest_online room) (λ home. is_online room home ≡ true) (λ up. up)
    (λ _. lowest_online_is room housed.some.0 housed.some.1 housed.some.2)

pub child_is_found : (room : RoomState) (caller : Task) (thread : Bool) →
    task_of (with_child room (child_of caller thread room.next_pid)) room.next_pid ≡ Some (child_of caller thread room.next_pid)
child_is_found room caller thread = found-inserted (child_of caller thread room.next_pid) room.tasks

housed-fork : (room : RoomState) (thread : Bool) (caller : Option Task) → IsHoused room → IsHoused (fork room thread caller).room
housed-fork room thread None housed = housed
housed-fork room thread (Some caller) housed =
    let child = child_of caller thread room.next_pid in
    let born = with_child room child in
    let held : IsHoused born = housed_by room born refl (λ pid. home_at room _ pid room.next_pid _ (spots-with_child room caller thread pid) (λ queued. absurd cc) housed) housed in
    cond_both (may_not_fork room.task_limit room.tasks caller) _ _ (λ (made : Stepped). IsHoused made.room) (λ _. housed)
    (λ _. housed-queue_at_home born (child_at_home room child) child (child_is_found room caller thread) (child_at_home_is_online room child housed) held)

housed-tick : (room : RoomState) (cpu : ℕ) (task : Option Task) → running_on room cpu ≡ task → IsHoused room → IsHoused (tick room cpu task).room
housed-tick room cpu None runs housed = housed_same room (charge room) refl (λ pid. refl) housed
housed-tick room cpu (Some task) runs housed =
    housed_same room (tick room cpu (Some task)).room (kept-tick room cpu (Some task))
    (spots-ticked_room (charge room) cpu task (running_is_found room cpu task runs).1) housed

-- what a sibling is after an advance
pub sibling_of-advanced : (P : SiblingState → Type 0) (room : RoomState) (delta cpu : ℕ) → ((least ran : ℕ) → P (record absent { least = least; ran = ran })) →
    ((least ran : ℕ) → P (record (sibling_of room cpu) { least = least; ran = ran })) → P (sibling_of (advanced room delta) cpu)
unfolding advanced
sibling_of-advanced P room delta cpu past is =
    enumerated_at P (λ place. record place.1 { least = least_of (with_growth room delta) place.0 }) 0 (with_growth room delta).siblings cpu (λ _. past 0 0)
    (mapped_at (λ s. P (record s { least = least_of (with_growth room delta) (0 + cpu) })) (λ s. record s { ran = s.ran + delta }) room.siblings cpu
    (past (least_of (with_growth room delta) (0 + cpu)) 0) (is (least_of (with_growth room delta) (0 + cpu)) ((sibling_of room cpu).ran + delta)))

-- an advance leaves the same siblings online
online-advanced : (room : RoomState) (delta cpu : ℕ) → is_online (advanced room delta) cpu ≡ is_online room cpu
unfolding advanced
online-advanced room delta cpu =
    let is : SiblingState → Bool = λ sibling. sibling.online in
    let now = with_growth room delta in
    let same : map is (advanced room delta).siblings ≡ map is room.siblings =
    map-enumerate_alike is (λ place. record place.1 { least = least_of now place.0 }) (λ place. refl) 0 now.siblings
    ∙ map-map_alike is (λ sibling. record sibling { ran = sibling.ran + delta }) (λ sibling. refl) room.siblings in
    sym (get_or-map_default is (advanced room delta).siblings cpu absent)
    ∙ (ap (λ ons. get_or ons cpu false) same ∙ get_or-map_default is room.siblings cpu absent)

housed-advanced : (room : RoomState) (delta : ℕ) → IsHoused room → IsHoused (advanced room delta)
housed-advanced room delta housed =
    housed_more room (advanced room delta) (length-step room false (Advance delta))
    (λ cpu up. online-advanced room delta cpu ∙ up)
    (λ pid. subst (IsHome room) (sym (spots-advanced room delta pid)) (housed.homes pid)) housed

housed-with_answer : (room : RoomState) (set : Setting) (answer : Reply) → IsHoused room → IsHoused (with_answer room set answer)
housed-with_answer room set Zero housed =
    housed_by room (set_cookies room set) (kept-with_answer room set Zero)
    (λ pid. subst (IsHome room) (sym (spots-set_cookies room set pid)) (go pid (spot_at room pid) (housed.homes pid))) housed where
      go : (pid : ℕ) (one : Option Spot) → IsHome room one → IsHome room (option_map (spot_set set pid) one)
      go pid None home = tt
      go pid (Some spot) home =
          cond_both (is_set set pid) (record spot { cookie = set.cookie }) spot (λ (s : Spot). s.queued ≡ true → is_online room s.home ≡ true) (λ _. home) (λ _. home)
housed-with_answer room set answer housed = housed

housed-set_policy : (room : RoomState) (policy : Policy) (pid : ℕ) (task : Option Task) → task_of room pid ≡ task → IsHoused room → IsHoused (set_policy room policy task).room
housed-set_policy room policy pid None found housed = housed
housed-set_policy room policy pid (Some task) found housed =
    housed_same room (set_policy room policy (Some task)).room (kept-set_policy room policy (Some task))
    (spots-with_policy_set room policy task (found_again pid room.tasks task found)) housed

-- what holds of each sibling once one has left
pub sibling_of-without : (P : SiblingState → Type 0) (room : RoomState) (cpu other : ℕ) → (sibling_of room other ≡ absent → P absent) → (other ≡ cpu → P (away (sibling_of room other))) →
    (other ≢ cpu → P (stand_by (sibling_of room other))) →
    P (sibling_of (leave room cpu) other)
unfolding leave
sibling_of-without P room cpu other past here there =
    enumerated_at P (left cpu) 0 room.siblings other past
    (subst (λ n. P (cond (n == cpu) (away (sibling_of room other)) (stand_by (sibling_of room other)))) (omega arith)
    (cond_both (other == cpu) _ _ P (λ same. here (eqb-true other cpu same)) (λ isnt. there (eqb-false other cpu isnt))))

length-leave : (room : RoomState) (cpu : ℕ) → length (leave room cpu).siblings ≡ length room.siblings
unfolding leave
length-leave room cpu = length-map (enumerate_from 0 room.siblings) _ ∙ length-enumerate_from 0 room.siblings

housed-leave : (room : RoomState) (cpu : ℕ) → cpu < length room.siblings → is_online room cpu ≡ true → length (online room) ≢ 1 → IsHoused room → IsHoused (leave room cpu)
housed-leave room cpu below up more housed =
    record {
      some = (lowest_other room cpu, subst (λ n. lowest_other room cpu < n) (sym (length-leave room cpu)) other.0, still (lowest_other room cpu) other.2 other.1);
      homes = λ pid. subst (IsHome (leave room cpu)) (sym (spots-leave room cpu pid)) (go (spot_at room pid) (housed.homes pid));
    } where
      other : (lowest_other room cpu < length room.siblings) × (is_online room (lowest_other room cpu) ≡ true) × (lowest_other room cpu ≢ cpu)
      other = lowest_other_is room cpu below up more

      still : (n : ℕ) → n ≢ cpu → is_online room n ≡ true → is_online (leave room cpu) n ≡ true
      still n differ up = sibling_of-without (λ s. s.online ≡ true) room cpu n
          (λ gone. ap (λ (s : SiblingState). s.online) (sym gone) ∙ up) (λ same. absurd (differ same)) (λ _. up)

      go : (one : Option Spot) → IsHome room one → IsHome (leave room cpu) (option_map (spot_off cpu (lowest_other room cpu)) one)
      go None home = tt
      go (Some spot) home =
          cond_both (spot.queued && (spot.home == cpu)) (record spot { home = lowest_other room cpu }) spot
          (λ (s : Spot). s.queued ≡ true → is_online (leave room cpu) s.home ≡ true)
          (λ _ queued. still (lowest_other room cpu) other.2 other.1)
          (λ off queued. still spot.home (eqb-false spot.home cpu (sym (ap (λ b. b && (spot.home == cpu)) queued) ∙ off)) (home queued))

housed-take_offline : (room : RoomState) (cpu : ℕ) → cpu < length room.siblings → IsHoused room → IsHoused (take_offline room cpu).room
housed-take_offline room cpu below housed =
    cond_both (not (is_online room cpu)) _ _ (λ (made : Stepped). IsHoused made.room) (λ _. housed)
    (λ up. cond_both (length (online room) == 1) _ _ (λ (made : Stepped). IsHoused made.room) (λ _. housed)
    (λ more. housed-leave room cpu below (not-false (is_online room cpu) up) (eqb-false (length (online room)) 1 more) housed))

housed-bring_online : (room : RoomState) (cpu : ℕ) → IsHoused room → IsHoused (bring_online room cpu).room
housed-bring_online room cpu housed =
    cond_both (is_online room cpu) _ _ (λ (made : Stepped). IsHoused made.room) (λ _. housed)
    (λ _. housed_more room (with_sibling_back room cpu) (length-set room.siblings cpu (back (sibling_of room cpu)))
    (λ other up. back_is other up) housed.homes housed) where
      back_is : (other : ℕ) → is_online room other ≡ true → is_online (with_sibling_back room cpu) other ≡ true
      back_is = with_sibling_either (λ n s. is_online room n ≡ true → s.online ≡ true) room cpu (back (sibling_of room cpu)) (λ _. refl) (λ n up. up)

housed-unless_offline : (room : RoomState) (cpu : ℕ) (stepped : Stepped) → IsHoused room → (is_online room cpu ≡ true → IsHoused stepped.room) →
    IsHoused (unless_offline room cpu stepped).room
housed-unless_offline room cpu stepped housed now = cond_both (is_online room cpu) _ _ (λ (made : Stepped). IsHoused made.room) now (λ _. housed)

pub housed-step : (room : RoomState) (fresh : Bool) (event : Event) → IsEvent (length room.siblings) event → AreRising room → IsHoused room → IsHoused (step room fresh event).room
housed-step room fresh (Turn cpu) limits rises housed = housed-unless_offline room cpu _ housed (λ up. housed-turn room fresh cpu up rises housed)
housed-step room fresh (Resched cpu) limits rises housed = housed-unless_offline room cpu _ housed (λ _. housed-schedule room fresh cpu housed)
housed-step room fresh (Block cpu) limits rises housed = housed-unless_offline room cpu _ housed (λ _. housed-block room cpu (running_on room cpu) refl housed)
housed-step room fresh (Exit cpu) limits rises housed = housed-unless_offline room cpu _ housed (λ _. housed-exit room cpu (running_on room cpu) housed)
housed-step room fresh (Tick cpu) limits rises housed = housed-unless_offline room cpu _ housed (λ _. housed-tick room cpu (running_on room cpu) refl housed)
housed-step room fresh (Wake pid) limits rises housed = housed-wake room pid (task_of room pid) refl housed
housed-step room fresh (Advance delta) limits rises housed = housed-advanced room delta housed
housed-step room fresh (Fork caller thread) limits rises housed = housed-fork room thread (task_of room caller) housed
housed-step room fresh (Prctl caller ask) limits rises housed =
    housed-with_answer (with_used room (makes_cookie room caller ask) (asked_by_call room caller ask)) (setting_of room caller ask) (prctl_answer room caller ask)
    (record { some = housed.some; homes = housed.homes })
housed-step room fresh (SetSched pid policy) limits rises housed = housed-set_policy room policy pid (task_of room pid) refl housed
housed-step room fresh (Offline cpu) limits rises housed = housed-take_offline room cpu limits housed
housed-step room fresh (Online cpu) limits rises housed = housed-bring_online room cpu housed
housed-step room fresh (Load index) limits rises housed = record { some = housed.some; homes = housed.homes }
housed-step room fresh (Unload index) limits rises housed = record { some = housed.some; homes = housed.homes }
