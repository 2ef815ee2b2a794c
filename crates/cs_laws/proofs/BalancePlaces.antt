-- Balance places: a balance place goes one sibling on at a step at most, so none is above the length of the history.
use Rattle.std.proofs.Common.{ℕ, ◌+◌, ◌≤◌, length, Bool, true, false, not, List, [], ◌∷◌, subst, Option, Some, None, arith}
use Rattle.std.specs.Prelude.{All, ◌==◌}
use Rattle.std.specs.List.{AllByRecursion}
use Rattle.std.proofs.lemmas.Bool.{cond_both}
use Rattle.std.proofs.lemmas.List.Elements.{All-from_recursion}
use Rattle.cs_types.specs.declared.task.Task.{Task}
use Rattle.cs_types.specs.declared.task.Policy.{Policy}
use Rattle.cs_types.specs.declared.event.Event.{Event}
use Rattle.cs_types.specs.declared.event.Event.TheVariants.{Turn, Resched, Block, Exit, Tick, Wake, Advance, Fork, Prctl, SetSched, Offline, Online, Load, Unload}
use Rattle.cs_types.specs.declared.reply.Reply.{Reply}
use Rattle.cs_types.specs.declared.reply.Reply.TheVariants.{Zero}
use Rattle.cs_types.specs.declared.reply.Entry.{Entry}
use Rattle.cs_types.specs.Room.{Opening, RoomState, SiblingState, idle, online, is_online, sibling_of, running_on, task_of, with_sibling, flag, absent}
use Rattle.cs_types.specs.Selection.{select_for, select, pick_plain, is_plain, pick_anew, adopt_or_pick_anew, schedule, is_to_steal}
use Rattle.cs_types.specs.Accounting.{charge}
use Rattle.cs_types.specs.Time.{least_of, with_growth, advanced}
use Rattle.cs_types.specs.Prctl.{asked_by_call, Setting, setting_of, makes_cookie, with_used, with_answer, prctl_answer}
use Rattle.cs_types.specs.Step.{Stepped, step, wake, turn, try_steal, run_idle, block, without, has_threads, exit, may_not_fork, fork, tick, unless_offline, set_policy, take_offline, bring_online}
use Rattle.cs_types.specs.Queueing.{dequeue, moved}
use Rattle.cs_types.specs.Steal.{source_of, stolen, set_place, next_place}
use Rattle.cs_types.specs.Hotplug.{away, leave}
use Rattle.cs_types.specs.Touches.{is_fresh}
use Rattle.cs_types.specs.History.{History, Moment, beginning, next, after, fold_of}
use Rattle.cs_types.proofs.Foremost.{each_weaker}
use Rattle.cs_types.proofs.Lists.{all_map, all_enumerated, all_set, all_get, all_replicate}

-- no balance place is above this
abbrev Low : ℕ → SiblingState → Type 0
Low most sibling = sibling.place ≤ most

abbrev AreLow : ℕ → RoomState → Type 0
AreLow most room = AllByRecursion (Low most) room.siblings

-- ---- changes of a room

-- what is low is low below a higher bound
higher : (most : ℕ) (siblings : List SiblingState) → AllByRecursion (Low most) siblings → AllByRecursion (Low (most + 1)) siblings
higher most siblings low = each_weaker (Low most) (Low (most + 1)) siblings (λ sibling is. omega (arith, is)) low

-- so is the sibling of each number
low_at : (most : ℕ) (room : RoomState) (cpu : ℕ) → AreLow most room → (sibling_of room cpu).place ≤ most
low_at most room cpu low = all_get (Low most) room.siblings cpu absent (omega arith) low

-- a sibling with a low place in the place of another
low-with_sibling : (most : ℕ) (room : RoomState) (cpu : ℕ) (sibling : SiblingState) → sibling.place ≤ most → AreLow most room → AreLow most (with_sibling room cpu sibling)
low-with_sibling most room cpu sibling is low = all_set (Low most) room.siblings cpu sibling is low

low-flag : (most : ℕ) (room : RoomState) (cpu : ℕ) (test : Bool) → AreLow most room → AreLow most (flag room cpu test)
low-flag most room cpu test low = low-with_sibling most room cpu _ (low_at most room cpu low) low

low-run_idle : (most : ℕ) (room : RoomState) (cpu : ℕ) → AreLow most room → AreLow most (run_idle room cpu)
low-run_idle most room cpu low = low-with_sibling most room cpu _ (low_at most room cpu low) low

-- ---- a schedule

-- A selection leaves each balance place.
low-select_for : (most : ℕ) (room : RoomState) (cpu core : ℕ) → AreLow most room → AreLow most (select_for room cpu core)
unfolding select_for
low-select_for most room cpu core low =
    all_enumerated (Low most) _ (λ other sibling is. cond_both sibling.online _ sibling (Low most) (λ _. is) (λ _. is)) 0 room.siblings low

low-pick_anew : (most : ℕ) (room : RoomState) (cpu : ℕ) → AreLow most room → AreLow most (pick_anew room cpu).room
low-pick_anew most room cpu low =
    cond_both (is_plain room cpu) (pick_plain room cpu) (select room cpu) (λ made. AreLow most made.room)
    (λ _. all_set (Low most) room.siblings cpu _ (low_at most room cpu low) low) (λ _. low-select_for most room cpu _ low)

low-adopt_or_pick_anew : (most : ℕ) (room : RoomState) (fresh : Bool) (cpu : ℕ) (waiting : Option (Option ℕ)) → AreLow most room → AreLow most (adopt_or_pick_anew room fresh cpu waiting).room
low-adopt_or_pick_anew most room fresh cpu None low = low-pick_anew most (charge room) cpu low
low-adopt_or_pick_anew most room true cpu (Some run) low = low-with_sibling most room cpu _ (low_at most room cpu low) low
low-adopt_or_pick_anew most room false cpu (Some run) low = low-pick_anew most (charge room) cpu low

-- After a schedule the place is 1 at most.
low-schedule : (most : ℕ) (room : RoomState) (fresh : Bool) (cpu : ℕ) → AreLow most room → AreLow (most + 1) (schedule room fresh cpu).room
low-schedule most room fresh cpu low =
    let made = (adopt_or_pick_anew room fresh cpu (sibling_of room cpu).waiting).room in
    low-with_sibling (most + 1) made cpu _ (cond_both (is_to_steal made cpu) 1 0 (λ n. n ≤ most + 1) (λ _. omega arith) (λ _. omega arith))
    (higher most _ (low-adopt_or_pick_anew most room fresh cpu (sibling_of room cpu).waiting low))

-- ---- a turn

-- A try that finds nothing goes one sibling on or ends, and one that finds a task ends.
low-try_steal : (most : ℕ) (room : RoomState) (cpu : ℕ) (task : Option Task) → AreLow most room → AreLow (most + 1) (try_steal room cpu task).room
low-try_steal most room cpu None low =
    let at = low_at most room cpu low in
    let on : next_place room cpu ≤ most + 1 =
    cond_both ((sibling_of room cpu).place + 1 == length room.siblings) 0 _ (λ n. n ≤ most + 1) (λ _. omega arith) (λ _. omega (arith, at)) in
    low-with_sibling (most + 1) room cpu _ on (higher most _ low)
low-try_steal most room cpu (Some task) low =
    let ended = low-with_sibling (most + 1) (moved room cpu task) cpu (record (sibling_of (moved room cpu task) cpu) { place = 0 }) (omega arith) (higher most _ low) in
    low-flag (most + 1) (flag (set_place (moved room cpu task) cpu 0) cpu true) (source_of room cpu) _
    (low-flag (most + 1) (set_place (moved room cpu task) cpu 0) cpu true ended)

low-turn : (most : ℕ) (room : RoomState) (fresh : Bool) (cpu : ℕ) → AreLow most room → AreLow (most + 1) (turn room fresh cpu).room
low-turn most room fresh cpu low =
    cond_both (sibling_of room cpu).pending _ _ (λ (made : Stepped). AreLow (most + 1) made.room) (λ _. low-schedule most room fresh cpu low)
    (λ _. cond_both ((sibling_of room cpu).place == 0) _ _ (λ (made : Stepped). AreLow (most + 1) made.room) (λ _. higher most _ low)
    (λ _. low-try_steal most room cpu (stolen room cpu) low))

-- ---- the other events of a sibling

low-block : (most : ℕ) (room : RoomState) (cpu : ℕ) (task : Option Task) → AreLow most room → AreLow (most + 1) (block room cpu task).room
low-block most room cpu None low = higher most _ low
low-block most room cpu (Some task) low = low-schedule most (run_idle (dequeue (charge room) task) cpu) false cpu (low-run_idle most (dequeue (charge room) task) cpu low)

low-exit : (most : ℕ) (room : RoomState) (cpu : ℕ) (task : Option Task) → AreLow most room → AreLow (most + 1) (exit room cpu task).room
low-exit most room cpu None low = higher most _ low
low-exit most room cpu (Some task) low =
    cond_both (has_threads room task) _ _ (λ (made : Stepped). AreLow (most + 1) made.room) (λ _. higher most _ low)
    (λ _. low-schedule most (run_idle (without (charge room) task) cpu) false cpu (low-run_idle most (without (charge room) task) cpu low))

low-tick : (most : ℕ) (room : RoomState) (cpu : ℕ) (task : Option Task) → AreLow most room → AreLow most (tick room cpu task).room
low-tick most room cpu None low = low
low-tick most room cpu (Some task) low = low-flag most room cpu _ low

low-unless_offline : (most : ℕ) (room : RoomState) (cpu : ℕ) (stepped : Stepped) → AreLow most room → AreLow most stepped.room → AreLow most (unless_offline room cpu stepped).room
low-unless_offline most room cpu stepped was now =
    cond_both (is_online room cpu) _ _ (λ (made : Stepped). AreLow most made.room) (λ _. now) (λ _. was)

-- ---- the other events

low-wake : (most : ℕ) (room : RoomState) (task : Option Task) → AreLow most room → AreLow most (wake room task).room
low-wake most room None low = low
low-wake most room (Some task) low =
    cond_both task.queued _ _ (λ (made : Stepped). AreLow most made.room) (λ _. low) (λ _. low-flag most room _ _ low)

low-fork : (most : ℕ) (room : RoomState) (thread : Bool) (caller : Option Task) → AreLow most room → AreLow most (fork room thread caller).room
low-fork most room thread None low = low
low-fork most room thread (Some caller) low =
    cond_both (may_not_fork room.task_limit room.tasks caller) _ _ (λ (made : Stepped). AreLow most made.room) (λ _. low) (λ _. low-flag most room _ _ low)

low-set_policy : (most : ℕ) (room : RoomState) (policy : Policy) (task : Option Task) → AreLow most room → AreLow most (set_policy room policy task).room
low-set_policy most room policy None low = low
low-set_policy most room policy (Some task) low =
    cond_both task.queued _ _ (AreLow most) (λ _. low-flag most (flag room _ _) _ _ (low-flag most room _ _ low)) (λ _. low)

low-with_answer : (most : ℕ) (room : RoomState) (set : Setting) (answer : Reply) → AreLow most room → AreLow most (with_answer room set answer)
low-with_answer most room set Zero low = all_map (Low most) _ room.siblings low
low-with_answer most room set answer low = low

low-advanced : (most : ℕ) (room : RoomState) (delta : ℕ) → AreLow most room → AreLow most (advanced room delta)
unfolding advanced
low-advanced most room delta low =
    all_enumerated (Low most) (λ (place : ℕ × SiblingState). let state : SiblingState = record place.1 { least = least_of (with_growth room delta) place.0 } in state)
    (λ cpu sibling is. is) 0 (with_growth room delta).siblings (all_map (Low most) _ room.siblings low)

-- A sibling that leaves makes no more tries.
low-leave : (most : ℕ) (room : RoomState) (cpu : ℕ) → AreLow most room → AreLow most (leave room cpu)
unfolding leave
low-leave most room cpu low =
    all_enumerated (Low most) _ (λ other sibling is. cond_both (other == cpu) (away sibling) _ (Low most) (λ _. omega arith) (λ _. is)) 0 room.siblings low

low-take_offline : (most : ℕ) (room : RoomState) (cpu : ℕ) → AreLow most room → AreLow most (take_offline room cpu).room
low-take_offline most room cpu low =
    cond_both (not (is_online room cpu)) _ _ (λ (made : Stepped). AreLow most made.room) (λ _. low)
    (λ _. cond_both (length (online room) == 1) _ _ (λ (made : Stepped). AreLow most made.room) (λ _. low) (λ _. low-leave most room cpu low))

-- and one that comes back begins with none
low-bring_online : (most : ℕ) (room : RoomState) (cpu : ℕ) → AreLow most room → AreLow most (bring_online room cpu).room
low-bring_online most room cpu low =
    cond_both (is_online room cpu) _ _ (λ (made : Stepped). AreLow most made.room) (λ _. low) (λ _. low-with_sibling most room cpu _ (omega arith) low)

-- ---- every event, and a history

-- At a step no place goes further than one sibling on.
pub low-step : (most : ℕ) (room : RoomState) (fresh : Bool) (event : Event) → AreLow most room → AreLow (most + 1) (step room fresh event).room
low-step most room fresh (Turn cpu) low = low-unless_offline (most + 1) room cpu _ (higher most _ low) (low-turn most room fresh cpu low)
low-step most room fresh (Resched cpu) low = low-unless_offline (most + 1) room cpu _ (higher most _ low) (low-schedule most room fresh cpu low)
low-step most room fresh (Block cpu) low = low-unless_offline (most + 1) room cpu _ (higher most _ low) (low-block most room cpu (running_on room cpu) low)
low-step most room fresh (Exit cpu) low = low-unless_offline (most + 1) room cpu _ (higher most _ low) (low-exit most room cpu (running_on room cpu) low)
low-step most room fresh (Tick cpu) low =
    higher most _ (low-unless_offline most room cpu _ low (low-tick most room cpu (running_on room cpu) low))
low-step most room fresh (Wake pid) low = higher most _ (low-wake most room (task_of room pid) low)
low-step most room fresh (Advance delta) low = higher most _ (low-advanced most room delta low)
low-step most room fresh (Fork caller thread) low = higher most _ (low-fork most room thread (task_of room caller) low)
low-step most room fresh (Prctl caller ask) low =
    higher most _ (low-with_answer most (with_used room (makes_cookie room caller ask) (asked_by_call room caller ask)) (setting_of room caller ask) (prctl_answer room caller ask) low)
low-step most room fresh (SetSched pid policy) low = higher most _ (low-set_policy most room policy (task_of room pid) low)
low-step most room fresh (Offline cpu) low = higher most _ (low-take_offline most room cpu low)
low-step most room fresh (Online cpu) low = higher most _ (low-bring_online most room cpu low)
low-step most room fresh (Load index) low = higher most _ low
low-step most room fresh (Unload index) low = higher most _ low

low_after : (most : ℕ) (moment : Moment) (entries : List Entry) → AreLow most moment.room → AreLow (most + length entries) (after moment entries).room
low_after most moment [] low = subst (λ n. AreLow n moment.room) (omega arith) low
low_after most moment (entry ∷ entries) low =
    subst (λ n. AreLow n (after (next moment entry) entries).room) (omega arith)
    (low_after (most + 1) (next moment entry) entries (low-step most moment.room (is_fresh moment.ledger) entry.event low))

-- After a history of so many entries no place is above that.
pub places-fold_of : (opening : Opening) (history : History) → All (λ (sibling : SiblingState). sibling.place ≤ length history) (fold_of opening history).siblings
places-fold_of opening history =
    All-from_recursion (Low (length history)) (fold_of opening history).siblings
    (subst (λ n. AreLow n (fold_of opening history)) (omega arith)
    (low_after 0 (beginning opening) history (all_replicate (Low 0) opening.scenario.siblings idle (omega arith))))
