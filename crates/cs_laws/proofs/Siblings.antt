-- Siblings: no step adds a sibling or takes one from the room, and only leaving and coming back change whether one is
-- online.
use Rattle.std.proofs.Common.{◌≡◌, ℕ, Bool, true, false, List, [], ◌∷◌, map, length, get_or, set, refl, sym, ap, ◌∙◌, Option, Some, None}
use Rattle.std.specs.Prelude.{◌==◌, ◌||◌, not}
use Rattle.std.specs.List.{enumerate_from}
use Rattle.std.proofs.lemmas.Bool.{cond_both}
use Rattle.std.proofs.lemmas.List.{length-map, length-set, length-replicate}
use Rattle.std.proofs.lemmas.List.FromFn.{length-enumerate_from}
use Rattle.cs_types.specs.declared.task.Task.{Task}
use Rattle.cs_types.specs.declared.task.Policy.{Policy}
use Rattle.cs_types.specs.declared.event.Event.{Event}
use Rattle.cs_types.specs.declared.event.Event.TheVariants.{Turn, Resched, Block, Exit, Tick, Wake, Advance, Fork, Prctl, SetSched, Offline, Online, Load, Unload}
use Rattle.cs_types.specs.declared.event.Ask.{Ask}
use Rattle.cs_types.specs.declared.reply.Reply.{Reply}
use Rattle.cs_types.specs.declared.reply.Reply.TheVariants.{Zero}
use Rattle.cs_types.specs.declared.reply.Entry.{Entry}
use Rattle.cs_types.specs.Room.{Opening, RoomState, SiblingState, idle, sibling_of, running_on, is_online, online, task_of, with_sibling, flag, absent}
use Rattle.cs_types.specs.Selection.{select_for, select, pick_plain, is_plain, pick_anew, adopt_or_pick_anew, schedule}
use Rattle.cs_types.specs.Accounting.{charge}
use Rattle.cs_types.specs.Prctl.{asked_by_call, Setting, setting_of, runs_one, makes_cookie, with_used, with_answer, prctl_answer, prctl_room}
use Rattle.cs_types.specs.Step.{Stepped, step, wake, block, exit, fork, may_not_fork, child_at_home, tick, turn, without, has_threads, child_of, with_child, run_idle, try_steal, unless_offline, with_policy, set_policy, take_offline, bring_online}
use Rattle.cs_types.specs.Queueing.{refreshed, dequeue, enqueue, moved, rehomed, queue_at_home}
use Rattle.cs_types.specs.Steal.{source_of, stolen, set_place}
use Rattle.cs_types.specs.Hotplug.{leave}
use Rattle.cs_types.specs.Time.{with_growth, advanced, begin_slice}
use Rattle.cs_types.specs.Touches.{is_fresh}
use Rattle.cs_types.specs.History.{History, Moment, beginning, next, after, fold_of}
use Rattle.cs_types.proofs.Lists.{map-set_alike, map-enumerate_alike, map-map_alike, get_or-map_default}

-- ---- what each change of a room keeps

-- of each sibling, whether it is online, and its least virtual time
abbrev pub parts_of : SiblingState → Bool × ℕ
parts_of sibling = (sibling.online, sibling.least)

abbrev pub kept : RoomState → List (Bool × ℕ)
kept room = map parts_of room.siblings

-- a sibling is changed, but in these parts it is not
pub kept-with_sibling : (room : RoomState) (cpu : ℕ) (sibling : SiblingState) → parts_of sibling ≡ parts_of (sibling_of room cpu) → kept (with_sibling room cpu sibling) ≡ kept room
kept-with_sibling room cpu sibling same = map-set_alike parts_of room.siblings cpu sibling absent same

-- a selection leaves these parts of each
pub kept-select_for : (room : RoomState) (cpu core : ℕ) → kept (select_for room cpu core) ≡ kept room
unfolding select_for
kept-select_for room cpu core =
    map-enumerate_alike parts_of _
    (λ numbered. cond_both numbered.1.online _ _ (λ (s : SiblingState). parts_of s ≡ parts_of numbered.1) (λ _. refl) (λ _. refl)) 0 room.siblings

-- ---- what each step keeps

pub kept-pick_anew : (room : RoomState) (cpu : ℕ) → kept (pick_anew room cpu).room ≡ kept room
kept-pick_anew room cpu =
    cond_both (is_plain room cpu) (pick_plain room cpu) (select room cpu) (λ made. kept made.room ≡ kept room)
    (λ _. kept-with_sibling room cpu _ refl) (λ _. kept-select_for room cpu _)

pub kept-adopt_or_pick_anew : (room : RoomState) (fresh : Bool) (cpu : ℕ) (waiting : Option (Option ℕ)) → kept (adopt_or_pick_anew room fresh cpu waiting).room ≡ kept room
kept-adopt_or_pick_anew room fresh cpu None = kept-pick_anew (charge room) cpu
kept-adopt_or_pick_anew room true cpu (Some run) = kept-with_sibling room cpu _ refl
kept-adopt_or_pick_anew room false cpu (Some run) = kept-pick_anew (charge room) cpu

pub kept-schedule : (room : RoomState) (fresh : Bool) (cpu : ℕ) → kept (schedule room fresh cpu).room ≡ kept room
kept-schedule room fresh cpu =
    kept-with_sibling (adopt_or_pick_anew room fresh cpu (sibling_of room cpu).waiting).room cpu _ refl ∙ kept-adopt_or_pick_anew room fresh cpu (sibling_of room cpu).waiting

pub kept-try_steal : (room : RoomState) (cpu : ℕ) (task : Option Task) → kept (try_steal room cpu task).room ≡ kept room
kept-try_steal room cpu None = kept-with_sibling room cpu _ refl
kept-try_steal room cpu (Some task) =
    let inserted = set_place (moved room cpu task) cpu 0 in
    let asked = flag inserted cpu true in
    kept-with_sibling asked (source_of room cpu) _ refl ∙ (kept-with_sibling inserted cpu _ refl ∙ kept-with_sibling (moved room cpu task) cpu _ refl)

pub kept-turn : (room : RoomState) (fresh : Bool) (cpu : ℕ) → kept (turn room fresh cpu).room ≡ kept room
kept-turn room fresh cpu =
    cond_both (sibling_of room cpu).pending _ _ (λ (made : Stepped). kept made.room ≡ kept room) (λ _. kept-schedule room fresh cpu)
    (λ _. cond_both ((sibling_of room cpu).place == 0) _ _ (λ (made : Stepped). kept made.room ≡ kept room) (λ _. refl)
    (λ _. kept-try_steal room cpu (stolen room cpu)))

-- the task that a sibling runs goes to sleep, and the sibling runs idle
pub kept-run_idle : (room : RoomState) (cpu : ℕ) (task : Task) → kept (run_idle (dequeue room task) cpu) ≡ kept room
kept-run_idle room cpu task = kept-with_sibling (dequeue room task) cpu _ refl

pub kept-block : (room : RoomState) (cpu : ℕ) (task : Option Task) → kept (block room cpu task).room ≡ kept room
kept-block room cpu None = refl
kept-block room cpu (Some task) = kept-schedule (run_idle (dequeue (charge room) task) cpu) false cpu ∙ kept-run_idle (charge room) cpu task

pub kept-queue_at_home : (room : RoomState) (task : Task) → kept (queue_at_home room task) ≡ kept room
kept-queue_at_home room task = kept-with_sibling (enqueue room (refreshed room task)) task.home _ refl

pub kept-wake : (room : RoomState) (task : Option Task) → kept (wake room task).room ≡ kept room
kept-wake room None = refl
kept-wake room (Some task) =
    cond_both task.queued _ _ (λ (made : Stepped). kept made.room ≡ kept room) (λ _. refl)
    (λ _. kept-queue_at_home room (rehomed room task))

pub kept-without : (room : RoomState) (cpu : ℕ) (task : Task) → kept (run_idle (without room task) cpu) ≡ kept room
kept-without room cpu task = kept-with_sibling (without room task) cpu _ refl

pub kept-exit : (room : RoomState) (cpu : ℕ) (task : Option Task) → kept (exit room cpu task).room ≡ kept room
kept-exit room cpu None = refl
kept-exit room cpu (Some task) =
    cond_both (has_threads room task) _ _ (λ (made : Stepped). kept made.room ≡ kept room) (λ _. refl)
    (λ _. kept-schedule (run_idle (without (charge room) task) cpu) false cpu ∙ kept-without (charge room) cpu task)

pub kept-fork : (room : RoomState) (thread : Bool) (caller : Option Task) → kept (fork room thread caller).room ≡ kept room
kept-fork room thread None = refl
kept-fork room thread (Some caller) =
    let child = child_at_home room (child_of caller thread room.next_pid) in
    let born = with_child room (child_of caller thread room.next_pid) in
    cond_both (may_not_fork room.task_limit room.tasks caller) _ _ (λ (made : Stepped). kept made.room ≡ kept room) (λ _. refl)
    (λ _. kept-queue_at_home born child)

pub kept-tick : (room : RoomState) (cpu : ℕ) (task : Option Task) → kept (tick room cpu task).room ≡ kept room
kept-tick room cpu None = refl
kept-tick room cpu (Some task) = kept-with_sibling (begin_slice room cpu task) cpu _ refl

pub kept-with_answer : (room : RoomState) (set : Setting) (answer : Reply) → kept (with_answer room set answer) ≡ kept room
kept-with_answer room set Zero =
    map-map_alike parts_of (λ s. record s { pending = s.pending || runs_one set s }) (λ s. refl) room.siblings
kept-with_answer room set answer = refl

pub kept-prctl_room : (room : RoomState) (pid : ℕ) (ask : Ask) → kept (prctl_room room pid ask) ≡ kept room
kept-prctl_room room pid ask =
    kept-with_answer (with_used room (makes_cookie room pid ask) (asked_by_call room pid ask)) (setting_of room pid ask) (prctl_answer room pid ask)

pub kept-unless_offline : (room : RoomState) (cpu : ℕ) (stepped : Stepped) → kept stepped.room ≡ kept room → kept (unless_offline room cpu stepped).room ≡ kept room
kept-unless_offline room cpu stepped same =
    cond_both (is_online room cpu) _ _ (λ (made : Stepped). kept made.room ≡ kept room) (λ _. same) (λ _. refl)

pub kept-set_policy : (room : RoomState) (policy : Policy) (task : Option Task) → kept (set_policy room policy task).room ≡ kept room
kept-set_policy room policy None = refl
kept-set_policy room policy (Some task) =
    let changed = with_policy policy task in
    let queued = queue_at_home (dequeue room changed) changed in
    cond_both task.queued _ _ (λ (made : RoomState). kept made ≡ kept room)
    (λ _. kept-with_sibling queued task.home _ refl ∙ kept-queue_at_home (dequeue room changed) changed) (λ _. refl)

-- ---- what is read from whether the siblings are online

-- two rooms whose siblings are online alike have as many
pub length-alike : (room other : RoomState) → kept room ≡ kept other → length room.siblings ≡ length other.siblings
length-alike room other same =
    sym (length-map room.siblings parts_of) ∙ (ap length same ∙ length-map other.siblings parts_of)

parts-alike : (room other : RoomState) → kept room ≡ kept other → (cpu : ℕ) → parts_of (sibling_of room cpu) ≡ parts_of (sibling_of other cpu)
parts-alike room other same cpu =
    sym (get_or-map_default parts_of room.siblings cpu absent)
    ∙ (ap (λ ps. get_or ps cpu (parts_of absent)) same ∙ get_or-map_default parts_of other.siblings cpu absent)

-- and they have the same siblings online
pub is_online-alike : (room other : RoomState) → kept room ≡ kept other → (cpu : ℕ) → is_online room cpu ≡ is_online other cpu
is_online-alike room other same cpu =
    ap (λ (p : Bool × ℕ). p.0) (parts-alike room other same cpu)

-- and the same leasts
pub least-alike : (room other : RoomState) → kept room ≡ kept other → (cpu : ℕ) → (sibling_of room cpu).least ≡ (sibling_of other cpu).least
least-alike room other same cpu = ap (λ (p : Bool × ℕ). p.1) (parts-alike room other same cpu)

-- ---- how many siblings there are

length-take_offline : (room : RoomState) (cpu : ℕ) → length (take_offline room cpu).room.siblings ≡ length room.siblings
unfolding leave
length-take_offline room cpu =
    cond_both (not (is_online room cpu)) _ _ (λ (made : Stepped). length made.room.siblings ≡ length room.siblings) (λ _. refl)
    (λ _. cond_both (length (online room) == 1) _ _ (λ (made : Stepped). length made.room.siblings ≡ length room.siblings) (λ _. refl)
    (λ _. length-map (enumerate_from 0 room.siblings) _ ∙ length-enumerate_from 0 room.siblings))

length-bring_online : (room : RoomState) (cpu : ℕ) → length (bring_online room cpu).room.siblings ≡ length room.siblings
length-bring_online room cpu =
    cond_both (is_online room cpu) _ _ (λ (made : Stepped). length made.room.siblings ≡ length room.siblings) (λ _. refl)
    (λ _. length-set room.siblings cpu _)

length-advanced : (room : RoomState) (delta : ℕ) → length (advanced room delta).siblings ≡ length room.siblings
unfolding advanced
length-advanced room delta =
    length-map (enumerate_from 0 (with_growth room delta).siblings) _ ∙ (length-enumerate_from 0 (with_growth room delta).siblings ∙ length-map room.siblings _)

-- No step adds a sibling or takes one from the room.
pub length-step : (room : RoomState) (fresh : Bool) (event : Event) → length (step room fresh event).room.siblings ≡ length room.siblings
length-step room fresh (Turn cpu) = length-alike (step room fresh (Turn cpu)).room room (kept-unless_offline room cpu _ (kept-turn room fresh cpu))
length-step room fresh (Resched cpu) = length-alike (step room fresh (Resched cpu)).room room (kept-unless_offline room cpu _ (kept-schedule room fresh cpu))
length-step room fresh (Block cpu) = length-alike (step room fresh (Block cpu)).room room (kept-unless_offline room cpu _ (kept-block room cpu (running_on room cpu)))
length-step room fresh (Exit cpu) = length-alike (step room fresh (Exit cpu)).room room (kept-unless_offline room cpu _ (kept-exit room cpu (running_on room cpu)))
length-step room fresh (Tick cpu) = length-alike (step room fresh (Tick cpu)).room room (kept-unless_offline room cpu _ (kept-tick room cpu (running_on room cpu)))
length-step room fresh (Wake pid) = length-alike (step room fresh (Wake pid)).room room (kept-wake room (task_of room pid))
length-step room fresh (Advance delta) = length-advanced room delta
length-step room fresh (Fork caller thread) = length-alike (step room fresh (Fork caller thread)).room room (kept-fork room thread (task_of room caller))
length-step room fresh (Prctl caller ask) = length-alike (step room fresh (Prctl caller ask)).room room (kept-prctl_room room caller ask)
length-step room fresh (SetSched pid policy) = length-alike (step room fresh (SetSched pid policy)).room room (kept-set_policy room policy (task_of room pid))
length-step room fresh (Offline cpu) = length-take_offline room cpu
length-step room fresh (Online cpu) = length-bring_online room cpu
length-step room fresh (Load index) = refl
length-step room fresh (Unload index) = refl

-- ---- after a history

length-after : (moment : Moment) (entries : List Entry) → length (after moment entries).room.siblings ≡ length moment.room.siblings
length-after moment [] = refl
length-after moment (entry ∷ entries) =
    length-after (next moment entry) entries ∙ length-step moment.room (is_fresh moment.ledger) entry.event

-- a room has the siblings of its scenario
pub length-fold_of : (opening : Opening) (history : History) → length (fold_of opening history).siblings ≡ opening.scenario.siblings
length-fold_of opening history = length-after (beginning opening) history ∙ length-replicate opening.scenario.siblings idle
