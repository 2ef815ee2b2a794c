-- Rising: after every history the living tasks stand by rising pid, all above 0 and below the next pid.
use Rattle.std.proofs.Common.{◌≡◌, ◌≢◌, ℕ, suc, ◌+◌, ◌<◌, ◌≤◌, All, Bool, cond, true, false, ltb, List, [], ◌∷◌, length, map, refl, sym, ap, ◌∙◌, subst, arith, Option, Some, None, inl, inr}
use Rattle.std.specs.Prelude.{find, filter, fold, not, ◌==◌, ◌&&◌}
use Rattle.std.specs.List.{AllByRecursion}
use Rattle.std.proofs.lemmas.Bool.{cases_Bool, cond_both, cond-true, cond-false, eqb-true, ltb-true, lt-ltb}
use Rattle.std.proofs.lemmas.Bool.Decides.{nat_tests}
use Rattle.std.proofs.lemmas.List.Elements.{recursion_from_All}
use Rattle.cs_types.specs.declared.task.Task.{Task}
use Rattle.cs_types.specs.declared.task.TaskSpec.{TaskSpec}
use Rattle.cs_types.specs.declared.task.Policy.{Policy}
use Rattle.cs_types.specs.declared.task.Policy.TheVariants.{Stop, Deadline, Fifo, Rr, Fair}
use Rattle.cs_types.specs.declared.event.Event.{Event}
use Rattle.cs_types.specs.declared.event.Event.TheVariants.{Turn, Resched, Block, Exit, Tick, Wake, Advance, Fork, Prctl, SetSched, Offline, Online, Load, Unload}
use Rattle.cs_types.specs.declared.reply.Reply.{Reply}
use Rattle.cs_types.specs.declared.reply.Reply.TheVariants.{Zero}
use Rattle.cs_types.specs.declared.reply.Entry.{Entry}
use Rattle.cs_types.specs.Scenario.{AreDistinct}
use Rattle.cs_types.specs.Room.{Opening, RoomState, has_pid, sibling_of, running_on, is_online, online, task_of, asleep, inserted, first_pid, with_task}
use Rattle.cs_types.specs.Selection.{task_after_selection, select_for, select, pick_plain, is_plain, pick_anew, adopt_or_pick_anew, schedule}
use Rattle.cs_types.specs.Prctl.{asked_by_call, Setting, setting_of, is_set, makes_cookie, with_used, with_answer, prctl_answer}
use Rattle.cs_types.specs.Step.{Stepped, step, wake, block, exit, fork, turn, without, has_threads, child_of, child_at_home, may_not_fork, with_child, tick, run_idle, try_steal, unless_offline, with_policy, set_policy, take_offline, bring_online}
use Rattle.cs_types.specs.Queueing.{refreshed, dequeue, moved_to, rehomed, queue_at_home}
use Rattle.cs_types.specs.Steal.{stolen}
use Rattle.cs_types.specs.Hotplug.{moved_off, leave}
use Rattle.cs_types.specs.Accounting.{charge}
use Rattle.cs_types.specs.Time.{advanced, is_running, grown, grown_by}
use Rattle.cs_types.specs.Touches.{is_fresh}
use Rattle.cs_types.specs.History.{History, Moment, beginning, next, after, fold_of}
use Rattle.cs_laws.proofs.Tasks.{below_first_pid}
use Rattle.cs_types.proofs.Foremost.{find_passes, each_weaker}
use Rattle.cs_types.proofs.Inserted.{is_above, inserted-first, inserted-past, each-inserted}

-- each pid is above the one before it, the first above the one number, and the last below the other
abbrev pub Rises : ℕ → ℕ → List Task → Type 0
Rises low high [] = low < high
Rises low high (task ∷ tasks) = (low < task.spec.pid) × Rises task.spec.pid high tasks

-- ---- lists of tasks

rises_wider : (low lower high higher : ℕ) (tasks : List Task) → lower ≤ low → high ≤ higher → Rises low high tasks → Rises lower higher tasks
rises_wider low lower high higher [] under over rises = omega arith
rises_wider low lower high higher (task ∷ tasks) under over rises =
    let first = rises.0 in
    (omega arith, rises_wider task.spec.pid task.spec.pid high higher tasks (omega arith) over rises.1)

-- none has the bound's pid
pub below_high : (low high : ℕ) (tasks : List Task) → Rises low high tasks → (low < high) × AllByRecursion (λ other. other.spec.pid ≢ high) tasks
below_high low high [] rises = (rises, tt)
below_high low high (task ∷ tasks) rises =
    let rest = below_high task.spec.pid high tasks rises.1 in
    let first = rises.0 in
    let below = rest.0 in
    (omega arith, ((λ e. omega arith), rest.1))

-- a change that keeps each pid
rises-map : (f : Task → Task) → ((task : Task) → (f task).spec.pid ≡ task.spec.pid) → (low high : ℕ) (tasks : List Task) →
    Rises low high tasks → Rises low high (map f tasks)
rises-map f same low high [] rises = rises
rises-map f same low high (task ∷ tasks) rises =
    subst (λ n. (low < n) × Rises n high (map f tasks)) (sym (same task)) (rises.0, rises-map f same task.spec.pid high tasks rises.1)

rises-filter : (p : Task → Bool) (low high : ℕ) (tasks : List Task) → Rises low high tasks → Rises low high (filter p tasks)
rises-filter p low high [] rises = rises
rises-filter p low high (task ∷ tasks) rises =
    let rest = rises-filter p task.spec.pid high tasks rises.1 in
    let first = rises.0 in
    cond_both (p task) (task ∷ filter p tasks) (filter p tasks) (Rises low high) (λ _. (rises.0, rest))
    (λ _. rises_wider task.spec.pid low high high (filter p tasks) (omega arith) (omega arith) rest)

above_low : (low high : ℕ) (tasks : List Task) → Rises low high tasks → AllByRecursion (λ other. low < other.spec.pid) tasks
above_low low high [] rises = tt
above_low low high (task ∷ tasks) rises =
    let first = rises.0 in
    (first, each_weaker (λ other. task.spec.pid < other.spec.pid) (λ other. low < other.spec.pid) tasks (λ other above. omega arith) (above_low task.spec.pid high tasks rises.1))

rises-inserted : (task : Task) (low high : ℕ) (tasks : List Task) → low < task.spec.pid → task.spec.pid < high →
    AllByRecursion (λ other. other.spec.pid ≢ task.spec.pid) tasks → Rises low high tasks → Rises low high (inserted task tasks)
rises-inserted task low high [] above below fresh rises = (above, below)
rises-inserted task low high (first ∷ rest) above below fresh rises =
    elim (cases_Bool (ltb task.spec.pid first.spec.pid)) [
      | inl is ↦
          let rises_too : Rises task.spec.pid high (first ∷ rest) = (ltb-true task.spec.pid first.spec.pid is, rises.1) in
          subst (Rises low high) (sym (inserted-first task (first ∷ rest) (above_low task.spec.pid high (first ∷ rest) rises_too))) (above, rises_too)
      | inr is ↦
          let past : first.spec.pid < task.spec.pid = let other = fresh.0 in grind (arith, nat_tests) in
          subst (Rises low high) (sym (inserted-past task first rest past)) (rises.0, rises-inserted task first.spec.pid high rest past below fresh.1 rises.1)
    ]

-- ---- the tasks above a pid

-- all of them, where the first is
all_above : (pid low high : ℕ) (tasks : List Task) → pid ≤ low → Rises low high tasks → filter (is_above pid) tasks ≡ tasks
all_above pid low high [] under rises = refl
all_above pid low high (task ∷ tasks) under rises =
    let first = rises.0 in
    cond-true (is_above pid task) (task ∷ filter (is_above pid) tasks) (filter (is_above pid) tasks) (lt-ltb pid task.spec.pid (omega arith))
    ∙ ap (λ (ts : List Task). task ∷ ts) (all_above pid task.spec.pid high tasks (omega arith) rises.1)

-- above 0 are all
pub above_zero : (high : ℕ) (tasks : List Task) → Rises 0 high tasks → filter (is_above 0) tasks ≡ tasks
above_zero high tasks rises = all_above 0 0 high tasks (omega arith) rises

-- where the first above a pid is found, it and those above its own are those above the pid
pub above_next : (pid low high : ℕ) (tasks : List Task) (task : Task) → Rises low high tasks → find (is_above pid) tasks ≡ Some task →
    filter (is_above pid) tasks ≡ task ∷ filter (is_above task.spec.pid) tasks
above_next pid low high [] task rises found = absurd cc
above_next pid low high (first ∷ rest) task rises found =
    by_test (is_above pid first) refl found (λ here. above_next pid first.spec.pid high rest task rises.1 here) where
      own : filter (is_above first.spec.pid) (first ∷ rest) ≡ rest
      own =
          cond-false (is_above first.spec.pid first) (first ∷ filter (is_above first.spec.pid) rest) (filter (is_above first.spec.pid) rest) (grind (arith, nat_tests))
          ∙ all_above first.spec.pid first.spec.pid high rest (omega arith) rises.1

      by_test : (test : Bool) → is_above pid first ≡ test → cond test (Some first) (find (is_above pid) rest) ≡ Some task →
          (find (is_above pid) rest ≡ Some task → filter (is_above pid) rest ≡ task ∷ filter (is_above task.spec.pid) rest) →
          cond test (first ∷ filter (is_above pid) rest) (filter (is_above pid) rest) ≡ task ∷ filter (is_above task.spec.pid) (first ∷ rest)
      by_test true is found later =
          let below : pid < first.spec.pid = ltb-true pid first.spec.pid is in
          let same : first ≡ task = cc in
          let tail : filter (is_above pid) rest ≡ filter (is_above first.spec.pid) (first ∷ rest) = all_above pid first.spec.pid high rest (omega arith) rises.1 ∙ sym own in
          subst (λ (t : Task). first ∷ filter (is_above pid) rest ≡ t ∷ filter (is_above t.spec.pid) (first ∷ rest)) same (ap (λ (ts : List Task). first ∷ ts) tail)
      by_test false is found later =
          let over : pid < task.spec.pid = ltb-true pid task.spec.pid (find_passes (is_above pid) rest task found) in
          later found
          ∙ ap (λ (ts : List Task). task ∷ ts)
          (sym (cond-false (is_above task.spec.pid first) (first ∷ filter (is_above task.spec.pid) rest) (filter (is_above task.spec.pid) rest) (grind (arith, nat_tests))))

-- where none is found, there is none
pub above_none : (pid : ℕ) (tasks : List Task) → find (is_above pid) tasks ≡ None → filter (is_above pid) tasks ≡ []
above_none pid [] found = refl
above_none pid (first ∷ rest) found =
    by_test (is_above pid first) found (λ here. above_none pid rest here) where
      by_test : (test : Bool) → cond test (Some first) (find (is_above pid) rest) ≡ None → (find (is_above pid) rest ≡ None → filter (is_above pid) rest ≡ []) →
          cond test (first ∷ filter (is_above pid) rest) (filter (is_above pid) rest) ≡ []
      by_test true found later = absurd cc
      by_test false found later = later found

-- ---- at the start

fresh_more : (first : TaskSpec) (tasks : List Task) (specs : List TaskSpec) → AllByRecursion (λ spec. first.pid ≢ spec.pid) specs →
    AllByRecursion (λ spec. AllByRecursion (λ other. other.spec.pid ≢ spec.pid) tasks) specs →
    AllByRecursion (λ spec. AllByRecursion (λ other. other.spec.pid ≢ spec.pid) (inserted (asleep first) tasks)) specs
fresh_more first tasks [] others fresh = tt
fresh_more first tasks (spec ∷ specs) others fresh =
    (each-inserted (λ other. other.spec.pid ≢ spec.pid) (asleep first) tasks others.0 fresh.0, fresh_more first tasks specs others.1 fresh.1)

rises-added : (high : ℕ) (tasks : List Task) (specs : List TaskSpec) → Rises 0 high tasks →
    AllByRecursion (λ spec. 0 < spec.pid) specs → AllByRecursion (λ spec. spec.pid < high) specs →
    AllByRecursion (λ spec. AllByRecursion (λ other. other.spec.pid ≢ spec.pid) tasks) specs → AreDistinct specs →
    Rises 0 high (fold (λ ts spec. inserted (asleep spec) ts) tasks specs)
rises-added high tasks [] rises above below fresh distinct = rises
rises-added high tasks (spec ∷ specs) rises above below fresh distinct =
    rises-added high (inserted (asleep spec) tasks) specs (rises-inserted (asleep spec) 0 high tasks above.0 below.0 fresh.0 rises) above.1 below.1
    (fresh_more spec tasks specs (recursion_from_All (λ other. spec.pid ≢ other.pid) specs (λ k d few. distinct 0 (suc k) d (omega arith) (omega arith))) fresh.1)
    (λ i j d before few. distinct (suc i) (suc j) d (omega arith) (omega arith))

no_others : (specs : List TaskSpec) → AllByRecursion (λ spec. AllByRecursion (λ (other : Task). other.spec.pid ≢ spec.pid) []) specs
no_others [] = tt
no_others (spec ∷ specs) = (tt, no_others specs)

-- ---- a room at a step

abbrev pub AreRising : RoomState → Type 0
AreRising room = Rises 0 room.next_pid room.tasks

-- a task takes the place of one with its pid
rising-with_task : (room : RoomState) (task : Task) → AreRising room → AreRising (with_task room task)
rising-with_task room task rises =
    rises-map (λ other. cond (has_pid task.spec.pid other) task other)
    (λ other. cond_both (has_pid task.spec.pid other) task other (λ (t : Task). t.spec.pid ≡ other.spec.pid) (λ is. sym (eqb-true other.spec.pid task.spec.pid is)) (λ _. refl))
    0 room.next_pid room.tasks rises

rising-pick_anew : (room : RoomState) (cpu : ℕ) → AreRising room → AreRising (pick_anew room cpu).room
unfolding select_for
rising-pick_anew room cpu rises =
    cond_both (is_plain room cpu) (pick_plain room cpu) (select room cpu) (λ made. AreRising made.room) (λ _. rises)
    (λ _. rises-map (task_after_selection room _) (λ task. refl) 0 room.next_pid room.tasks rises)

rising-adopt_or_pick_anew : (room : RoomState) (fresh : Bool) (cpu : ℕ) (waiting : Option (Option ℕ)) → AreRising room → AreRising (adopt_or_pick_anew room fresh cpu waiting).room
rising-adopt_or_pick_anew room fresh cpu None rises = rising-pick_anew (charge room) cpu rises
rising-adopt_or_pick_anew room true cpu (Some run) rises = rises
rising-adopt_or_pick_anew room false cpu (Some run) rises = rising-pick_anew (charge room) cpu rises

rising-schedule : (room : RoomState) (fresh : Bool) (cpu : ℕ) → AreRising room → AreRising (schedule room fresh cpu).room
rising-schedule room fresh cpu rises = rising-adopt_or_pick_anew room fresh cpu (sibling_of room cpu).waiting rises

rising-try_steal : (room : RoomState) (cpu : ℕ) (task : Option Task) → AreRising room → AreRising (try_steal room cpu task).room
rising-try_steal room cpu None rises = rises
rising-try_steal room cpu (Some task) rises =
    rising-with_task room (record (moved_to room cpu task) { queued = true; stamp = room.next_stamp }) rises

rising-turn : (room : RoomState) (fresh : Bool) (cpu : ℕ) → AreRising room → AreRising (turn room fresh cpu).room
rising-turn room fresh cpu rises =
    cond_both (sibling_of room cpu).pending _ _ (λ (made : Stepped). AreRising made.room) (λ _. rising-schedule room fresh cpu rises)
    (λ _. cond_both ((sibling_of room cpu).place == 0) _ _ (λ (made : Stepped). AreRising made.room) (λ _. rises)
    (λ _. rising-try_steal room cpu (stolen room cpu) rises))

pub rising-dequeue : (room : RoomState) (task : Task) → AreRising room → AreRising (dequeue room task)
rising-dequeue room task rises = rising-with_task room (record task { queued = false }) rises

pub rising-without : (room : RoomState) (task : Task) → AreRising room → AreRising (without room task)
rising-without room task rises = rises-filter (λ other. not (has_pid task.spec.pid other)) 0 room.next_pid room.tasks rises

rising-block : (room : RoomState) (cpu : ℕ) (task : Option Task) → AreRising room → AreRising (block room cpu task).room
rising-block room cpu None rises = rises
rising-block room cpu (Some task) rises =
    rising-schedule (run_idle (dequeue (charge room) task) cpu) false cpu (rising-dequeue room task rises)

rising-exit : (room : RoomState) (cpu : ℕ) (task : Option Task) → AreRising room → AreRising (exit room cpu task).room
rising-exit room cpu None rises = rises
rising-exit room cpu (Some task) rises =
    cond_both (has_threads room task) _ _ (λ (made : Stepped). AreRising made.room) (λ _. rises)
    (λ _. rising-schedule (run_idle (without (charge room) task) cpu) false cpu (rising-without room task rises))

rising-queue_at_home : (room : RoomState) (task : Task) → AreRising room → AreRising (queue_at_home room task)
rising-queue_at_home room task rises =
    rising-with_task room (record (refreshed room task) { queued = true; stamp = room.next_stamp }) rises

rising-wake : (room : RoomState) (task : Option Task) → AreRising room → AreRising (wake room task).room
rising-wake room None rises = rises
rising-wake room (Some task) rises =
    cond_both task.queued _ _ (λ (made : Stepped). AreRising made.room) (λ _. rises)
    (λ _. rising-queue_at_home room (rehomed room task) rises)

-- a child with the next pid is the last
rising-with_child : (room : RoomState) (caller : Task) (thread : Bool) → AreRising room → AreRising (with_child room (child_of caller thread room.next_pid))
rising-with_child room caller thread rises =
    let bound = below_high 0 room.next_pid room.tasks rises in
    rises-inserted (child_of caller thread room.next_pid) 0 (room.next_pid + 1) room.tasks bound.0 (omega arith) bound.1
    (rises_wider 0 0 room.next_pid (room.next_pid + 1) room.tasks (omega arith) (omega arith) rises)

rising-fork : (room : RoomState) (thread : Bool) (caller : Option Task) → AreRising room → AreRising (fork room thread caller).room
rising-fork room thread None rises = rises
rising-fork room thread (Some caller) rises =
    let born = with_child room (child_of caller thread room.next_pid) in
    cond_both (may_not_fork room.task_limit room.tasks caller) _ _ (λ (made : Stepped). AreRising made.room) (λ _. rises)
    (λ _. rising-queue_at_home born (child_at_home room (child_of caller thread room.next_pid)) (rising-with_child room caller thread rises))

rising-tick : (room : RoomState) (cpu : ℕ) (task : Option Task) → AreRising room → AreRising (tick room cpu task).room
rising-tick room cpu None rises = rises
rising-tick room cpu (Some task) rises = rising-with_task (charge room) (record task { used = _; stamp = _ }) rises

pub pid-grown_by : (delta : ℕ) (policy : Policy) (task : Task) → (grown_by delta policy task).spec.pid ≡ task.spec.pid
pid-grown_by delta Stop task = refl
pid-grown_by delta (Deadline relative) task = refl
pid-grown_by delta (Fifo priority) task = refl
pid-grown_by delta (Rr priority) task = refl
pid-grown_by delta (Fair nice) task = refl

rising-advanced : (room : RoomState) (delta : ℕ) → AreRising room → AreRising (advanced room delta)
unfolding advanced
rising-advanced room delta rises =
    rises-map (grown room delta)
    (λ task. cond_both (is_running room task) _ _ (λ (t : Task). t.spec.pid ≡ task.spec.pid) (λ _. pid-grown_by delta task.spec.policy task) (λ _. refl))
    0 room.next_pid room.tasks rises

rising-with_answer : (room : RoomState) (set : Setting) (answer : Reply) → AreRising room → AreRising (with_answer room set answer)
rising-with_answer room set Zero rises =
    rises-map (λ (task : Task). cond (is_set set task.spec.pid) (record task { cookie = set.cookie }) task)
    (λ task. cond_both (is_set set task.spec.pid) (record task { cookie = set.cookie }) task (λ (t : Task). t.spec.pid ≡ task.spec.pid) (λ _. refl) (λ _. refl))
    0 room.next_pid room.tasks rises
rising-with_answer room set answer rises = rises

rising-unless_offline : (room : RoomState) (cpu : ℕ) (stepped : Stepped) → AreRising room → AreRising stepped.room → AreRising (unless_offline room cpu stepped).room
rising-unless_offline room cpu stepped rises now =
    cond_both (is_online room cpu) _ _ (λ (made : Stepped). AreRising made.room) (λ _. now) (λ _. rises)

rising-set_policy : (room : RoomState) (policy : Policy) (task : Option Task) → AreRising room → AreRising (set_policy room policy task).room
rising-set_policy room policy None rises = rises
rising-set_policy room policy (Some task) rises =
    let changed = with_policy policy task in
    cond_both task.queued _ _ AreRising
    (λ _. rising-queue_at_home (dequeue room changed) changed (rising-with_task room (record changed { queued = false }) rises))
    (λ _. rising-with_task room changed rises)

rising-take_offline : (room : RoomState) (cpu : ℕ) → AreRising room → AreRising (take_offline room cpu).room
unfolding leave
rising-take_offline room cpu rises =
    cond_both (not (is_online room cpu)) _ _ (λ (made : Stepped). AreRising made.room) (λ _. rises)
    (λ _. cond_both (length (online room) == 1) _ _ (λ (made : Stepped). AreRising made.room) (λ _. rises)
    (λ _. rises-map (moved_off room cpu)
    (λ task. cond_both (task.queued && (task.home == cpu)) _ _ (λ (t : Task). t.spec.pid ≡ task.spec.pid) (λ _. refl) (λ _. refl))
    0 room.next_pid room.tasks rises))

rising-bring_online : (room : RoomState) (cpu : ℕ) → AreRising room → AreRising (bring_online room cpu).room
rising-bring_online room cpu rises =
    cond_both (is_online room cpu) _ _ (λ (made : Stepped). AreRising made.room) (λ _. rises) (λ _. rises)

pub rising-step : (room : RoomState) (fresh : Bool) (event : Event) → AreRising room → AreRising (step room fresh event).room
rising-step room fresh (Turn cpu) rises = rising-unless_offline room cpu _ rises (rising-turn room fresh cpu rises)
rising-step room fresh (Resched cpu) rises = rising-unless_offline room cpu _ rises (rising-schedule room fresh cpu rises)
rising-step room fresh (Block cpu) rises = rising-unless_offline room cpu _ rises (rising-block room cpu (running_on room cpu) rises)
rising-step room fresh (Exit cpu) rises = rising-unless_offline room cpu _ rises (rising-exit room cpu (running_on room cpu) rises)
rising-step room fresh (Tick cpu) rises = rising-unless_offline room cpu _ rises (rising-tick room cpu (running_on room cpu) rises)
rising-step room fresh (SetSched pid policy) rises = rising-set_policy room policy (task_of room pid) rises
rising-step room fresh (Offline cpu) rises = rising-take_offline room cpu rises
rising-step room fresh (Online cpu) rises = rising-bring_online room cpu rises
rising-step room fresh (Load index) rises = rises
rising-step room fresh (Unload index) rises = rises
rising-step room fresh (Wake pid) rises = rising-wake room (task_of room pid) rises
rising-step room fresh (Advance delta) rises = rising-advanced room delta rises
rising-step room fresh (Fork caller thread) rises = rising-fork room thread (task_of room caller) rises
rising-step room fresh (Prctl caller ask) rises =
    rising-with_answer (with_used room (makes_cookie room caller ask) (asked_by_call room caller ask)) (setting_of room caller ask) (prctl_answer room caller ask) rises

rising-after : (moment : Moment) (entries : List Entry) → AreRising moment.room → AreRising (after moment entries).room
rising-after moment [] rises = rises
rising-after moment (entry ∷ entries) rises =
    rising-after (next moment entry) entries (rising-step moment.room (is_fresh moment.ledger) entry.event rises)

-- So it is after every history, where the lines of the tasks have pids above 0 and no two the same.
pub rising-fold_of : (opening : Opening) (history : History) → All (λ spec. 0 < spec.pid) opening.scenario.tasks → AreDistinct opening.scenario.tasks →
    AreRising (fold_of opening history)
rising-fold_of opening history above distinct =
    rising-after (beginning opening) history
    (rises-added (first_pid opening.scenario.tasks) [] opening.scenario.tasks (omega arith) (recursion_from_All (λ spec. 0 < spec.pid) opening.scenario.tasks above)
    (below_first_pid opening.scenario.tasks) (no_others opening.scenario.tasks) distinct)
