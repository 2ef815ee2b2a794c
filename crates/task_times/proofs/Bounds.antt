-- Bounds: after every history each living task has a cookie below the next, and each that ended a pid below the next.
use Rattle.std.proofs.Common.{◌≡◌, ◌≢◌, ℕ, zero, suc, ◌+◌, ◌<◌, ◌≤◌, Bool, cond, true, false, List, [], ◌∷◌, ◌++◌, map, length, refl, sym, ap, subst, arith, Option, Some, None}
use Rattle.std.specs.Prelude.{ℤ, pos, negsuc, fold, not, ◌==◌, ◌&&◌, ◌||◌}
use Rattle.std.specs.List.{AllByRecursion, list_any}
use Rattle.std.specs.Option.{option_map_or, option_and_then}
use Rattle.std.proofs.lemmas.Bool.{cond_both, and_from}
use Rattle.cs_types.specs.declared.task.Task.{Task}
use Rattle.cs_types.specs.declared.task.TaskSpec.{TaskSpec}
use Rattle.cs_types.specs.declared.task.Policy.{Policy}
use Rattle.cs_types.specs.declared.task.Policy.TheVariants.{Stop, Deadline, Fifo, Rr, Fair}
use Rattle.cs_types.specs.declared.event.Ask.{Ask}
use Rattle.cs_types.specs.declared.event.Event.{Event}
use Rattle.cs_types.specs.declared.event.Event.TheVariants.{Turn, Resched, Block, Exit, Tick, Wake, Advance, Fork, Prctl, SetSched, Offline, Online, Load, Unload}
use Rattle.cs_types.specs.declared.reply.Reply.{Reply}
use Rattle.cs_types.specs.declared.reply.Reply.TheVariants.{Zero}
use Rattle.cs_types.specs.declared.reply.Entry.{Entry}
use Rattle.cs_types.specs.Scenario.{IsPlayable}
use Rattle.cs_types.specs.Room.{Opening, RoomState, has_pid, sibling_of, running_on, is_online, online, task_of, asleep, inserted, with_task}
use Rattle.cs_types.specs.Selection.{task_after_selection, select_for, select, pick_plain, is_plain, pick_anew, adopt_or_pick_anew, schedule}
use Rattle.cs_types.specs.Prctl.{Row, first_answer, rows_before_making, rows_after_making, asked_by_call, Setting, setting_by, setting_of, target_of, named_by, is_set, is_create, is_share_from, makes_cookie, with_used, with_answer, prctl_answer, prctl_room}
use Rattle.cs_types.specs.Step.{Stepped, step, wake, block, exit, fork, turn, without, has_threads, child_of, child_at_home, may_not_fork, with_child, tick, run_idle, try_steal, unless_offline, with_policy, set_policy, take_offline, bring_online}
use Rattle.cs_types.specs.Queueing.{refreshed, refreshed_by, dequeue, moved_to, rehomed, queue_at_home}
use Rattle.cs_types.specs.Steal.{stolen}
use Rattle.cs_types.specs.Hotplug.{moved_off, leave}
use Rattle.cs_types.specs.Accounting.{charge}
use Rattle.cs_types.specs.Time.{advanced, is_running, grown, grown_by}
use Rattle.cs_types.specs.Touches.{is_fresh}
use Rattle.cs_types.specs.History.{History, Moment, beginning, next, after, fold_of}
use Rattle.cs_types.proofs.Filtered.{each-filter, each_found}
use Rattle.cs_types.proofs.Foremost.{each_weaker}
use Rattle.cs_laws.proofs.Homes.{running_is_found, stolen_is}
use Rattle.cs_types.proofs.Inserted.{each-inserted}
use Rattle.cs_laws.proofs.Rising.{Rises, AreRising, rising-step}
use Rattle.run_times.proofs.Shown.{rises_of}

-- each of these tasks has a cookie below the number
abbrev AreBelow : ℕ → List Task → Type 0
AreBelow next tasks = AllByRecursion (λ (task : Task). task.cookie < next) tasks

-- each of these pids is below the number
abbrev ArePast : ℕ → List ℕ → Type 0
ArePast next pids = AllByRecursion (λ (pid : ℕ). pid < next) pids

-- The next cookie is no task's, and not 0. The next pid is none's that ended.
abbrev pub IsBound : RoomState → Type 0
IsBound room = (0 < room.next_cookie) × AreBelow room.next_cookie room.tasks × ArePast room.next_pid room.ended

-- ---- lists of tasks

-- a change that keeps each cookie, or sets one below
below-map : (f : Task → Task) (next : ℕ) → ((task : Task) → task.cookie < next → (f task).cookie < next) → (tasks : List Task) → AreBelow next tasks → AreBelow next (map f tasks)
below-map f next keeps [] below = tt
below-map f next keeps (task ∷ tasks) below = (keeps task below.0, below-map f next keeps tasks below.1)

past-push : (next : ℕ) (pids : List ℕ) (pid : ℕ) → ArePast next pids → pid < next → ArePast next (pids ++ pid ∷ [])
past-push next [] pid past low = (low, tt)
past-push next (other ∷ pids) pid past low = (past.0, past-push next pids pid past.1 low)

past_wider : (next more : ℕ) (pids : List ℕ) → next ≤ more → ArePast next pids → ArePast more pids
past_wider next more [] le past = tt
past_wider next more (pid ∷ pids) le past = (omega (arith, le, past.0), past_wider next more pids le past.1)

-- the pids of the living are below the next
below_end : (low high : ℕ) (tasks : List Task) → Rises low high tasks → (low < high) × AllByRecursion (λ (task : Task). task.spec.pid < high) tasks
below_end low high [] rises = (rises, tt)
below_end low high (task ∷ tasks) rises =
    let rest = below_end task.spec.pid high tasks rises.1 in
    (omega (arith, rises.0, rest.0), (rest.0, rest.1))

pub pids_below : (room : RoomState) → AreRising room → AllByRecursion (λ (task : Task). task.spec.pid < room.next_pid) room.tasks
pids_below room rises = (below_end 0 room.next_pid room.tasks rises).1

pub running_pid : (room : RoomState) (cpu : ℕ) → AreRising room → (task : Task) → running_on room cpu ≡ Some task → task.spec.pid < room.next_pid
running_pid room cpu rises task found =
    each_found (λ (t : Task). t.spec.pid < room.next_pid) (has_pid task.spec.pid) room.tasks task (running_is_found room cpu task found).1 (pids_below room rises)

-- the cookie of a found task
pub below_found : (room : RoomState) (pid : ℕ) → IsBound room → (task : Task) → task_of room pid ≡ Some task → task.cookie < room.next_cookie
below_found room pid bound task found = each_found (λ (t : Task). t.cookie < room.next_cookie) (has_pid pid) room.tasks task found bound.1

pub below_running : (room : RoomState) (cpu : ℕ) → IsBound room → (task : Task) → running_on room cpu ≡ Some task → task.cookie < room.next_cookie
below_running room cpu bound task found = below_found room task.spec.pid bound task ((running_is_found room cpu task found).1)

-- ---- a room at a step

bound-with_task : (room : RoomState) (task : Task) → task.cookie < room.next_cookie → IsBound room → IsBound (with_task room task)
bound-with_task room task low bound = (
  bound.0,
  below-map (λ other. cond (has_pid task.spec.pid other) task other) room.next_cookie
      (λ other below. cond_both (has_pid task.spec.pid other) task other (λ (t : Task). t.cookie < room.next_cookie) (λ _. low) (λ _. below)) room.tasks bound.1,
  bound.2,
)

bound-pick_anew : (room : RoomState) (cpu : ℕ) → IsBound room → IsBound (pick_anew room cpu).room
unfolding select_for
bound-pick_anew room cpu bound =
    cond_both (is_plain room cpu) (pick_plain room cpu) (select room cpu) (λ made. IsBound made.room) (λ _. bound)
    (λ _. (bound.0, below-map (task_after_selection room _) room.next_cookie (λ task below. below) room.tasks bound.1, bound.2))

bound-adopt_or_pick_anew : (room : RoomState) (fresh : Bool) (cpu : ℕ) (waiting : Option (Option ℕ)) → IsBound room → IsBound (adopt_or_pick_anew room fresh cpu waiting).room
bound-adopt_or_pick_anew room fresh cpu None bound = bound-pick_anew (charge room) cpu bound
bound-adopt_or_pick_anew room true cpu (Some run) bound = bound
bound-adopt_or_pick_anew room false cpu (Some run) bound = bound-pick_anew (charge room) cpu bound

bound-schedule : (room : RoomState) (fresh : Bool) (cpu : ℕ) → IsBound room → IsBound (schedule room fresh cpu).room
bound-schedule room fresh cpu bound = bound-adopt_or_pick_anew room fresh cpu (sibling_of room cpu).waiting bound

bound-try_steal : (room : RoomState) (cpu : ℕ) (task : Option Task) → ((t : Task) → task ≡ Some t → t.cookie < room.next_cookie) → IsBound room → IsBound (try_steal room cpu task).room
bound-try_steal room cpu None low bound = bound
bound-try_steal room cpu (Some task) low bound =
    bound-with_task room (record (moved_to room cpu task) { queued = true; stamp = room.next_stamp }) (low task refl) bound

bound-turn : (room : RoomState) (fresh : Bool) (cpu : ℕ) → AreRising room → IsBound room → IsBound (turn room fresh cpu).room
bound-turn room fresh cpu rises bound =
    cond_both (sibling_of room cpu).pending _ _ (λ (made : Stepped). IsBound made.room) (λ _. bound-schedule room fresh cpu bound)
    (λ _. cond_both ((sibling_of room cpu).place == 0) _ _ (λ (made : Stepped). IsBound made.room) (λ _. bound)
    (λ _. bound-try_steal room cpu (stolen room cpu) (λ task found. below_found room task.spec.pid bound task (stolen_is room cpu task rises found).0.found) bound))

bound-block : (room : RoomState) (cpu : ℕ) (task : Option Task) → ((t : Task) → task ≡ Some t → t.cookie < room.next_cookie) → IsBound room → IsBound (block room cpu task).room
bound-block room cpu None low bound = bound
bound-block room cpu (Some task) low bound =
    bound-schedule (run_idle (dequeue (charge room) task) cpu) false cpu (bound-with_task room (record task { queued = false }) (low task refl) bound)

bound-exit : (room : RoomState) (cpu : ℕ) (task : Option Task) → ((t : Task) → task ≡ Some t → t.spec.pid < room.next_pid) → IsBound room → IsBound (exit room cpu task).room
bound-exit room cpu None low bound = bound
bound-exit room cpu (Some task) low bound =
    cond_both (has_threads room task) _ _ (λ (made : Stepped). IsBound made.room) (λ _. bound)
    (λ _. bound-schedule (run_idle (without (charge room) task) cpu) false cpu (
      bound.0,
      each-filter (λ (t : Task). t.cookie < room.next_cookie) (λ other. not (has_pid task.spec.pid other)) room.tasks bound.1,
      past-push room.next_pid room.ended task.spec.pid bound.2 (low task refl),
    ))

cookie-refreshed_by : (room : RoomState) (policy : Policy) (task : Task) → (refreshed_by room policy task).cookie ≡ task.cookie
cookie-refreshed_by room Stop task = refl
cookie-refreshed_by room (Deadline relative) task = refl
cookie-refreshed_by room (Fifo priority) task = refl
cookie-refreshed_by room (Rr priority) task = refl
cookie-refreshed_by room (Fair nice) task = refl

bound-queue_at_home : (room : RoomState) (task : Task) → task.cookie < room.next_cookie → IsBound room → IsBound (queue_at_home room task)
bound-queue_at_home room task low bound =
    bound-with_task room (record (refreshed room task) { queued = true; stamp = room.next_stamp })
    (subst (λ (n : ℕ). n < room.next_cookie) (sym (cookie-refreshed_by room task.spec.policy task)) low) bound

bound-wake : (room : RoomState) (task : Option Task) → ((t : Task) → task ≡ Some t → t.cookie < room.next_cookie) → IsBound room → IsBound (wake room task).room
bound-wake room None low bound = bound
bound-wake room (Some task) low bound =
    cond_both task.queued _ _ (λ (made : Stepped). IsBound made.room) (λ _. bound)
    (λ _. bound-queue_at_home room (rehomed room task)
    (cond_both (is_online room task.home) _ _ (λ (t : Task). t.cookie < room.next_cookie) (λ _. low task refl) (λ _. low task refl)) bound)

bound-fork : (room : RoomState) (thread : Bool) (caller : Option Task) → ((t : Task) → caller ≡ Some t → t.cookie < room.next_cookie) → IsBound room → IsBound (fork room thread caller).room
bound-fork room thread None low bound = bound
bound-fork room thread (Some caller) low bound =
    let child = child_of caller thread room.next_pid in
    cond_both (may_not_fork room.task_limit room.tasks caller) _ _ (λ (made : Stepped). IsBound made.room) (λ _. bound)
    (λ _. bound-queue_at_home (with_child room child) (child_at_home room child) (low caller refl)
    (bound.0, each-inserted (λ (t : Task). t.cookie < room.next_cookie) child room.tasks (low caller refl) bound.1, past_wider room.next_pid (room.next_pid + 1) room.ended (omega arith) bound.2))

bound-tick : (room : RoomState) (cpu : ℕ) (task : Option Task) → ((t : Task) → task ≡ Some t → t.cookie < room.next_cookie) → IsBound room → IsBound (tick room cpu task).room
bound-tick room cpu None low bound = bound
bound-tick room cpu (Some task) low bound = bound-with_task (charge room) (record task { used = _; stamp = _ }) (low task refl) bound

cookie-grown_by : (delta : ℕ) (policy : Policy) (task : Task) → (grown_by delta policy task).cookie ≡ task.cookie
cookie-grown_by delta Stop task = refl
cookie-grown_by delta (Deadline relative) task = refl
cookie-grown_by delta (Fifo priority) task = refl
cookie-grown_by delta (Rr priority) task = refl
cookie-grown_by delta (Fair nice) task = refl

bound-advanced : (room : RoomState) (delta : ℕ) → IsBound room → IsBound (advanced room delta)
unfolding advanced
bound-advanced room delta bound = (
  bound.0,
  below-map (grown room delta) room.next_cookie
      (λ task below. cond_both (is_running room task) _ _ (λ (t : Task). t.cookie < room.next_cookie)
      (λ _. subst (λ (n : ℕ). n < room.next_cookie) (sym (cookie-grown_by delta task.spec.policy task)) below) (λ _. below)) room.tasks bound.1,
  bound.2,
)

bound-unless_offline : (room : RoomState) (cpu : ℕ) (stepped : Stepped) → IsBound room → IsBound stepped.room → IsBound (unless_offline room cpu stepped).room
bound-unless_offline room cpu stepped bound now =
    cond_both (is_online room cpu) _ _ (λ (made : Stepped). IsBound made.room) (λ _. now) (λ _. bound)

bound-set_policy : (room : RoomState) (policy : Policy) (task : Option Task) → ((t : Task) → task ≡ Some t → t.cookie < room.next_cookie) → IsBound room → IsBound (set_policy room policy task).room
bound-set_policy room policy None low bound = bound
bound-set_policy room policy (Some task) low bound =
    let changed = with_policy policy task in
    cond_both task.queued _ _ IsBound
    (λ _. bound-queue_at_home (dequeue room changed) changed (low task refl) (bound-with_task room (record changed { queued = false }) (low task refl) bound))
    (λ _. bound-with_task room changed (low task refl) bound)

bound-take_offline : (room : RoomState) (cpu : ℕ) → IsBound room → IsBound (take_offline room cpu).room
unfolding leave
bound-take_offline room cpu bound =
    cond_both (not (is_online room cpu)) _ _ (λ (made : Stepped). IsBound made.room) (λ _. bound)
    (λ _. cond_both (length (online room) == 1) _ _ (λ (made : Stepped). IsBound made.room) (λ _. bound)
    (λ _. (
      bound.0,
      below-map (moved_off room cpu) room.next_cookie
          (λ task below. cond_both (task.queued && (task.home == cpu)) _ _ (λ (t : Task). t.cookie < room.next_cookie) (λ _. below) (λ _. below)) room.tasks bound.1,
      bound.2,
    )))

bound-bring_online : (room : RoomState) (cpu : ℕ) → IsBound room → IsBound (bring_online room cpu).room
bound-bring_online room cpu bound =
    cond_both (is_online room cpu) _ _ (λ (made : Stepped). IsBound made.room) (λ _. bound) (λ _. bound)

-- ---- a call of prctl

abbrev AreRefused : List Row → Type 0
AreRefused rows = AllByRecursion (λ (row : Row). row.answer ≢ Zero) rows

-- where the answer is 0, no row before holds that has another
none_holds : (rows more : List Row) → AreRefused rows → first_answer (rows ++ more) ≡ Zero → list_any (λ (row : Row). row.holds) rows ≡ false
none_holds [] more refused is = refl
none_holds (row ∷ rows) more refused is = go row.holds refl is (none_holds rows more refused.1) where
  go : (test : Bool) → row.holds ≡ test → cond test row.answer (first_answer (rows ++ more)) ≡ Zero → (first_answer (rows ++ more) ≡ Zero → list_any (λ (r : Row). r.holds) rows ≡ false) →
      (test || list_any (λ (r : Row). r.holds) rows) ≡ false
  go true e told rest = absurd (refused.0 told)
  go false e told rest = rest told

before_refuses : (room : RoomState) (pid : ℕ) (ask : Ask) → AreRefused (rows_before_making room pid ask)
unfolding rows_before_making
before_refuses room pid ask = ((λ e. cc), ((λ e. cc), ((λ e. cc), ((λ e. cc), ((λ e. cc), ((λ e. cc), ((λ e. cc), ((λ e. cc), ((λ e. cc), tt)))))))))

-- a call that creates and answers 0 makes a cookie
creates_one : (room : RoomState) (pid : ℕ) (ask : Ask) → prctl_answer room pid ask ≡ Zero → is_create ask ≡ true → makes_cookie room pid ask ≡ true
creates_one room pid ask answered creates =
    and_from (is_create ask) (not (list_any (λ (row : Row). row.holds) (rows_before_making room pid ask))) creates
    (ap not (none_holds (rows_before_making room pid ask) (rows_after_making room pid ask) (before_refuses room pid ask) answered))

below_named : (room : RoomState) (pid : ℕ) (ask : Ask) → IsBound room → (caller : Task) → task_of room pid ≡ Some caller →
    (target : Task) → named_by room caller ask.pid ≡ Some target → target.cookie < room.next_cookie
below_named room pid ask bound caller here target found = go ask.pid found where
  go : (named : ℤ) → named_by room caller named ≡ Some target → target.cookie < room.next_cookie
  go (pos zero) is = let same : caller ≡ target = cc in subst (λ (t : Task). t.cookie < room.next_cookie) same (below_found room pid bound caller here)
  go (pos (suc n)) is = below_found room (suc n) bound target is
  go (negsuc n) is = absurd cc

below_target : (room : RoomState) (pid : ℕ) (ask : Ask) → IsBound room → (target : Task) → target_of room pid ask ≡ Some target → target.cookie < room.next_cookie
below_target room pid ask bound target found = go (task_of room pid) refl found where
  go : (caller : Option Task) → task_of room pid ≡ caller → option_and_then (λ (c : Task). named_by room c ask.pid) caller ≡ Some target → target.cookie < room.next_cookie
  go None e is = absurd cc
  go (Some caller) e is = below_named room pid ask bound caller e target is

-- what is set is below the next cookie after it
below_set : (room : RoomState) (pid : ℕ) (ask : Ask) → IsBound room → prctl_answer room pid ask ≡ Zero →
    (setting_of room pid ask).cookie < cond (makes_cookie room pid ask) (room.next_cookie + 1) room.next_cookie
below_set room pid ask bound answered = by_caller (task_of room pid) refl where
  now : ℕ
  now = cond (makes_cookie room pid ask) (room.next_cookie + 1) room.next_cookie

  up : (n : ℕ) → n < room.next_cookie → n < now
  up n below = cond_both (makes_cookie room pid ask) (room.next_cookie + 1) room.next_cookie (λ m. n < m) (λ _. omega (arith, below)) (λ _. below)

  by_target : (caller : Task) → task_of room pid ≡ Some caller → (target : Option Task) → ((t : Task) → target ≡ Some t → t.cookie < room.next_cookie) →
      (option_map_or (λ (t : Task). setting_by room caller t ask) target (record { tasks = []; cookie = 0 })).cookie < now
  by_target caller here None low = up 0 bound.0
  by_target caller here (Some target) low =
      cond_both (is_share_from ask) _ _ (λ (set : Setting). set.cookie < now) (λ _. up target.cookie (low target refl))
      (λ _. cond_both (is_create ask) room.next_cookie caller.cookie (λ n. n < now)
      (λ creates. subst (λ (made : Bool). room.next_cookie < cond made (room.next_cookie + 1) room.next_cookie) (sym (creates_one room pid ask answered creates)) (omega arith))
      (λ _. up caller.cookie (below_found room pid bound caller here)))

  by_caller : (caller : Option Task) → task_of room pid ≡ caller →
      (option_map_or (λ (c : Task). option_map_or (λ (t : Task). setting_by room c t ask) (target_of room pid ask) (record { tasks = []; cookie = 0 })) caller (record { tasks = []; cookie = 0 })).cookie < now
  by_caller None e = up 0 bound.0
  by_caller (Some caller) e = by_target caller e (target_of room pid ask) (λ target found. below_target room pid ask bound target found)

bound-prctl : (room : RoomState) (pid : ℕ) (ask : Ask) → IsBound room → IsBound (prctl_room room pid ask)
bound-prctl room pid ask bound = go (prctl_answer room pid ask) refl where
  made : RoomState
  made = with_used room (makes_cookie room pid ask) (asked_by_call room pid ask)

  more : room.next_cookie ≤ made.next_cookie
  more = cond_both (makes_cookie room pid ask) (room.next_cookie + 1) room.next_cookie (λ m. room.next_cookie ≤ m) (λ _. omega arith) (λ _. omega arith)

  kept : IsBound made
  kept = (omega (arith, bound.0, more), each_weaker (λ (t : Task). t.cookie < room.next_cookie) (λ (t : Task). t.cookie < made.next_cookie) room.tasks (λ t below. omega (arith, below, more)) bound.1, bound.2)

  go : (answer : Reply) → prctl_answer room pid ask ≡ answer → IsBound (with_answer made (setting_of room pid ask) answer)
  go Zero answered = (
    kept.0,
    below-map (λ (task : Task). cond (is_set (setting_of room pid ask) task.spec.pid) (record task { cookie = (setting_of room pid ask).cookie }) task) made.next_cookie
        (λ task below. cond_both (is_set (setting_of room pid ask) task.spec.pid) (record task { cookie = (setting_of room pid ask).cookie }) task (λ (t : Task). t.cookie < made.next_cookie)
        (λ _. below_set room pid ask bound answered) (λ _. below)) room.tasks kept.1,
    kept.2,
  )
  go answer other = kept

-- ---- every step

bound-step : (room : RoomState) (fresh : Bool) (event : Event) → AreRising room → IsBound room → IsBound (step room fresh event).room
bound-step room fresh (Turn cpu) rises bound = bound-unless_offline room cpu _ bound (bound-turn room fresh cpu rises bound)
bound-step room fresh (Resched cpu) rises bound = bound-unless_offline room cpu _ bound (bound-schedule room fresh cpu bound)
bound-step room fresh (Block cpu) rises bound = bound-unless_offline room cpu _ bound (bound-block room cpu (running_on room cpu) (below_running room cpu bound) bound)
bound-step room fresh (Exit cpu) rises bound = bound-unless_offline room cpu _ bound (bound-exit room cpu (running_on room cpu) (running_pid room cpu rises) bound)
bound-step room fresh (Tick cpu) rises bound = bound-unless_offline room cpu _ bound (bound-tick room cpu (running_on room cpu) (below_running room cpu bound) bound)
bound-step room fresh (SetSched pid policy) rises bound = bound-set_policy room policy (task_of room pid) (below_found room pid bound) bound
bound-step room fresh (Offline cpu) rises bound = bound-take_offline room cpu bound
bound-step room fresh (Online cpu) rises bound = bound-bring_online room cpu bound
bound-step room fresh (Load index) rises bound = bound
bound-step room fresh (Unload index) rises bound = bound
bound-step room fresh (Wake pid) rises bound = bound-wake room (task_of room pid) (below_found room pid bound) bound
bound-step room fresh (Advance delta) rises bound = bound-advanced room delta bound
bound-step room fresh (Fork caller thread) rises bound = bound-fork room thread (task_of room caller) (below_found room caller bound) bound
bound-step room fresh (Prctl caller ask) rises bound = bound-prctl room caller ask bound

bound-after : (moment : Moment) (entries : List Entry) → AreRising moment.room → IsBound moment.room → IsBound (after moment entries).room
bound-after moment [] rises bound = bound
bound-after moment (entry ∷ entries) rises bound =
    bound-after (next moment entry) entries (rising-step moment.room (is_fresh moment.ledger) entry.event rises)
    (bound-step moment.room (is_fresh moment.ledger) entry.event rises bound)

-- at the start no task has a cookie
none_yet : (tasks : List Task) (specs : List TaskSpec) → AreBelow 1 tasks → AreBelow 1 (fold (λ ts spec. inserted (asleep spec) ts) tasks specs)
none_yet tasks [] below = below
none_yet tasks (spec ∷ specs) below = none_yet (inserted (asleep spec) tasks) specs (each-inserted (λ (t : Task). t.cookie < 1) (asleep spec) tasks (omega arith) below)

-- After every history each living task has a cookie below the next.
pub bound-fold_of : (opening : Opening) (history : History) → IsPlayable opening.scenario → IsBound (fold_of opening history)
bound-fold_of opening history playable =
    bound-after (beginning opening) history (rises_of opening [] playable) (omega arith, none_yet [] opening.scenario.tasks tt, tt)
