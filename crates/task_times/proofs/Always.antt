-- Always: a task of the scenario that lives at the end of a history lives in all of it.
use Rattle.std.proofs.Common.{◌≡◌, ◌≢◌, ℕ, ◌+◌, ◌<◌, Bool, cond, true, false, List, [], ◌∷◌, ◌++◌, map, length, get_or, refl, sym, ap, ◌∙◌, arith, Option, Some, None}
use Rattle.std.specs.Prelude.{All, is_some, find, filter, not, ◌==◌, ◌&&◌}
use Rattle.std.specs.List.{AllByRecursion}
use Rattle.std.specs.Option.{option_map, option_to_list}
use Rattle.std.proofs.lemmas.Bool.{cond_both, cond-true, both_ways, eq-eqb, ne_eqb, eqb-true}
use Rattle.std.proofs.lemmas.List.Elements.{All-from_recursion, filter-append}
use Rattle.std.proofs.lemmas.List.FromFn.{length-map-range_with_len}
use Rattle.std.proofs.lemmas.List.Sums.{sum_by-append}
use Rattle.cs_types.specs.declared.task.Task.{Task}
use Rattle.cs_types.specs.declared.task.TaskSpec.{TaskSpec}
use Rattle.cs_types.specs.declared.task.Policy.{Policy}
use Rattle.cs_types.specs.declared.task.Policy.TheVariants.{Stop, Deadline, Fifo, Rr, Fair}
use Rattle.cs_types.specs.declared.event.Event.{Event}
use Rattle.cs_types.specs.declared.event.Event.TheVariants.{Turn, Resched, Block, Exit, Tick, Wake, Advance, Fork, Prctl, SetSched, Offline, Online, Load, Unload}
use Rattle.cs_types.specs.declared.reply.Reply.{Reply}
use Rattle.cs_types.specs.declared.reply.Reply.TheVariants.{Zero}
use Rattle.cs_types.specs.declared.reply.Entry.{Entry}
use Rattle.cs_types.specs.Scenario.{IsPlayable}
use Rattle.cs_types.specs.Room.{Opening, RoomState, has_pid, sibling_of, running_on, is_online, online, task_of, with_task, first_pid}
use Rattle.cs_types.specs.Selection.{task_after_selection, select_for, select, pick_plain, is_plain, pick_anew, adopt_or_pick_anew, schedule}
use Rattle.cs_types.specs.Prctl.{asked_by_call, Setting, setting_of, is_set, makes_cookie, with_used, with_answer, prctl_answer}
use Rattle.cs_types.specs.Step.{Stepped, step, wake, block, exit, fork, turn, without, has_threads, child_of, child_at_home, may_not_fork, with_child, tick, run_idle, try_steal, unless_offline, with_policy, set_policy, take_offline, bring_online}
use Rattle.cs_types.specs.Queueing.{refreshed, refreshed_by, dequeue, moved_to, rehomed, queue_at_home}
use Rattle.cs_types.specs.Steal.{stolen}
use Rattle.cs_types.specs.Hotplug.{moved_off, leave}
use Rattle.cs_types.specs.Accounting.{charge}
use Rattle.cs_types.specs.Time.{advanced, is_running, grown}
use Rattle.cs_types.specs.Touches.{is_fresh}
use Rattle.cs_types.specs.History.{History, Moment, beginning, next, after, fold_of}
use Rattle.cs_types.proofs.Filtered.{each-filter}
use Rattle.cs_types.proofs.Foremost.{each_weaker, find_none}
use Rattle.cs_types.proofs.Inserted.{each-inserted}
use Rattle.cs_laws.proofs.Rising.{pid-grown_by}
use Rattle.cs_laws.proofs.Tasks.{below_first_pid}
use Rattle.run_times.specs.Times.{Span, advance_of, span_of, spans_from, spans_of, total_time, time_in}
use Rattle.run_times.proofs.Clock.{total_time-clock}
use Rattle.task_times.specs.declared.times.TaskTimes.{TaskTimes}
use Rattle.task_times.specs.declared.times.CookieTimes.{CookieTimes}
use Rattle.task_times.specs.Living.{lives, holders, charged_in, cookie_at}
use Rattle.task_times.specs.TaskSums.{TaskSums, task_times, cookie_times, lived, had, time_by, pids_for, cookies_for, charged_to, sums_of}
use Rattle.task_times.proofs.Summed.{lived-task_times, had-cookie_times, row_at}

-- none of these tasks has the pid
abbrev pub AreOthers : ℕ → List Task → Type 0
AreOthers pid tasks = AllByRecursion (λ (task : Task). task.spec.pid ≢ pid) tasks

-- a pid that was given, and that no task has where the test says so
abbrev pub IsGone : Bool → ℕ → RoomState → Type 0
IsGone test pid room = (pid < room.next_pid) × (test ≡ true → AreOthers pid room.tasks)

-- ---- a room at a step

others-map : (pid : ℕ) (f : Task → Task) → ((task : Task) → (f task).spec.pid ≡ task.spec.pid) → (tasks : List Task) → AreOthers pid tasks → AreOthers pid (map f tasks)
others-map pid f same [] others = tt
others-map pid f same (task ∷ tasks) others = ((λ is. others.0 (sym (same task) ∙ is)), others-map pid f same tasks others.1)

gone-with_task : (test : Bool) (pid : ℕ) (room : RoomState) (task : Task) → IsGone test pid room → IsGone test pid (with_task room task)
gone-with_task test pid room task gone = (
  gone.0,
  λ on. others-map pid (λ other. cond (has_pid task.spec.pid other) task other)
      (λ other. cond_both (has_pid task.spec.pid other) task other (λ (t : Task). t.spec.pid ≡ other.spec.pid) (λ is. sym (eqb-true other.spec.pid task.spec.pid is)) (λ _. refl)) room.tasks (gone.1 on),
)

gone-pick_anew : (test : Bool) (pid : ℕ) (room : RoomState) (cpu : ℕ) → IsGone test pid room → IsGone test pid (pick_anew room cpu).room
unfolding select_for
gone-pick_anew test pid room cpu gone =
    cond_both (is_plain room cpu) (pick_plain room cpu) (select room cpu) (λ made. IsGone test pid made.room) (λ _. gone)
    (λ _. (gone.0, λ on. others-map pid (task_after_selection room _) (λ task. refl) room.tasks (gone.1 on)))

gone-adopt_or_pick_anew : (test : Bool) (pid : ℕ) (room : RoomState) (fresh : Bool) (cpu : ℕ) (waiting : Option (Option ℕ)) → IsGone test pid room → IsGone test pid (adopt_or_pick_anew room fresh cpu waiting).room
gone-adopt_or_pick_anew test pid room fresh cpu None gone = gone-pick_anew test pid (charge room) cpu gone
gone-adopt_or_pick_anew test pid room true cpu (Some run) gone = gone
gone-adopt_or_pick_anew test pid room false cpu (Some run) gone = gone-pick_anew test pid (charge room) cpu gone

pub gone-schedule : (test : Bool) (pid : ℕ) (room : RoomState) (fresh : Bool) (cpu : ℕ) → IsGone test pid room → IsGone test pid (schedule room fresh cpu).room
gone-schedule test pid room fresh cpu gone = gone-adopt_or_pick_anew test pid room fresh cpu (sibling_of room cpu).waiting gone

gone-try_steal : (test : Bool) (pid : ℕ) (room : RoomState) (cpu : ℕ) (task : Option Task) → IsGone test pid room → IsGone test pid (try_steal room cpu task).room
gone-try_steal test pid room cpu None gone = gone
gone-try_steal test pid room cpu (Some task) gone = gone-with_task test pid room (record (moved_to room cpu task) { queued = true; stamp = room.next_stamp }) gone

gone-turn : (test : Bool) (pid : ℕ) (room : RoomState) (fresh : Bool) (cpu : ℕ) → IsGone test pid room → IsGone test pid (turn room fresh cpu).room
gone-turn test pid room fresh cpu gone =
    cond_both (sibling_of room cpu).pending _ _ (λ (made : Stepped). IsGone test pid made.room) (λ _. gone-schedule test pid room fresh cpu gone)
    (λ _. cond_both ((sibling_of room cpu).place == 0) _ _ (λ (made : Stepped). IsGone test pid made.room) (λ _. gone)
    (λ _. gone-try_steal test pid room cpu (stolen room cpu) gone))

gone-block : (test : Bool) (pid : ℕ) (room : RoomState) (cpu : ℕ) (task : Option Task) → IsGone test pid room → IsGone test pid (block room cpu task).room
gone-block test pid room cpu None gone = gone
gone-block test pid room cpu (Some task) gone =
    gone-schedule test pid (run_idle (dequeue (charge room) task) cpu) false cpu (gone-with_task test pid room (record task { queued = false }) gone)

gone-exit : (test : Bool) (pid : ℕ) (room : RoomState) (cpu : ℕ) (task : Option Task) → IsGone test pid room → IsGone test pid (exit room cpu task).room
gone-exit test pid room cpu None gone = gone
gone-exit test pid room cpu (Some task) gone =
    cond_both (has_threads room task) _ _ (λ (made : Stepped). IsGone test pid made.room) (λ _. gone)
    (λ _. gone-schedule test pid (run_idle (without (charge room) task) cpu) false cpu
    (gone.0, λ on. each-filter (λ (t : Task). t.spec.pid ≢ pid) (λ other. not (has_pid task.spec.pid other)) room.tasks (gone.1 on)))

pid-refreshed_by : (room : RoomState) (policy : Policy) (task : Task) → (refreshed_by room policy task).spec.pid ≡ task.spec.pid
pid-refreshed_by room Stop task = refl
pid-refreshed_by room (Deadline relative) task = refl
pid-refreshed_by room (Fifo priority) task = refl
pid-refreshed_by room (Rr priority) task = refl
pid-refreshed_by room (Fair nice) task = refl

gone-queue_at_home : (test : Bool) (pid : ℕ) (room : RoomState) (task : Task) → IsGone test pid room → IsGone test pid (queue_at_home room task)
gone-queue_at_home test pid room task gone = gone-with_task test pid room (record (refreshed room task) { queued = true; stamp = room.next_stamp }) gone

gone-wake : (test : Bool) (pid : ℕ) (room : RoomState) (task : Option Task) → IsGone test pid room → IsGone test pid (wake room task).room
gone-wake test pid room None gone = gone
gone-wake test pid room (Some task) gone =
    cond_both task.queued _ _ (λ (made : Stepped). IsGone test pid made.room) (λ _. gone) (λ _. gone-queue_at_home test pid room (rehomed room task) gone)

gone-fork : (test : Bool) (pid : ℕ) (room : RoomState) (thread : Bool) (caller : Option Task) → IsGone test pid room → IsGone test pid (fork room thread caller).room
gone-fork test pid room thread None gone = gone
gone-fork test pid room thread (Some caller) gone =
    let child = child_of caller thread room.next_pid in
    cond_both (may_not_fork room.task_limit room.tasks caller) _ _ (λ (made : Stepped). IsGone test pid made.room) (λ _. gone)
    (λ _. gone-queue_at_home test pid (with_child room child) (child_at_home room child)
    (omega (arith, gone.0), λ on. each-inserted (λ (t : Task). t.spec.pid ≢ pid) child room.tasks (λ is. omega (arith, is, gone.0)) (gone.1 on)))

gone-tick : (test : Bool) (pid : ℕ) (room : RoomState) (cpu : ℕ) (task : Option Task) → IsGone test pid room → IsGone test pid (tick room cpu task).room
gone-tick test pid room cpu None gone = gone
gone-tick test pid room cpu (Some task) gone = gone-with_task test pid (charge room) (record task { used = _; stamp = _ }) gone

gone-advanced : (test : Bool) (pid : ℕ) (room : RoomState) (delta : ℕ) → IsGone test pid room → IsGone test pid (advanced room delta)
unfolding advanced
gone-advanced test pid room delta gone = (
  gone.0,
  λ on. others-map pid (grown room delta)
      (λ task. cond_both (is_running room task) _ _ (λ (t : Task). t.spec.pid ≡ task.spec.pid) (λ _. pid-grown_by delta task.spec.policy task) (λ _. refl)) room.tasks (gone.1 on),
)

gone-unless_offline : (test : Bool) (pid : ℕ) (room : RoomState) (cpu : ℕ) (stepped : Stepped) → IsGone test pid room → IsGone test pid stepped.room → IsGone test pid (unless_offline room cpu stepped).room
gone-unless_offline test pid room cpu stepped gone now =
    cond_both (is_online room cpu) _ _ (λ (made : Stepped). IsGone test pid made.room) (λ _. now) (λ _. gone)

gone-set_policy : (test : Bool) (pid : ℕ) (room : RoomState) (policy : Policy) (task : Option Task) → IsGone test pid room → IsGone test pid (set_policy room policy task).room
gone-set_policy test pid room policy None gone = gone
gone-set_policy test pid room policy (Some task) gone =
    let changed = with_policy policy task in
    cond_both task.queued _ _ (IsGone test pid)
    (λ _. gone-queue_at_home test pid (dequeue room changed) changed (gone-with_task test pid room (record changed { queued = false }) gone))
    (λ _. gone-with_task test pid room changed gone)

gone-take_offline : (test : Bool) (pid : ℕ) (room : RoomState) (cpu : ℕ) → IsGone test pid room → IsGone test pid (take_offline room cpu).room
unfolding leave
gone-take_offline test pid room cpu gone =
    cond_both (not (is_online room cpu)) _ _ (λ (made : Stepped). IsGone test pid made.room) (λ _. gone)
    (λ _. cond_both (length (online room) == 1) _ _ (λ (made : Stepped). IsGone test pid made.room) (λ _. gone)
    (λ _. (
      gone.0,
      λ on. others-map pid (moved_off room cpu)
          (λ task. cond_both (task.queued && (task.home == cpu)) _ _ (λ (t : Task). t.spec.pid ≡ task.spec.pid) (λ _. refl) (λ _. refl)) room.tasks (gone.1 on),
    )))

gone-bring_online : (test : Bool) (pid : ℕ) (room : RoomState) (cpu : ℕ) → IsGone test pid room → IsGone test pid (bring_online room cpu).room
gone-bring_online test pid room cpu gone =
    cond_both (is_online room cpu) _ _ (λ (made : Stepped). IsGone test pid made.room) (λ _. gone) (λ _. gone)

gone-with_answer : (test : Bool) (pid : ℕ) (room : RoomState) (set : Setting) (answer : Reply) → IsGone test pid room → IsGone test pid (with_answer room set answer)
gone-with_answer test pid room set Zero gone = (
  gone.0,
  λ on. others-map pid (λ (task : Task). cond (is_set set task.spec.pid) (record task { cookie = set.cookie }) task)
      (λ task. cond_both (is_set set task.spec.pid) (record task { cookie = set.cookie }) task (λ (t : Task). t.spec.pid ≡ task.spec.pid) (λ _. refl) (λ _. refl)) room.tasks (gone.1 on),
)
gone-with_answer test pid room set answer gone = gone

pub gone-step : (test : Bool) (pid : ℕ) (room : RoomState) (fresh : Bool) (event : Event) → IsGone test pid room → IsGone test pid (step room fresh event).room
gone-step test pid room fresh (Turn cpu) gone = gone-unless_offline test pid room cpu _ gone (gone-turn test pid room fresh cpu gone)
gone-step test pid room fresh (Resched cpu) gone = gone-unless_offline test pid room cpu _ gone (gone-schedule test pid room fresh cpu gone)
gone-step test pid room fresh (Block cpu) gone = gone-unless_offline test pid room cpu _ gone (gone-block test pid room cpu (running_on room cpu) gone)
gone-step test pid room fresh (Exit cpu) gone = gone-unless_offline test pid room cpu _ gone (gone-exit test pid room cpu (running_on room cpu) gone)
gone-step test pid room fresh (Tick cpu) gone = gone-unless_offline test pid room cpu _ gone (gone-tick test pid room cpu (running_on room cpu) gone)
gone-step test pid room fresh (SetSched other policy) gone = gone-set_policy test pid room policy (task_of room other) gone
gone-step test pid room fresh (Offline cpu) gone = gone-take_offline test pid room cpu gone
gone-step test pid room fresh (Online cpu) gone = gone-bring_online test pid room cpu gone
gone-step test pid room fresh (Load index) gone = gone
gone-step test pid room fresh (Unload index) gone = gone
gone-step test pid room fresh (Wake other) gone = gone-wake test pid room (task_of room other) gone
gone-step test pid room fresh (Advance delta) gone = gone-advanced test pid room delta gone
gone-step test pid room fresh (Fork caller thread) gone = gone-fork test pid room thread (task_of room caller) gone
gone-step test pid room fresh (Prctl caller ask) gone =
    gone-with_answer test pid (with_used room (makes_cookie room caller ask) (asked_by_call room caller ask)) (setting_of room caller ask) (prctl_answer room caller ask) gone

-- ---- in all of a history

pub gone_after : (test : Bool) (pid : ℕ) (moment : Moment) (entries : List Entry) → IsGone test pid moment.room → IsGone test pid (after moment entries).room
gone_after test pid moment [] gone = gone
gone_after test pid moment (entry ∷ entries) gone = gone_after test pid (next moment entry) entries (gone-step test pid moment.room (is_fresh moment.ledger) entry.event gone)

-- a task that a search does not find is none of these, and the other way
missed : (pid : ℕ) (tasks : List Task) → find (has_pid pid) tasks ≡ None → AreOthers pid tasks
missed pid [] none = tt
missed pid (task ∷ tasks) none = go (has_pid pid task) refl none (missed pid tasks) where
  go : (test : Bool) → has_pid pid task ≡ test → cond test (Some task) (find (has_pid pid) tasks) ≡ None → (find (has_pid pid) tasks ≡ None → AreOthers pid tasks) →
      (task.spec.pid ≢ pid) × AreOthers pid tasks
  go true is found rest = absurd cc
  go false is found rest = ((λ same. both_ways (has_pid pid task) is (eq-eqb task.spec.pid pid same)), rest found)

pub no_search : (pid : ℕ) (tasks : List Task) → AreOthers pid tasks → find (has_pid pid) tasks ≡ None
no_search pid tasks others =
    find_none (has_pid pid) tasks (each_weaker (λ (t : Task). t.spec.pid ≢ pid) (λ (t : Task). has_pid pid t ≡ false) tasks (λ t other. ne_eqb t.spec.pid pid other) others)

-- A pid that was given before and has a task after these entries has one before them.
lived_before : (pid : ℕ) (moment : Moment) (entries : List Entry) → pid < moment.room.next_pid → lives pid (after moment entries).room ≡ true → lives pid moment.room ≡ true
lived_before pid moment entries given after_them = go (task_of moment.room pid) refl where
  go : (found : Option Task) → task_of moment.room pid ≡ found → is_some found ≡ true
  go (Some task) e = refl
  go None e =
      let gone = gone_after true pid moment entries (given, λ on. missed pid moment.room.tasks e) in
      absurd (both_ways (lives pid (after moment entries).room) (ap is_some (no_search pid (after moment entries).room.tasks (gone.1 refl))) after_them)

-- ---- for how long it lived

time_in-append : (fact : RoomState → Bool) (xs ys : List Span) → time_in fact (xs ++ ys) ≡ time_in fact xs + time_in fact ys
time_in-append fact xs ys =
    ap total_time (filter-append (λ (span : Span). fact span.room) xs ys)
    ∙ sum_by-append (λ (span : Span). span.time) (filter (λ (span : Span). fact span.room) xs) (filter (λ (span : Span). fact span.room) ys)

one_lived : (pid : ℕ) (room : RoomState) (event : Event) → lives pid room ≡ true → time_in (lives pid) (span_of room event) ≡ total_time (span_of room event)
one_lived pid room event here = go (advance_of event) where
  go : (advance : Option ℕ) → time_in (lives pid) (option_to_list (option_map (λ n. record { room = room; time = n }) advance)) ≡ total_time (option_to_list (option_map (λ n. record { room = room; time = n }) advance))
  go None = refl
  go (Some time) = ap total_time (cond-true (lives pid room) (record { room = room; time = time } ∷ []) [] here)

all_lived : (pid : ℕ) (moment : Moment) (entries : List Entry) → pid < moment.room.next_pid → lives pid (after moment entries).room ≡ true →
    time_in (lives pid) (spans_from moment entries) ≡ total_time (spans_from moment entries)
all_lived pid moment [] given later = refl
all_lived pid moment (entry ∷ entries) given later =
    omega (
      arith,
      time_in-append (lives pid) (span_of moment.room entry.event) (spans_from (next moment entry) entries),
      one_lived pid moment.room entry.event (lived_before pid moment (entry ∷ entries) given later),
      all_lived pid (next moment entry) entries (gone-step false pid moment.room (is_fresh moment.ledger) entry.event (given, λ off. absurd cc)).0 later,
      sum_by-append (λ (span : Span). span.time) (span_of moment.room entry.event) (spans_from (next moment entry) entries),
    )

-- What each task of the scenario that lives at the end ran, waited and slept adds up to the clock.
pub lived-clock : (opening : Opening) (history : History) (charged cookie : ℕ) →
    All (λ (spec : TaskSpec). lives spec.pid (fold_of opening history) ≡ true →
    lived (task_times charged cookie (spans_of opening history) spec.pid) ≡ (fold_of opening history).clock) opening.scenario.tasks
lived-clock opening history charged cookie =
    let room = fold_of opening history in
    let specs = opening.scenario.tasks in
    let Holds : TaskSpec → Type 0 = λ spec. lives spec.pid room ≡ true → lived (task_times charged cookie (spans_of opening history) spec.pid) ≡ room.clock in
    All-from_recursion Holds specs
    (each_weaker (λ (spec : TaskSpec). spec.pid < first_pid specs) Holds specs
    (λ spec given later.
    lived-task_times charged cookie (spans_of opening history) spec.pid ∙ all_lived spec.pid (beginning opening) history given later ∙ total_time-clock opening history)
    (below_first_pid specs))

-- ---- of the sums at the end

-- the row of a task then
abbrev pub end_row : Opening → History → ℕ → TaskTimes
end_row opening history pid = task_times (charged_in (fold_of opening history) pid) (cookie_at opening history pid) (spans_of opening history) pid

pub lived_at : (entries : ℕ) (opening : Opening) (history : History) (sums : TaskSums) → sums ≡ sums_of entries opening history →
    (pid : ℕ) (none : TaskTimes) → pid < length sums.tasks → lived (get_or sums.tasks pid none) ≡ time_in (lives pid) (spans_of opening history)
lived_at entries opening history sums is pid none few =
    ap lived (row_at (end_row opening history) (pids_for entries) sums.tasks (ap (λ (s : TaskSums). s.tasks) is) pid none few)
    ∙ lived-task_times (charged_in (fold_of opening history) pid) (cookie_at opening history pid) (spans_of opening history) pid

pub had_at : (entries : ℕ) (opening : Opening) (history : History) (sums : TaskSums) → sums ≡ sums_of entries opening history →
    (cookie : ℕ) (none : CookieTimes) → cookie < length sums.cookies → had (get_or sums.cookies cookie none) ≡ time_by (λ room. length (holders cookie room)) (spans_of opening history)
had_at entries opening history sums is cookie none few =
    let spans = spans_of opening history in
    let charged = charged_to (sums_of entries opening history).tasks in
    ap had (row_at (λ k. cookie_times (charged k) spans k) (cookies_for entries) sums.cookies (ap (λ (s : TaskSums). s.cookies) is) cookie none few)
    ∙ had-cookie_times (charged cookie) spans cookie

pub clock_at : (entries : ℕ) (opening : Opening) (history : History) (sums : TaskSums) → IsPlayable opening.scenario → sums ≡ sums_of entries opening history →
    All (λ (spec : TaskSpec). lives spec.pid (fold_of opening history) ≡ true → (none : TaskTimes) →
    lived (get_or sums.tasks spec.pid none) ≡ (fold_of opening history).clock) opening.scenario.tasks
clock_at entries opening history sums playable is = λ k d under later none.
    let spans = spans_of opening history in
    let pid = (get_or opening.scenario.tasks k d).pid in
    let low = (playable.tasks k d under).pid.1 in
    let many = ap (λ (s : TaskSums). length s.tasks) is ∙ length-map-range_with_len (end_row opening history) 0 (pids_for entries) in
    lived_at entries opening history sums is pid none (omega (arith, many, low))
    ∙ sym (lived-task_times 0 0 spans pid)
    ∙ lived-clock opening history 0 0 k d under later
