-- Summed: the sums of a history, with one advance more.
use Rattle.std.proofs.Common.{◌≡◌, ℕ, ◌+◌, ◌*◌, ◌<◌, ◌≤◌, ◌^◌, ◌-◌, Bool, true, false, cond, List, [], ◌∷◌, ◌++◌, map, length, get_or, set, refl, sym, ap, ◌∙◌, subst, zero-add, arith, Option, Some, None}
use Rattle.std.specs.Option.{option_map, option_map_or, option_to_list}
use Rattle.std.specs.Prelude.{is_some, All, replicate, filter, fold, max, ◌==◌, ◌&&◌}
use Rattle.std.specs.List.{AllByRecursion, range_with_len}
use Rattle.std.proofs.lemmas.Bool.{both_ways, eq-eqb, eqb-true}
use Rattle.std.proofs.lemmas.Nat.{mul-le}
use Rattle.std.proofs.lemmas.List.{length-replicate, length-set, get_or-replicate, get_or-set_same, get_or-set_other}
use Rattle.std.proofs.lemmas.List.Elements.{recursion_from_All, All-from_recursion}
use Rattle.std.proofs.lemmas.List.FromFn.{fill_by_all, get_or-map-range_with_len, length-map-range_with_len}
use Rattle.std.proofs.lemmas.List.Sums.{sum_by-append, sum_by-cons, sum_by_push}
use Rattle.cs_types.specs.declared.task.Task.{Task}
use Rattle.cs_types.specs.declared.task.TaskSpec.{TaskSpec}
use Rattle.cs_types.specs.declared.event.Event.{Event}
use Rattle.cs_types.specs.declared.event.Event.TheVariants.{Advance, Exit}
use Rattle.cs_types.specs.declared.reply.Entry.{Entry}
use Rattle.cs_types.specs.Scenario.{IsEvent, IsPlayable}
use Rattle.cs_types.specs.Room.{Opening, RoomState, has_pid, task_of}
use Rattle.cs_types.specs.Touches.{is_fresh}
use Rattle.cs_types.specs.History.{History, Moment, beginning, next, fold_of, AreEvents}
use Rattle.cs_types.specs.Drain.{IsDrained}
use Rattle.cs_laws.proofs.Numbers.{next_pid-fold_of, next_cookie-fold_of}
use Rattle.cs_laws.proofs.Tasks.{few-step, few-fold_of, length-asleep_tasks}
use Rattle.run_times.specs.Times.{Span, advance_of, span_of, spans_from, spans_of, time_in}
use Rattle.run_times.proofs.Shown.{rises_of}
use Rattle.run_times.proofs.Laws.{spans_of-drained}
use Rattle.run_times.proofs.Spans.{one_span, spans_of-advance, spans_of-still, advance_of-le, total_time-le, time_in-push, time_in-cons, time_in-most}
use Rattle.task_times.specs.declared.doing.TaskDoing.{TaskDoing}
use Rattle.task_times.specs.declared.doing.TaskDoing.TheVariants.{Runs, Waits, Sleeps}
use Rattle.task_times.specs.declared.times.TaskTimes.{TaskTimes}
use Rattle.task_times.specs.declared.times.CookieTimes.{CookieTimes}
use Rattle.task_times.specs.Living.{lives, doing_of, doing_at, runs, waits, sleeps, holders, doers, leaver, leavers_of, left_with}
use Rattle.task_times.specs.DoingTimes.{doing_times}
use Rattle.task_times.specs.TaskSums.{does_so, task_times, lived, time_by, cookie_times, had, TaskSums, pids_for, cookies_for, rows_in, parts_in, sums_so_far, with_span, with_doers, counted_for}
use Rattle.task_times.proofs.Bounds.{bound-fold_of, pids_below, running_pid, below_running}
use Rattle.task_times.proofs.Leaving.{IsLeaving, leavers_of-push, leavers_of-still, leavers_of-drained, left_with-push}
use Rattle.task_times.proofs.Walked.{doers_in, few_kept}

-- ---- one span more

pub task_times-push : (spans : List Span) (room : RoomState) (time cookie pid : ℕ) →
    task_times 0 cookie (spans ++ one_span room time) pid ≡ with_span (doing_at room pid) time (task_times 0 cookie spans pid)
task_times-push spans room time cookie pid = λ i. record {
  by_doing = doing_times (λ does. time_in-push (does_so does pid) spans room time i);
  charged = 0;
  cookie = cookie;
}

time_by-push : (number : RoomState → ℕ) (spans : List Span) (room : RoomState) (time : ℕ) →
    time_by number (spans ++ one_span room time) ≡ time_by number spans + time * number room
time_by-push number spans room time = sum_by_push (λ (span : Span). span.time * number span.room) spans (record { room = room; time = time })

pub cookie_times-push : (spans : List Span) (room : RoomState) (time cookie : ℕ) →
    cookie_times 0 (spans ++ one_span room time) cookie ≡ with_doers room cookie time (cookie_times 0 spans cookie)
cookie_times-push spans room time cookie =
    λ i. record { by_doing = doing_times (λ does. time_by-push (λ r. length (doers does cookie r)) spans room time i); charged = 0 }

-- a list of rows goes on by what each row does
pub rows-push : {X : Type 0} (f g : ℕ → X) (more : ℕ → X → X) → ((k : ℕ) → g k ≡ more k (f k)) → (n : ℕ) (old new : List X) (none : X) → old ≡ map f (range_with_len 0 n) →
    length new ≡ length old → ((k : ℕ) (d : X) → k < length old → get_or new k d ≡ more k (get_or old k d)) → new ≡ map g (range_with_len 0 n)
rows-push {X = X} f g more step n old new none was long each =
    let many : length old ≡ n = ap length was ∙ length-map-range_with_len f 0 n in
    fill_by_all g new n none (long ∙ many)
    (λ k below.
    each k none (omega (arith, many, below))
    ∙ ap (more k) (ap (λ (xs : List X). get_or xs k none) was ∙ get_or-map-range_with_len f 0 n k k none below (zero-add k))
    ∙ sym (step k))

-- the row of one of them
pub row_at : {X : Type 0} (f : ℕ → X) (n : ℕ) (rows : List X) → rows ≡ map f (range_with_len 0 n) → (k : ℕ) (none : X) → k < length rows → get_or rows k none ≡ f k
row_at {X = X} f n rows was k none few =
    let many : length rows ≡ n = ap length was ∙ length-map-range_with_len f 0 n in
    ap (λ (xs : List X). get_or xs k none) was ∙ get_or-map-range_with_len f 0 n k k none (omega (arith, many, few)) (zero-add k)

-- the sums before the first entry
pub sums_so_far-none : (entries : ℕ) (opening : Opening) (task : TaskTimes) (cookie : CookieTimes) (tasks : List TaskTimes) (cookies : List CookieTimes) →
    ((pid : ℕ) → task ≡ task_times 0 0 [] pid) → ((k : ℕ) → cookie ≡ cookie_times 0 [] k) → tasks ≡ replicate (entries + 10000) task → cookies ≡ replicate (entries + 1) cookie →
    record { entries = length cookies - 1; tasks = tasks; cookies = cookies } ≡ sums_so_far entries opening []
sums_so_far-none entries opening task cookie tasks cookies t c are be =
    let n = entries + 10000 in
    let m = entries + 1 in
    let many : length cookies - 1 ≡ entries = (let long = ap length be ∙ length-replicate m cookie in omega (arith, long)) in
    let rows : tasks ≡ map (task_times 0 0 []) (range_with_len 0 n) =
    are ∙ fill_by_all (task_times 0 0 []) (replicate n task) n task (length-replicate n task) (λ k below. get_or-replicate n k task task below ∙ t k) in
    let parts : cookies ≡ map (cookie_times 0 []) (range_with_len 0 m) =
    be ∙ fill_by_all (cookie_times 0 []) (replicate m cookie) m cookie (length-replicate m cookie) (λ k below. get_or-replicate m k cookie cookie below ∙ c k) in
    λ i. record { entries = many i; tasks = rows i; cookies = parts i }

-- the sums by the times and by the tasks that were to end
abbrev pub sums_by : ℕ → List Span → List Task → TaskSums
sums_by entries spans leavers = record { entries = entries; tasks = rows_in entries (λ pid. 0) (left_with leavers) spans; cookies = parts_in entries (λ cookie. 0) spans }

-- an advance ends no task
none_leaves : (room : RoomState) (event : Event) (time : ℕ) → advance_of event ≡ Some time → leaver room event ≡ None
none_leaves room (Advance delta) time is = refl
none_leaves room event time is = absurd cc

-- the sums with an advance more
pub sums_so_far-advance : (entries : ℕ) (opening : Opening) (history : History) (time : ℕ) (old : TaskSums) (tasks : List TaskTimes) (cookies : List CookieTimes) (entry : Entry) →
    advance_of entry.event ≡ Some time →
    let room = fold_of opening history in
    old ≡ sums_so_far entries opening history → length tasks ≡ length old.tasks → length cookies ≡ length old.cookies →
    ((pid : ℕ) (none : TaskTimes) → pid < length old.tasks → get_or tasks pid none ≡ with_span (doing_at room pid) time (get_or old.tasks pid none)) →
    ((cookie : ℕ) (none : CookieTimes) → cookie < length old.cookies → get_or cookies cookie none ≡ with_doers room cookie time (get_or old.cookies cookie none)) →
    record { entries = length cookies - 1; tasks = tasks; cookies = cookies } ≡ sums_so_far entries opening (history ++ entry ∷ [])
sums_so_far-advance entries opening history time old tasks cookies entry is was long wide each all =
    let room = fold_of opening history in
    let spans = spans_of opening history in
    let leavers = leavers_of opening history in
    let their = ap (λ (s : TaskSums). s.tasks) was in
    let own = ap (λ (s : TaskSums). s.cookies) was in
    let rows = rows-push (λ pid. task_times 0 (left_with leavers pid) spans pid) (λ pid. task_times 0 (left_with leavers pid) (spans ++ one_span room time) pid)
    (λ pid. with_span (doing_at room pid) time) (λ pid. task_times-push spans room time (left_with leavers pid) pid) (pids_for entries)
    old.tasks tasks (task_times 0 0 [] 0) their long each in
    let parts = rows-push (cookie_times 0 spans) (cookie_times 0 (spans ++ one_span room time)) (λ cookie. with_doers room cookie time) (cookie_times-push spans room time) (cookies_for entries)
    old.cookies cookies (cookie_times 0 [] 0) own wide all in
    let many : length cookies - 1 ≡ entries = (let count = ap length parts ∙ length-map-range_with_len (cookie_times 0 (spans ++ one_span room time)) 0 (cookies_for entries) in omega (arith, count)) in
    (λ i. record { entries = many i; tasks = rows i; cookies = parts i })
    ∙ (λ i. sums_by entries (sym (spans_of-advance opening history entry time is) i) (sym (leavers_of-still opening history entry (none_leaves room entry.event time is)) i))

-- and with an entry more that is no advance and is to end no task
pub sums_so_far-still : (entries : ℕ) (opening : Opening) (history : History) (entry : Entry) → advance_of entry.event ≡ None → leaver (fold_of opening history) entry.event ≡ None →
    sums_so_far entries opening history ≡ sums_so_far entries opening (history ++ entry ∷ [])
sums_so_far-still entries opening history entry is stays =
    λ i. sums_by entries (sym (spans_of-still opening history entry is) i) (sym (leavers_of-still opening history entry stays) i)

-- the entries of the end change nothing
pub sums_so_far-drained : (entries : ℕ) (opening : Opening) (past now : History) → IsDrained opening past now → sums_so_far entries opening past ≡ sums_so_far entries opening now
sums_so_far-drained entries opening past now drained =
    λ i. sums_by entries (spans_of-drained opening past now drained i) (leavers_of-drained opening past now drained i)

-- the times of a task with one more that was to end
abbrev pub with_leaver : Task → ℕ → TaskTimes → TaskTimes
with_leaver task pid row = cond (has_pid pid task) (counted_for task.cookie row) row

task_times-leave : (leavers : List Task) (spans : List Span) (task : Task) (pid : ℕ) →
    task_times 0 (left_with (leavers ++ task ∷ []) pid) spans pid ≡ with_leaver task pid (task_times 0 (left_with leavers pid) spans pid)
task_times-leave leavers spans task pid = ap (λ (cookie : ℕ). task_times 0 cookie spans pid) (left_with-push leavers task pid) ∙ go (has_pid pid task) where
  go : (test : Bool) → task_times 0 (cond test task.cookie (left_with leavers pid)) spans pid
      ≡ cond test (counted_for task.cookie (task_times 0 (left_with leavers pid) spans pid)) (task_times 0 (left_with leavers pid) spans pid)
  go true = refl
  go false = refl

-- its row is changed, and no other
row_left : (rows : List TaskTimes) (task : Task) (k : ℕ) (none : TaskTimes) → task.spec.pid < length rows →
    get_or (set rows task.spec.pid (counted_for task.cookie (get_or rows task.spec.pid none))) k none ≡ with_leaver task k (get_or rows k none)
row_left rows task k none few = go (has_pid k task) refl where
  own : TaskTimes
  own = counted_for task.cookie (get_or rows task.spec.pid none)

  go : (test : Bool) → has_pid k task ≡ test → get_or (set rows task.spec.pid own) k none ≡ cond test (counted_for task.cookie (get_or rows k none)) (get_or rows k none)
  go true is =
      let e : task.spec.pid ≡ k = eqb-true task.spec.pid k is in
      (λ i. get_or (set rows task.spec.pid own) (sym e i) none)
      ∙ get_or-set_same rows task.spec.pid own none few
      ∙ ap (λ (n : ℕ). counted_for task.cookie (get_or rows n none)) e
  go false is = get_or-set_other rows task.spec.pid k own none (λ same. both_ways (has_pid k task) is (eq-eqb task.spec.pid k (sym same)))

-- the sums with an exit more
pub sums_so_far-leave : (entries : ℕ) (opening : Opening) (history : History) (cpu pid cookie : ℕ) (old : TaskSums) (tasks : List TaskTimes) (entry : Entry) →
    IsLeaving (fold_of opening history) cpu pid cookie → entry.event ≡ Exit cpu → old ≡ sums_so_far entries opening history → pid < length old.tasks →
    ((none : TaskTimes) → tasks ≡ set old.tasks pid (counted_for cookie (get_or old.tasks pid none))) →
    record old { tasks = tasks } ≡ sums_so_far entries opening (history ++ entry ∷ [])
sums_so_far-leave entries opening history cpu pid cookie old tasks entry leaving is was few set_to =
    let spans = spans_of opening history in
    let leavers = leavers_of opening history in
    let task = leaving.task in
    let none : TaskTimes = task_times 0 0 [] 0 in
    let low : task.spec.pid < length old.tasks = subst (λ (n : ℕ). n < length old.tasks) (sym leaving.own_pid) few in
    let now : (d : TaskTimes) → tasks ≡ set old.tasks task.spec.pid (counted_for task.cookie (get_or old.tasks task.spec.pid d)) =
    λ d. set_to d ∙ (λ i. set old.tasks (sym leaving.own_pid i) (counted_for (sym leaving.own_cookie i) (get_or old.tasks (sym leaving.own_pid i) d))) in
    let rows = rows-push (λ k. task_times 0 (left_with leavers k) spans k) (λ k. task_times 0 (left_with (leavers ++ task ∷ []) k) spans k)
    (with_leaver task) (task_times-leave leavers spans task) (pids_for entries) old.tasks tasks none (ap (λ (s : TaskSums). s.tasks) was)
    (ap length (now none) ∙ length-set old.tasks task.spec.pid (counted_for task.cookie (get_or old.tasks task.spec.pid none)))
    (λ k d below. ap (λ (xs : List TaskTimes). get_or xs k d) (now d) ∙ row_left old.tasks task k d low) in
    let still : advance_of entry.event ≡ None = ap advance_of is in
    (λ i. record (was i) { tasks = rows i })
    ∙ (λ i. sums_by entries (sym (spans_of-still opening history entry still) i)
    (sym (leavers_of-push opening history entry (Some task) (ap (leaver (fold_of opening history)) is ∙ leaving.leaves)) i))

-- and where it was to end no task
pub sums_so_far-stay : (entries : ℕ) (opening : Opening) (history : History) (cpu : ℕ) (entry : Entry) → leaver (fold_of opening history) (Exit cpu) ≡ None → entry.event ≡ Exit cpu →
    sums_so_far entries opening history ≡ sums_so_far entries opening (history ++ entry ∷ [])
sums_so_far-stay entries opening history cpu entry stays is =
    sums_so_far-still entries opening history entry (ap advance_of is) (ap (leaver (fold_of opening history)) is ∙ stays)

-- ---- there is a row for each

first_pid-le : (specs : List TaskSpec) (most from : ℕ) → from ≤ most → AllByRecursion (λ (spec : TaskSpec). spec.pid ≤ most) specs →
    fold (λ pid (spec : TaskSpec). max pid spec.pid) from specs ≤ most
first_pid-le [] most from low each = low
first_pid-le (spec ∷ specs) most from low each = first_pid-le specs most (max from spec.pid) (omega (arith, low, each.0)) each.1

pub both_below : (pids cookies next most : ℕ) (tasks : List Task) → next ≤ pids → most ≤ cookies → AllByRecursion (λ (task : Task). task.spec.pid < next) tasks →
    AllByRecursion (λ (task : Task). task.cookie < most) tasks → AllByRecursion (λ (task : Task). (task.spec.pid < pids) × (task.cookie < cookies)) tasks
both_below pids cookies next most [] a b p q = tt
both_below pids cookies next most (task ∷ tasks) a b p q = ((omega (arith, a, p.0), omega (arith, b, q.0)), both_below pids cookies next most tasks a b p.1 q.1)

pub next_pid-le : (entries : ℕ) (opening : Opening) (history : History) → IsPlayable opening.scenario → length history ≤ entries → (fold_of opening history).next_pid ≤ pids_for entries
next_pid-le entries opening history playable few =
    let low : opening.scenario.task_limit ≤ 256 = playable.task_limit.1 in
    let each : AllByRecursion (λ (spec : TaskSpec). spec.pid ≤ 9999) opening.scenario.tasks =
    recursion_from_All (λ (spec : TaskSpec). spec.pid ≤ 9999) opening.scenario.tasks (λ k d under. (playable.tasks k d under).pid.1) in
    let first = first_pid-le opening.scenario.tasks 9999 0 (omega arith) each in
    omega (arith, next_pid-fold_of opening history playable.few_tasks low, first, few)

pub rows_for : (entries : ℕ) (opening : Opening) (history : History) (tasks : List TaskTimes) (cookies : List CookieTimes) → IsPlayable opening.scenario → length history ≤ entries →
    tasks ≡ (sums_so_far entries opening history).tasks → cookies ≡ (sums_so_far entries opening history).cookies →
    All (λ (task : Task). (task.spec.pid < length tasks) × (task.cookie < length cookies)) (fold_of opening history).tasks
rows_for entries opening history tasks cookies playable few are be =
    let room = fold_of opening history in
    let spans = spans_of opening history in
    let leavers = leavers_of opening history in
    let long : length tasks ≡ entries + 10000 = ap length are ∙ length-map-range_with_len (λ pid. task_times 0 (left_with leavers pid) spans pid) 0 (pids_for entries) in
    let wide : length cookies ≡ entries + 1 = ap length be ∙ length-map-range_with_len (cookie_times 0 spans) 0 (cookies_for entries) in
    let low : opening.scenario.task_limit ≤ 256 = playable.task_limit.1 in
    let up = next_pid-le entries opening history playable few in
    let on = next_cookie-fold_of opening history playable.few_tasks low in
    All-from_recursion (λ (task : Task). (task.spec.pid < length tasks) × (task.cookie < length cookies)) room.tasks
    (both_below (length tasks) (length cookies) room.next_pid room.next_cookie room.tasks (omega (arith, long, up)) (omega (arith, wide, on, few))
    (pids_below room (rises_of opening history playable)) (bound-fold_of opening history playable).1)

-- the task that an exit is to end has one
pub leaver_row : (entries : ℕ) (opening : Opening) (history : History) (cpu pid cookie : ℕ) (tasks : List TaskTimes) → IsPlayable opening.scenario → length history ≤ entries →
    IsLeaving (fold_of opening history) cpu pid cookie → tasks ≡ (sums_so_far entries opening history).tasks → pid < length tasks
leaver_row entries opening history cpu pid cookie tasks playable few leaving are =
    let room = fold_of opening history in
    let spans = spans_of opening history in
    let leavers = leavers_of opening history in
    let long : length tasks ≡ entries + 10000 = ap length are ∙ length-map-range_with_len (λ k. task_times 0 (left_with leavers k) spans k) 0 (pids_for entries) in
    omega (
      arith,
      long,
      leaving.own_pid,
      next_pid-le entries opening history playable few,
      running_pid room cpu (rises_of opening history playable) leaving.task leaving.runs,
    )

-- and its cookie is no greater than the number of entries
pub leaver_cookie-le : (entries : ℕ) (opening : Opening) (history : History) (cpu pid cookie : ℕ) → IsPlayable opening.scenario → length history ≤ entries →
    IsLeaving (fold_of opening history) cpu pid cookie → cookie ≤ entries
leaver_cookie-le entries opening history cpu pid cookie playable few leaving =
    let low : opening.scenario.task_limit ≤ 256 = playable.task_limit.1 in
    omega (
      arith,
      few,
      leaving.own_cookie,
      next_cookie-fold_of opening history playable.few_tasks low,
      below_running (fold_of opening history) cpu (bound-fold_of opening history playable) leaving.task leaving.runs,
    )

-- ---- the sums fit

-- What a task ran, waited and slept adds up to the time in which it lived.
pub lived-task_times : (charged cookie : ℕ) (spans : List Span) (pid : ℕ) → lived (task_times charged cookie spans pid) ≡ time_in (lives pid) spans
lived-task_times charged cookie [] pid = refl
lived-task_times charged cookie (span ∷ spans) pid = go (task_of span.room pid) refl (lived-task_times charged cookie spans pid) where
  Known : List Span → Type 0
  Known ss = lived (task_times charged cookie ss pid) ≡ time_in (lives pid) ss

  by_doing : (task : Task) → task_of span.room pid ≡ Some task → (doing : TaskDoing) → doing_of span.room task ≡ doing → Known spans → Known (span ∷ spans)
  by_doing task e Runs does rest =
      let at : doing_at span.room pid ≡ Some Runs = ap (option_map (doing_of span.room)) e ∙ ap Some does in
      omega (
        arith,
        rest,
        time_in-cons (does_so runs pid) span spans true (ap (λ (d : Option TaskDoing). option_map_or runs d false) at),
        time_in-cons (does_so waits pid) span spans false (ap (λ (d : Option TaskDoing). option_map_or waits d false) at),
        time_in-cons (does_so sleeps pid) span spans false (ap (λ (d : Option TaskDoing). option_map_or sleeps d false) at),
        time_in-cons (lives pid) span spans true (ap is_some e),
      )
  by_doing task e Waits does rest =
      let at : doing_at span.room pid ≡ Some Waits = ap (option_map (doing_of span.room)) e ∙ ap Some does in
      omega (
        arith,
        rest,
        time_in-cons (does_so runs pid) span spans false (ap (λ (d : Option TaskDoing). option_map_or runs d false) at),
        time_in-cons (does_so waits pid) span spans true (ap (λ (d : Option TaskDoing). option_map_or waits d false) at),
        time_in-cons (does_so sleeps pid) span spans false (ap (λ (d : Option TaskDoing). option_map_or sleeps d false) at),
        time_in-cons (lives pid) span spans true (ap is_some e),
      )
  by_doing task e Sleeps does rest =
      let at : doing_at span.room pid ≡ Some Sleeps = ap (option_map (doing_of span.room)) e ∙ ap Some does in
      omega (
        arith,
        rest,
        time_in-cons (does_so runs pid) span spans false (ap (λ (d : Option TaskDoing). option_map_or runs d false) at),
        time_in-cons (does_so waits pid) span spans false (ap (λ (d : Option TaskDoing). option_map_or waits d false) at),
        time_in-cons (does_so sleeps pid) span spans true (ap (λ (d : Option TaskDoing). option_map_or sleeps d false) at),
        time_in-cons (lives pid) span spans true (ap is_some e),
      )

  go : (found : Option Task) → task_of span.room pid ≡ found → Known spans → Known (span ∷ spans)
  go None e rest =
      let at : doing_at span.room pid ≡ None = ap (option_map (doing_of span.room)) e in
      omega (
        arith,
        rest,
        time_in-cons (does_so runs pid) span spans false (ap (λ (d : Option TaskDoing). option_map_or runs d false) at),
        time_in-cons (does_so waits pid) span spans false (ap (λ (d : Option TaskDoing). option_map_or waits d false) at),
        time_in-cons (does_so sleeps pid) span spans false (ap (λ (d : Option TaskDoing). option_map_or sleeps d false) at),
        time_in-cons (lives pid) span spans false (ap is_some e),
      )
  go (Some task) e rest = by_doing task e (doing_of span.room task) refl rest

-- the time of an event, as often as there are tasks of some kind
one_time_by-le : (siblings : ℕ) (room : RoomState) (event : Event) (number : RoomState → ℕ) → IsEvent siblings event → number room ≤ 256 →
    time_by number (span_of room event) ≤ 256000000000
one_time_by-le siblings room event number limits few = go (advance_of event) refl where
  go : (advance : Option ℕ) → advance_of event ≡ advance → time_by number (option_to_list (option_map (λ n. record { room = room; time = n }) advance)) ≤ 256000000000
  go None is = omega arith
  go (Some time) is = omega (arith, mul-le time (number room) 1000000000 256 (advance_of-le siblings event time limits is) few)

time_by-le : (siblings : ℕ) (moment : Moment) (entries : List Entry) (number : RoomState → ℕ) → AllByRecursion (λ (entry : Entry). IsEvent siblings entry.event) entries →
    length moment.room.tasks ≤ moment.room.task_limit → moment.room.task_limit ≤ 256 → ((room : RoomState) → number room ≤ length room.tasks) →
    time_by number (spans_from moment entries) ≤ 256000000000 * length entries
time_by-le siblings moment [] number limits few low counts = omega arith
time_by-le siblings moment (entry ∷ entries) number limits few low counts =
    let made = few-step moment.room (is_fresh moment.ledger) entry.event in
    let rest = time_by-le siblings (next moment entry) entries number limits.1
    (subst (λ (n : ℕ). length (next moment entry).room.tasks ≤ n) (sym made.limit) (made.few few)) (omega (arith, low, made.limit)) counts in
    omega (
      arith,
      rest,
      one_time_by-le siblings moment.room entry.event number limits.0 (omega (arith, counts moment.room, few, low)),
      sum_by-append (λ (span : Span). span.time * number span.room) (span_of moment.room entry.event) (spans_from (next moment entry) entries),
    )

-- ---- the tasks of a cookie

-- each of these that has it does one of the three
by_doings : (room : RoomState) (cookie : ℕ) (tasks : List Task) →
    length (doers_in room tasks runs cookie) + length (doers_in room tasks waits cookie) + length (doers_in room tasks sleeps cookie) ≡ length (filter (λ task. task.cookie == cookie) tasks)
by_doings room cookie [] = refl
by_doings room cookie (task ∷ tasks) = go (task.cookie == cookie) (doing_of room task) (by_doings room cookie tasks) where
  count : (TaskDoing → Bool) → Bool → TaskDoing → ℕ
  count does test doing = length (cond (test && does doing) (task ∷ doers_in room tasks does cookie) (doers_in room tasks does cookie))

  rest : List Task
  rest = filter (λ task. task.cookie == cookie) tasks

  go : (test : Bool) (doing : TaskDoing) →
      length (doers_in room tasks runs cookie) + length (doers_in room tasks waits cookie) + length (doers_in room tasks sleeps cookie) ≡ length rest →
      count runs test doing + count waits test doing + count sleeps test doing ≡ length (cond test (task ∷ rest) rest)
  go true Runs so_far = omega (arith, so_far)
  go true Waits so_far = omega (arith, so_far)
  go true Sleeps so_far = omega (arith, so_far)
  go false doing so_far = so_far

times_three : (time a b c d : ℕ) → a + b + c ≡ d → time * a + time * b + time * c ≡ time * d
times_three time a b c d is = (let all : time * a + time * b + time * c ≡ time * (a + b + c) = grind arith in all) ∙ ap (λ n. time * n) is

-- What the tasks of a cookie ran, waited and slept adds up to the time of each of them while it had it.
pub had-cookie_times : (charged : ℕ) (spans : List Span) (cookie : ℕ) → had (cookie_times charged spans cookie) ≡ time_by (λ room. length (holders cookie room)) spans
had-cookie_times charged [] cookie = refl
had-cookie_times charged (span ∷ spans) cookie =
    omega (
      arith,
      had-cookie_times charged spans cookie,
      times_three span.time (length (doers runs cookie span.room)) (length (doers waits cookie span.room)) (length (doers sleeps cookie span.room)) (length (holders cookie span.room))
          (by_doings span.room cookie span.room.tasks),
      sum_by-cons (λ (s : Span). s.time * length (doers runs cookie s.room)) span spans,
      sum_by-cons (λ (s : Span). s.time * length (doers waits cookie s.room)) span spans,
      sum_by-cons (λ (s : Span). s.time * length (doers sleeps cookie s.room)) span spans,
      sum_by-cons (λ (s : Span). s.time * length (holders cookie s.room)) span spans,
    )

-- It is no more than that of all tasks.
had-le : (opening : Opening) (history : History) (cookie : ℕ) → IsPlayable opening.scenario → AreEvents opening history →
    had (cookie_times 0 (spans_of opening history) cookie) ≤ 256000000000 * length history
had-le opening history cookie playable events =
    subst (λ (n : ℕ). n ≤ 256000000000 * length history) (sym (had-cookie_times 0 (spans_of opening history) cookie))
    (time_by-le opening.scenario.siblings (beginning opening) history (λ room. length (holders cookie room))
    (recursion_from_All (λ (entry : Entry). IsEvent opening.scenario.siblings entry.event) history events)
    (omega (arith, playable.few_tasks, length-asleep_tasks opening.scenario.tasks)) playable.task_limit.1
    (λ room. few_kept (λ (task : Task). task.cookie == cookie) room.tasks))

pub room_for_lived : (entries : ℕ) (opening : Opening) (history : History) (tasks : List TaskTimes) (time most : ℕ) → AreEvents opening history → length history < 2 ^ 26 → time ≤ 1000000000 →
    tasks ≡ (sums_so_far entries opening history).tasks → 1000000000 * 2 ^ 26 ≤ most → All (λ (times : TaskTimes). lived times + time ≤ most) tasks
room_for_lived entries opening history tasks time most events few short are fits = λ k none under.
    let spans = spans_of opening history in
    let cookie = left_with (leavers_of opening history) in
    let same : lived (get_or tasks k none) ≡ lived (task_times 0 (cookie k) spans k) = ap lived (row_at (λ pid. task_times 0 (cookie pid) spans pid) (pids_for entries) tasks are k none under) in
    omega (
      arith,
      same,
      lived-task_times 0 (cookie k) spans k,
      time_in-most (lives k) spans,
      total_time-le opening.scenario.siblings (beginning opening) history
          (recursion_from_All (λ (entry : Entry). IsEvent opening.scenario.siblings entry.event) history events),
      few,
      short,
      fits,
    )

pub room_for_had : (entries : ℕ) (opening : Opening) (history : History) (cookies : List CookieTimes) (time most : ℕ) → IsPlayable opening.scenario → AreEvents opening history →
    length history < 2 ^ 26 → time ≤ 1000000000 →
    cookies ≡ (sums_so_far entries opening history).cookies → 256000000000 * 2 ^ 26 ≤ most →
    All (λ (times : CookieTimes). had times + time * length (fold_of opening history).tasks ≤ most) cookies
room_for_had entries opening history cookies time most playable events few short are fits = λ k none under.
    let spans = spans_of opening history in
    let same : had (get_or cookies k none) ≡ had (cookie_times 0 spans k) = ap had (row_at (cookie_times 0 spans) (cookies_for entries) cookies are k none under) in
    omega (
      arith,
      same,
      had-le opening history k playable events,
      mul-le time (length (fold_of opening history).tasks) 1000000000 256 short (omega (arith, few-fold_of opening history playable.few_tasks, playable.task_limit.1)),
      few,
      fits,
    )
