-- Walked: how the times go on by the tasks that are left in a walk.
use Rattle.std.proofs.Common.{◌≡◌, ℕ, suc, ◌+◌, ◌*◌, ◌<◌, ◌≤◌, Bool, true, false, cond, List, [], ◌∷◌, length, get_or, set, refl, sym, ap, ◌∙◌, arith, Option, Some, None}
use Rattle.std.specs.Prelude.{find, filter, ◌==◌, ◌&&◌}
use Rattle.std.specs.Option.{option_map}
use Rattle.std.proofs.lemmas.Bool.{cond-true, cond-false, both_ways, and_from, eq-eqb, eqb-true, ne_eqb, ltb-true}
use Rattle.std.proofs.lemmas.Nat.{mul-le}
use Rattle.std.proofs.lemmas.List.{get_or-set_same, get_or-set_other}
use Rattle.std.proofs.lemmas.List.Sums.{length-filter, count_by-le-length}
use Rattle.cs_types.specs.declared.task.Task.{Task}
use Rattle.cs_types.specs.Room.{RoomState, has_pid}
use Rattle.cs_types.proofs.Inserted.{is_above}
use Rattle.task_times.specs.declared.doing.TaskDoing.{TaskDoing}
use Rattle.task_times.specs.declared.doing.TaskDoing.TheVariants.{Runs, Waits, Sleeps}
use Rattle.task_times.specs.declared.times.TaskTimes.{TaskTimes}
use Rattle.task_times.specs.declared.times.CookieTimes.{CookieTimes}
use Rattle.task_times.specs.Living.{doing_of, doing_at, runs, waits, sleeps, doers}
use Rattle.task_times.specs.DoingTimes.{part, with_each}
use Rattle.task_times.specs.TaskSums.{lived, had, with_span, with_one, with_doers}

-- what the one of these tasks does that has the pid
abbrev pub doing_in : RoomState → List Task → ℕ → Option TaskDoing
doing_in room left pid = option_map (doing_of room) (find (has_pid pid) left)

-- those of these tasks that have the cookie and do so
abbrev pub doers_in : RoomState → List Task → (TaskDoing → Bool) → ℕ → List Task
doers_in room left does cookie = filter (λ task. (task.cookie == cookie) && does (doing_of room task)) left

abbrev pub with_doers_in : RoomState → List Task → ℕ → ℕ → CookieTimes → CookieTimes
with_doers_in room left cookie time times = record times { by_doing = with_each (λ does. time * length (doers_in room left does cookie)) times.by_doing }

-- ---- the task that is next

-- no task above a pid has it
pub above_misses : (pid : ℕ) (tasks : List Task) → find (has_pid pid) (filter (is_above pid) tasks) ≡ None
above_misses pid [] = refl
above_misses pid (task ∷ tasks) = go (is_above pid task) refl (above_misses pid tasks) where
  go : (test : Bool) → is_above pid task ≡ test → find (has_pid pid) (filter (is_above pid) tasks) ≡ None → find (has_pid pid) (cond test (task ∷ filter (is_above pid) tasks) (filter (is_above pid) tasks)) ≡ None
  go true is rest =
      cond-false (has_pid pid task) (Some task) (find (has_pid pid) (filter (is_above pid) tasks)) (ne_eqb task.spec.pid pid (λ same. omega (arith, same, ltb-true pid task.spec.pid is)))
      ∙ rest
  go false is rest = rest

-- the times of its task go on by what it does, and no others
pub tasks_step : (room : RoomState) (task : Task) (left : List Task) (time : ℕ) (rows : List TaskTimes) (k : ℕ) (none : TaskTimes) →
    find (has_pid task.spec.pid) left ≡ None → task.spec.pid < length rows →
    with_span (doing_in room left k) time (get_or (set rows task.spec.pid (with_span (Some (doing_of room task)) time (get_or rows task.spec.pid none))) k none)
    ≡ with_span (doing_in room (task ∷ left) k) time (get_or rows k none)
tasks_step room task left time rows k none past few = go (has_pid k task) refl where
  own : TaskTimes
  own = with_span (Some (doing_of room task)) time (get_or rows task.spec.pid none)

  go : (test : Bool) → has_pid k task ≡ test →
      with_span (doing_in room left k) time (get_or (set rows task.spec.pid own) k none)
      ≡ with_span (option_map (doing_of room) (cond test (Some task) (find (has_pid k) left))) time (get_or rows k none)
  go true is =
      let e : task.spec.pid ≡ k = eqb-true task.spec.pid k is in
      let gone : find (has_pid k) left ≡ None = ap (λ (n : ℕ). find (has_pid n) left) (sym e) ∙ past in
      (λ i. with_span (option_map (doing_of room) (gone i)) time (get_or (set rows task.spec.pid own) (sym e i) none))
      ∙ get_or-set_same rows task.spec.pid own none few
      ∙ ap (λ (n : ℕ). with_span (Some (doing_of room task)) time (get_or rows n none)) e
  go false is =
      ap (with_span (doing_in room left k) time)
      (get_or-set_other rows task.spec.pid k own none (λ same. both_ways (has_pid k task) is (eq-eqb task.spec.pid k (sym same))))

-- one more of them takes its time more
one_more : (test : Bool) (own time : ℕ) (task : Task) (left : List Task) →
    cond test (own + time) own + time * length left ≡ own + time * length (cond test (task ∷ left) left)
one_more true own time task left = let more : time * suc (length left) ≡ time * length left + time = grind arith in omega (arith, more)
one_more false own time task left = refl

-- those of its cookie go on by what it does, and no others
pub cookies_step : (room : RoomState) (task : Task) (left : List Task) (time : ℕ) (rows : List CookieTimes) (k : ℕ) (none : CookieTimes) →
    task.cookie < length rows →
    with_doers_in room left k time (get_or (set rows task.cookie (with_one (doing_of room task) time (get_or rows task.cookie none))) k none)
    ≡ with_doers_in room (task ∷ left) k time (get_or rows k none)
cookies_step room task left time rows k none few = go (task.cookie == k) refl where
  own : CookieTimes
  own = with_one (doing_of room task) time (get_or rows task.cookie none)

  kept : (TaskDoing → Bool) → Bool → ℕ
  kept does test = length (cond (test && does (doing_of room task)) (task ∷ doers_in room left does k) (doers_in room left does k))

  go : (test : Bool) → (task.cookie == k) ≡ test →
      with_doers_in room left k time (get_or (set rows task.cookie own) k none)
      ≡ record (get_or rows k none) { by_doing = with_each (λ does. time * kept does test) (get_or rows k none).by_doing }
  go true is =
      let e : task.cookie ≡ k = eqb-true task.cookie k is in
      let row = get_or rows k none in
      let doing = doing_of room task in
      (λ i. with_doers_in room left k time (get_or (set rows task.cookie own) (sym e i) none))
      ∙ ap (with_doers_in room left k time) (get_or-set_same rows task.cookie own none few ∙ ap (λ (n : ℕ). with_one doing time (get_or rows n none)) e)
      ∙ (λ i. record row {
        by_doing = record {
          ran = one_more (runs doing) row.by_doing.ran time task (doers_in room left runs k) i;
          waited = one_more (waits doing) row.by_doing.waited time task (doers_in room left waits k) i;
          slept = one_more (sleeps doing) row.by_doing.slept time task (doers_in room left sleeps k) i;
        };
      })
  go false is =
      ap (with_doers_in room left k time)
      (get_or-set_other rows task.cookie k own none (λ same. both_ways (task.cookie == k) is (eq-eqb task.cookie k (sym same))))

-- ---- the sums fit

-- what was done of one kind is no more than all
pub part-le : (doing : TaskDoing) (times : TaskTimes) → part doing times.by_doing ≤ lived times
part-le Runs times = omega arith
part-le Waits times = omega arith
part-le Sleeps times = omega arith

lived-with_span : (doing : Option TaskDoing) (time : ℕ) (times : TaskTimes) → lived (with_span doing time times) ≤ lived times + time
lived-with_span None time times = omega arith
lived-with_span (Some Runs) time times = omega arith
lived-with_span (Some Waits) time times = omega arith
lived-with_span (Some Sleeps) time times = omega arith

lived-with_some : (doing : TaskDoing) (time : ℕ) (times : TaskTimes) → lived (with_span (Some doing) time times) ≡ lived times + time
lived-with_some Runs time times = omega arith
lived-with_some Waits time times = omega arith
lived-with_some Sleeps time times = omega arith

-- the time of the next task has room
pub room_for_task : (room : RoomState) (task : Task) (left : List Task) (time most : ℕ) (row old : TaskTimes) →
    with_span (doing_in room (task ∷ left) task.spec.pid) time row ≡ with_span (doing_at room task.spec.pid) time old →
    lived old + time ≤ most → lived row + time ≤ most
room_for_task room task left time most row old is fits =
    let here : doing_in room (task ∷ left) task.spec.pid ≡ Some (doing_of room task) =
    ap (option_map (doing_of room)) (cond-true (has_pid task.spec.pid task) (Some task) (find (has_pid task.spec.pid) left) (eq-eqb task.spec.pid task.spec.pid refl)) in
    let same : lived (with_span (Some (doing_of room task)) time row) ≡ lived (with_span (doing_at room task.spec.pid) time old) =
    ap (λ (d : Option TaskDoing). lived (with_span d time row)) (sym here) ∙ ap lived is in
    omega (arith, lived-with_some (doing_of room task) time row, same, lived-with_span (doing_at room task.spec.pid) time old, fits)

pub few_kept : (p : Task → Bool) (xs : List Task) → length (filter p xs) ≤ length xs
few_kept p xs = let same = length-filter p xs in let few = count_by-le-length p xs in omega (arith, same, few)

room_for_more : (room : RoomState) (task : Task) (left : List Task) (does : TaskDoing → Bool) (time own old most : ℕ) → does (doing_of room task) ≡ true →
    own + time * length (doers_in room (task ∷ left) does task.cookie) ≡ old + time * length (doers does task.cookie room) →
    old + time * length room.tasks ≤ most → own + time ≤ most
room_for_more room task left does time own old most passes is fits =
    let test : ((task.cookie == task.cookie) && does (doing_of room task)) ≡ true =
    and_from (task.cookie == task.cookie) (does (doing_of room task)) (eq-eqb task.cookie task.cookie refl) passes in
    let rest = doers_in room left does task.cookie in
    let some : length (doers_in room (task ∷ left) does task.cookie) ≡ suc (length rest) =
    ap length (cond-true ((task.cookie == task.cookie) && does (doing_of room task)) (task ∷ rest) rest test) in
    let more : time * length (doers_in room (task ∷ left) does task.cookie) ≡ time * length rest + time =
    ap (λ (n : ℕ). time * n) some ∙ grind arith in
    let few : time * length (doers does task.cookie room) ≤ time * length room.tasks =
    mul-le time (length (doers does task.cookie room)) time (length room.tasks) (omega arith) (few_kept (λ (t : Task). (t.cookie == task.cookie) && does (doing_of room t)) room.tasks) in
    omega (arith, more, is, few, fits)

-- and the one of its cookie
pub room_for_cookie : (room : RoomState) (task : Task) (left : List Task) (time most : ℕ) (row old : CookieTimes) →
    with_doers_in room (task ∷ left) task.cookie time row ≡ with_doers room task.cookie time old →
    had old + time * length room.tasks ≤ most → part (doing_of room task) row.by_doing + time ≤ most
room_for_cookie room task left time most row old is fits = go (doing_of room task) refl where
  go : (doing : TaskDoing) → doing_of room task ≡ doing → part doing row.by_doing + time ≤ most
  go Runs e = room_for_more room task left runs time row.by_doing.ran old.by_doing.ran most (ap runs e) (ap (λ (c : CookieTimes). c.by_doing.ran) is) (omega (arith, fits))
  go Waits e = room_for_more room task left waits time row.by_doing.waited old.by_doing.waited most (ap waits e) (ap (λ (c : CookieTimes). c.by_doing.waited) is) (omega (arith, fits))
  go Sleeps e = room_for_more room task left sleeps time row.by_doing.slept old.by_doing.slept most (ap sleeps e) (ap (λ (c : CookieTimes). c.by_doing.slept) is) (omega (arith, fits))
