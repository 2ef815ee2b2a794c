-- Walk: the walk over the tasks that a machine shows, by what is left of it.
use Rattle.std.proofs.Common.{◌≡◌, ℕ, ◌+◌, ◌*◌, ◌<◌, ◌≤◌, List, [], ◌∷◌, length, get_or, set, refl, sym, ap, ◌∙◌, subst, arith, Option, Some, None}
use Rattle.std.specs.Prelude.{All, filter}
use Rattle.std.specs.Option.{option_map}
use Rattle.std.proofs.lemmas.List.Elements.{recursion_from_All}
use Rattle.cs_types.specs.declared.task.Task.{Task}
use Rattle.cs_types.specs.declared.view.TaskView.{TaskView}
use Rattle.cs_types.specs.Room.{RoomState, task_of}
use Rattle.cs_types.specs.View.{task_view, task_after}
use Rattle.cs_types.proofs.Filtered.{each_found}
use Rattle.cs_types.proofs.Inserted.{is_above}
use Rattle.cs_laws.proofs.Rising.{AreRising, above_zero, above_next, above_none}
use Rattle.cs_laws.proofs.Spots.{each_is_found}
use Rattle.run_times.proofs.Shown.{shown_at}
use Rattle.task_times.specs.declared.doing.TaskDoing.{TaskDoing}
use Rattle.task_times.specs.declared.times.TaskTimes.{TaskTimes}
use Rattle.task_times.specs.declared.times.CookieTimes.{CookieTimes}
use Rattle.task_times.specs.Living.{doing_of, doing_at}
use Rattle.task_times.specs.DoingTimes.{part}
use Rattle.task_times.specs.TaskSums.{lived, had, with_span, with_one, with_doers}
use Rattle.task_times.proofs.Walked.{doing_in, with_doers_in, above_misses, tasks_step, cookies_step, part-le, room_for_task, room_for_cookie}

-- the tasks above a pid
abbrev pub above : RoomState → ℕ → List Task
above room pid = filter (is_above pid) room.tasks

-- what is shown of the next task above a pid
abbrev pub next_view : RoomState → ℕ → Option TaskView
next_view room pid = option_map (task_view room) (task_after room pid)

-- the task that is next, by what is shown of it
pub record IsNext (room : RoomState) (pid : ℕ) (view : TaskView) : Type 0 where
  pub task : Task
  pub shown : view ≡ task_view room task
  pub lives : task_of room task.spec.pid ≡ Some task
  pub first : above room pid ≡ task ∷ above room task.spec.pid

pub next_of : (room : RoomState) (pid : ℕ) (view : TaskView) → AreRising room → Some view ≡ next_view room pid → IsNext room pid view
next_of room pid view rises shown = go (task_after room pid) refl shown where
  go : (found : Option Task) → task_after room pid ≡ found → Some view ≡ option_map (task_view room) found → IsNext room pid view
  go None e is = absurd cc
  go (Some task) e is =
      record {
        task = task;
        shown = cc;
        lives = each_found (λ (t : Task). task_of room t.spec.pid ≡ Some t) (is_above pid) room.tasks task e (each_is_found 0 room.next_pid room.tasks rises);
        first = above_next pid 0 room.next_pid room.tasks task rises e;
      }

-- it lives
pub next_shown : (room : RoomState) (pid : ℕ) (view : TaskView) → AreRising room → Some view ≡ next_view room pid → Some view ≡ shown_at room view.pid
next_shown room pid view rises shown =
    let next = next_of room pid view rises shown in
    ap Some next.shown ∙ sym (ap (option_map (task_view room)) (ap (λ (v : TaskView). task_of room v.pid) next.shown ∙ next.lives))

-- it and its cookie have a row
pub next_row : (room : RoomState) (pids cookies pid : ℕ) (view : TaskView) → All (λ (task : Task). (task.spec.pid < pids) × (task.cookie < cookies)) room.tasks →
    Some view ≡ next_view room pid → (view.pid < pids) × (view.cookie < cookies)
next_row room pids cookies pid view rows shown = go (task_after room pid) refl shown where
  go : (found : Option Task) → task_after room pid ≡ found → Some view ≡ option_map (task_view room) found → (view.pid < pids) × (view.cookie < cookies)
  go None e is = absurd cc
  go (Some task) e is =
      let its : view ≡ task_view room task = cc in
      subst (λ (v : TaskView). (v.pid < pids) × (v.cookie < cookies)) (sym its)
      (each_found (λ (t : Task). (t.spec.pid < pids) × (t.cookie < cookies)) (is_above pid) room.tasks task e (recursion_from_All (λ (t : Task). (t.spec.pid < pids) × (t.cookie < cookies)) room.tasks rows))

does_it : (room : RoomState) (pid : ℕ) (view : TaskView) (doing : TaskDoing) → (next : IsNext room pid view) → Some doing ≡ doing_at room view.pid → doing ≡ doing_of room next.task
does_it room pid view doing next is =
    let same : Some doing ≡ Some (doing_of room next.task) =
    is ∙ ap (option_map (doing_of room)) (ap (λ (v : TaskView). task_of room v.pid) next.shown ∙ next.lives) in
    cc

-- ---- the times fit

pub next_has_room : (room : RoomState) (pid : ℕ) (view : TaskView) → AreRising room → Some view ≡ next_view room pid → (time most : ℕ) (row old : TaskTimes) →
    with_span (doing_in room (above room pid) view.pid) time row ≡ with_span (doing_at room view.pid) time old →
    lived old + time ≤ most → (doing : TaskDoing) → part doing row.by_doing + time ≤ most
next_has_room room pid view rises shown time most row old is fits doing =
    let next = next_of room pid view rises shown in
    let own : view.pid ≡ next.task.spec.pid = ap (λ (v : TaskView). v.pid) next.shown in
    let all = room_for_task room next.task (above room next.task.spec.pid) time most row old
    ((λ i. with_span (doing_in room (sym next.first i) (sym own i)) time row) ∙ is ∙ (λ i. with_span (doing_at room (own i)) time old)) fits in
    omega (arith, part-le doing row, all)

pub next_part_fits : (room : RoomState) (pid : ℕ) (view : TaskView) (doing : TaskDoing) → AreRising room → Some view ≡ next_view room pid → Some doing ≡ doing_at room view.pid →
    (time most : ℕ) (row old : CookieTimes) →
    with_doers_in room (above room pid) view.cookie time row ≡ with_doers room view.cookie time old →
    had old + time * length room.tasks ≤ most → part doing row.by_doing + time ≤ most
next_part_fits room pid view doing rises shown does time most row old is fits =
    let next = next_of room pid view rises shown in
    let own : view.cookie ≡ next.task.cookie = ap (λ (v : TaskView). v.cookie) next.shown in
    subst (λ (d : TaskDoing). part d row.by_doing + time ≤ most) (sym (does_it room pid view doing next does))
    (room_for_cookie room next.task (above room next.task.spec.pid) time most row old
    ((λ i. with_doers_in room (sym next.first i) (sym own i) time row) ∙ is ∙ (λ i. with_doers room (own i) time old)) fits)

-- ---- a step of the walk

-- at the start all are left
pub rows_start : (room : RoomState) (time k : ℕ) (row : TaskTimes) → AreRising room →
    with_span (doing_in room (above room 0) k) time row ≡ with_span (doing_at room k) time row
rows_start room time k row rises = ap (λ (tasks : List Task). with_span (doing_in room tasks k) time row) (above_zero room.next_pid room.tasks rises)

pub parts_start : (room : RoomState) (time k : ℕ) (row : CookieTimes) → AreRising room →
    with_doers_in room (above room 0) k time row ≡ with_doers room k time row
parts_start room time k row rises = ap (λ (tasks : List Task). with_doers_in room tasks k time row) (above_zero room.next_pid room.tasks rises)

-- the next task is counted
pub rows_step : (room : RoomState) (pid : ℕ) (view : TaskView) (doing : TaskDoing) → AreRising room → Some view ≡ next_view room pid → Some doing ≡ doing_at room view.pid →
    (time : ℕ) (rows new : List TaskTimes) (k : ℕ) (none : TaskTimes) → view.pid < length rows →
    new ≡ set rows view.pid (with_span (Some doing) time (get_or rows view.pid none)) →
    with_span (doing_in room (above room view.pid) k) time (get_or new k none) ≡ with_span (doing_in room (above room pid) k) time (get_or rows k none)
rows_step room pid view doing rises shown does time rows new k none few is =
    let next = next_of room pid view rises shown in
    let own : view.pid ≡ next.task.spec.pid = ap (λ (v : TaskView). v.pid) next.shown in
    let did = does_it room pid view doing next does in
    let now : new ≡ set rows next.task.spec.pid (with_span (Some (doing_of room next.task)) time (get_or rows next.task.spec.pid none)) =
    is ∙ (λ i. set rows (own i) (with_span (Some (did i)) time (get_or rows (own i) none))) in
    (λ i. with_span (doing_in room (above room (own i)) k) time (get_or (now i) k none))
    ∙ tasks_step room next.task (above room next.task.spec.pid) time rows k none (above_misses next.task.spec.pid room.tasks) (subst (λ (n : ℕ). n < length rows) own few)
    ∙ ap (λ (left : List Task). with_span (doing_in room left k) time (get_or rows k none)) (sym next.first)

pub parts_step : (room : RoomState) (pid : ℕ) (view : TaskView) (doing : TaskDoing) → AreRising room → Some view ≡ next_view room pid → Some doing ≡ doing_at room view.pid →
    (time : ℕ) (rows new : List CookieTimes) (k : ℕ) (none : CookieTimes) → view.cookie < length rows →
    new ≡ set rows view.cookie (with_one doing time (get_or rows view.cookie none)) →
    with_doers_in room (above room view.pid) k time (get_or new k none) ≡ with_doers_in room (above room pid) k time (get_or rows k none)
parts_step room pid view doing rises shown does time rows new k none few is =
    let next = next_of room pid view rises shown in
    let own : view.cookie ≡ next.task.cookie = ap (λ (v : TaskView). v.cookie) next.shown in
    let up : view.pid ≡ next.task.spec.pid = ap (λ (v : TaskView). v.pid) next.shown in
    let did = does_it room pid view doing next does in
    let now : new ≡ set rows next.task.cookie (with_one (doing_of room next.task) time (get_or rows next.task.cookie none)) =
    is ∙ (λ i. set rows (own i) (with_one (did i) time (get_or rows (own i) none))) in
    (λ i. with_doers_in room (above room (up i)) k time (get_or (now i) k none))
    ∙ cookies_step room next.task (above room next.task.spec.pid) time rows k none (subst (λ (n : ℕ). n < length rows) own few)
    ∙ ap (λ (left : List Task). with_doers_in room left k time (get_or rows k none)) (sym next.first)

-- at the end none are left
pub none_above : (room : RoomState) (pid : ℕ) → None ≡ next_view room pid → above room pid ≡ []
none_above room pid shown = go (task_after room pid) refl shown where
  go : (found : Option Task) → task_after room pid ≡ found → None ≡ option_map (task_view room) found → above room pid ≡ []
  go None e is = above_none pid room.tasks e
  go (Some task) e is = absurd cc

pub rows_end : (room : RoomState) (pid : ℕ) → None ≡ next_view room pid → (k time : ℕ) (row : TaskTimes) → row ≡ with_span (doing_in room (above room pid) k) time row
rows_end room pid shown k time row = sym (ap (λ (left : List Task). with_span (doing_in room left k) time row) (none_above room pid shown))

pub parts_end : (room : RoomState) (pid : ℕ) → None ≡ next_view room pid → (k time : ℕ) (row : CookieTimes) → row ≡ with_doers_in room (above room pid) k time row
parts_end room pid shown k time row =
    let still : (n : ℕ) → n ≡ n + time * 0 = λ n. omega arith in
    (λ i. record row { by_doing = record { ran = still row.by_doing.ran i; waited = still row.by_doing.waited i; slept = still row.by_doing.slept i } })
    ∙ sym (ap (λ (left : List Task). with_doers_in room left k time row) (none_above room pid shown))
