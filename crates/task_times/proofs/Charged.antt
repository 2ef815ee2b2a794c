-- Charged: what each task was charged, noted one by one.
use Rattle.std.proofs.Common.{◌≡◌, ℕ, zero, suc, ◌+◌, ◌^◌, ◌<◌, ◌≤◌, Bool, true, false, cond, List, [], ◌∷◌, length, get_or, set, drop, refl, sym, ap, ◌∙◌, subst, arith, Option, Some, None}
use Rattle.std.specs.Prelude.{All, find, is_some, slice_get, ◌==◌, ◌||◌}
use Rattle.std.specs.List.{AllByRecursion, list_any}
use Rattle.std.specs.Option.{option_map, option_map_or}
use Rattle.std.proofs.lemmas.Bool.{both_ways, eq-eqb, eqb-true}
use Rattle.std.proofs.lemmas.List.{get_or-set_same, get_or-set_other}
use Rattle.std.proofs.lemmas.List.FromFn.{length-map-range_with_len}
use Rattle.std.proofs.lemmas.List.Elements.{All-from_recursion, recursion_from_All}
use Rattle.cs_types.specs.declared.task.Task.{Task}
use Rattle.cs_types.specs.declared.view.TaskView.{TaskView}
use Rattle.cs_types.specs.declared.view.EndView.{EndView}
use Rattle.cs_types.specs.Scenario.{IsPlayable}
use Rattle.cs_types.specs.Room.{Opening, RoomState, has_pid, task_of}
use Rattle.cs_types.specs.History.{History, fold_of}
use Rattle.cs_types.specs.View.{forced_of, end_view}
use Rattle.cs_types.proofs.Foremost.{each_weaker}
use Rattle.cs_laws.proofs.Numbers.{ended-fold_of, next_cookie-fold_of}
use Rattle.cs_laws.proofs.Rising.{AreRising, above_zero}
use Rattle.run_times.specs.Times.{Span, spans_of}
use Rattle.run_times.proofs.Shown.{rises_of}
use Rattle.task_times.specs.declared.times.TaskTimes.{TaskTimes}
use Rattle.task_times.specs.Living.{charged_in, leavers_of, left_with, cookie_at}
use Rattle.task_times.specs.TaskSums.{task_times, pids_for, sums_so_far, sums_of, counted_for, with_charge, charged_where, charged_living}
use Rattle.task_times.proofs.Bounds.{bound-fold_of, pids_below}
use Rattle.task_times.proofs.Summed.{both_below, next_pid-le, rows-push}
use Rattle.task_times.proofs.Walked.{above_misses}
use Rattle.task_times.proofs.Walk.{above, next_view, next_of, none_above}

-- one more pid is noted, and the rest is to be
charge_step : (room : RoomState) (pid k : ℕ) (rest : Bool) (rows : List TaskTimes) (none : TaskTimes) → pid < length rows →
    charged_where rest room k (get_or (set rows pid (with_charge (forced_of room pid) (get_or rows pid none))) k none)
    ≡ charged_where ((pid == k) || rest) room k (get_or rows k none)
charge_step room pid k rest rows none few = go (pid == k) refl where
  own : TaskTimes
  own = with_charge (forced_of room pid) (get_or rows pid none)

  twice : (test : Bool) (n : ℕ) (row : TaskTimes) → cond test (with_charge n (with_charge n row)) (with_charge n row) ≡ with_charge n row
  twice true n row = refl
  twice false n row = refl

  go : (test : Bool) → (pid == k) ≡ test → charged_where rest room k (get_or (set rows pid own) k none) ≡ charged_where (test || rest) room k (get_or rows k none)
  go true is =
      let e : pid ≡ k = eqb-true pid k is in
      (λ i. charged_where rest room k (get_or (set rows pid own) (sym e i) none))
      ∙ ap (charged_where rest room k) (get_or-set_same rows pid own none few ∙ (λ i. with_charge (forced_of room (e i)) (get_or rows (e i) none)))
      ∙ twice rest (forced_of room k) (get_or rows k none)
  go false is = ap (charged_where rest room k) (get_or-set_other rows pid k own none (λ same. both_ways (pid == k) is (eq-eqb pid k (sym same))))

-- ---- the living

-- the times of a task with what it was charged, and with its cookie, where it is one of these
abbrev pub charged_among : RoomState → List Task → ℕ → TaskTimes → TaskTimes
charged_among room left pid row = charged_living (find (has_pid pid) left) room pid row

abbrev pub charged_above : RoomState → ℕ → ℕ → TaskTimes → TaskTimes
charged_above room pid k row = charged_among room (above room pid) k row

-- one more task is noted, and the rest is to be
living_one : (room : RoomState) (task : Task) (left : List Task) (rows : List TaskTimes) (k : ℕ) (none : TaskTimes) → find (has_pid task.spec.pid) left ≡ None → task.spec.pid < length rows →
    charged_among room left k (get_or (set rows task.spec.pid (charged_living (Some task) room task.spec.pid (get_or rows task.spec.pid none))) k none)
    ≡ charged_among room (task ∷ left) k (get_or rows k none)
living_one room task left rows k none past few = go (has_pid k task) refl where
  own : TaskTimes
  own = charged_living (Some task) room task.spec.pid (get_or rows task.spec.pid none)

  go : (test : Bool) → has_pid k task ≡ test →
      charged_among room left k (get_or (set rows task.spec.pid own) k none) ≡ charged_living (cond test (Some task) (find (has_pid k) left)) room k (get_or rows k none)
  go true is =
      let e : task.spec.pid ≡ k = eqb-true task.spec.pid k is in
      let gone : find (has_pid k) left ≡ None = ap (λ (n : ℕ). find (has_pid n) left) (sym e) ∙ past in
      (λ i. charged_living (gone i) room k (get_or (set rows task.spec.pid own) (sym e i) none))
      ∙ get_or-set_same rows task.spec.pid own none few
      ∙ ap (λ (n : ℕ). charged_living (Some task) room n (get_or rows n none)) e
  go false is =
      ap (charged_among room left k)
      (get_or-set_other rows task.spec.pid k own none (λ same. both_ways (has_pid k task) is (eq-eqb task.spec.pid k (sym same))))

pub living_start : (room : RoomState) (k : ℕ) (row : TaskTimes) → AreRising room → charged_above room 0 k row ≡ charged_living (task_of room k) room k row
living_start room k row rises = ap (λ (tasks : List Task). charged_among room tasks k row) (above_zero room.next_pid room.tasks rises)

pub living_step : (room : RoomState) (pid : ℕ) (view : TaskView) → AreRising room → Some view ≡ next_view room pid → (rows new : List TaskTimes) (k : ℕ) (none : TaskTimes) → view.pid < length rows →
    new ≡ set rows view.pid (with_charge view.forced (counted_for view.cookie (get_or rows view.pid none))) →
    charged_above room view.pid k (get_or new k none) ≡ charged_above room pid k (get_or rows k none)
living_step room pid view rises shown rows new k none few is =
    let next = next_of room pid view rises shown in
    let own : view.pid ≡ next.task.spec.pid = ap (λ (v : TaskView). v.pid) next.shown in
    let at = next.task.spec.pid in
    let now : new ≡ set rows at (charged_living (Some next.task) room at (get_or rows at none)) =
    is ∙ (λ i. set rows (own i) (with_charge (ap (λ (v : TaskView). v.forced) next.shown i) (counted_for (ap (λ (v : TaskView). v.cookie) next.shown i) (get_or rows (own i) none)))) in
    (λ i. charged_above room (own i) k (get_or (now i) k none))
    ∙ living_one room next.task (above room at) rows k none (above_misses at room.tasks) (subst (λ (n : ℕ). n < length rows) own few)
    ∙ ap (λ (left : List Task). charged_among room left k (get_or rows k none)) (sym next.first)

pub living_end : (room : RoomState) (pid : ℕ) → None ≡ next_view room pid → (k : ℕ) (row : TaskTimes) → row ≡ charged_above room pid k row
living_end room pid shown k row = sym (ap (λ (left : List Task). charged_among room left k row) (none_above room pid shown))

-- ---- the ended

abbrev pub charged_ended : RoomState → ℕ → ℕ → TaskTimes → TaskTimes
charged_ended room place k row = charged_where (list_any (λ other. other == k) (drop place room.ended)) room k row

-- what is shown of a place is of that place
ended_at : (room : RoomState) (pids : List ℕ) (place : ℕ) (view : EndView) → Some view ≡ option_map (end_view room) (slice_get pids place) →
    (view.forced ≡ forced_of room view.pid) × (place < length pids) × (drop place pids ≡ view.pid ∷ drop (suc place) pids)
ended_at room [] place view shown = absurd cc
ended_at room (pid ∷ pids) zero view shown =
    let same : view ≡ end_view room pid = cc in
    subst (λ (v : EndView). (v.forced ≡ forced_of room v.pid) × (0 < suc (length pids)) × (pid ∷ pids ≡ v.pid ∷ pids)) (sym same) (refl, omega arith, refl)
ended_at room (pid ∷ pids) (suc place) view shown =
    let rest = ended_at room pids place view shown in
    (rest.0, omega (arith, rest.1), rest.2)

-- it has a row
pub ended_row : (room : RoomState) (place most : ℕ) (view : EndView) → All (λ (pid : ℕ). pid < most) room.ended →
    Some view ≡ option_map (end_view room) (slice_get room.ended place) → (view.pid < most) × (place < length room.ended)
ended_row room place most view each shown = (go room.ended place (recursion_from_All (λ (pid : ℕ). pid < most) room.ended each) shown, (ended_at room room.ended place view shown).1) where
  go : (pids : List ℕ) (i : ℕ) → AllByRecursion (λ (pid : ℕ). pid < most) pids → Some view ≡ option_map (end_view room) (slice_get pids i) → view.pid < most
  go [] i all is = absurd cc
  go (pid ∷ pids) zero all is = let same : view ≡ end_view room pid = cc in subst (λ (v : EndView). v.pid < most) (sym same) all.0
  go (pid ∷ pids) (suc i) all is = go pids i all.1 is

pub ended_step : (room : RoomState) (place : ℕ) (view : EndView) → Some view ≡ option_map (end_view room) (slice_get room.ended place) → (rows new : List TaskTimes) (k : ℕ) (none : TaskTimes) →
    view.pid < length rows → new ≡ set rows view.pid (with_charge view.forced (get_or rows view.pid none)) →
    charged_ended room (place + 1) k (get_or new k none) ≡ charged_ended room place k (get_or rows k none)
ended_step room place view shown rows new k none few is =
    let at = ended_at room room.ended place view shown in
    let up : place + 1 ≡ suc place = omega arith in
    let now : new ≡ set rows view.pid (with_charge (forced_of room view.pid) (get_or rows view.pid none)) =
    is ∙ ap (λ (n : ℕ). set rows view.pid (with_charge n (get_or rows view.pid none))) at.0 in
    (λ i. charged_ended room (up i) k (get_or (now i) k none))
    ∙ charge_step room view.pid k (list_any (λ other. other == k) (drop (suc place) room.ended)) rows none few
    ∙ ap (λ (left : List ℕ). charged_where (list_any (λ other. other == k) left) room k (get_or rows k none)) (sym at.2)

none_past : (room : RoomState) (pids : List ℕ) (place : ℕ) → None ≡ option_map (end_view room) (slice_get pids place) → drop place pids ≡ []
none_past room [] zero shown = refl
none_past room [] (suc place) shown = refl
none_past room (pid ∷ pids) zero shown = absurd cc
none_past room (pid ∷ pids) (suc place) shown = none_past room pids place shown

pub ended_end : (room : RoomState) (place : ℕ) → None ≡ option_map (end_view room) (slice_get room.ended place) → (k : ℕ) (row : TaskTimes) → row ≡ charged_ended room place k row
ended_end room place shown k row = sym (ap (λ (left : List ℕ). charged_where (list_any (λ other. other == k) left) room k row) (none_past room room.ended place shown))

-- ---- all

charged_both : (opening : Opening) (history : History) (spans : List Span) (k : ℕ) → let room = fold_of opening history in
    task_times (charged_in room k) (cookie_at opening history k) spans k
    ≡ charged_where (list_any (λ other. other == k) room.ended) room k (charged_living (task_of room k) room k (task_times 0 (left_with (leavers_of opening history) k) spans k))
charged_both opening history spans k = go (task_of room k) (list_any (λ other. other == k) room.ended) where
  room : RoomState
  room = fold_of opening history

  left : ℕ
  left = left_with (leavers_of opening history) k

  go : (found : Option Task) (past : Bool) →
      task_times (cond (is_some found || past) (forced_of room k) 0) (option_map_or (λ (t : Task). t.cookie) found left) spans k
      ≡ charged_where past room k (charged_living found room k (task_times 0 left spans k))
  go (Some task) true = refl
  go (Some task) false = refl
  go None true = refl
  go None false = refl

-- the rows at the end
pub rows_charged : (entries : ℕ) (opening : Opening) (history : History) (old new : List TaskTimes) →
    let room = fold_of opening history in
    old ≡ (sums_so_far entries opening history).tasks → length new ≡ length old →
    ((k : ℕ) (none : TaskTimes) → k < length old → get_or new k none
    ≡ charged_where (list_any (λ other. other == k) room.ended) room k (charged_living (task_of room k) room k (get_or old k none))) →
    new ≡ (sums_of entries opening history).tasks
rows_charged entries opening history old new was long each =
    let room = fold_of opening history in
    let spans = spans_of opening history in
    rows-push (λ pid. task_times 0 (left_with (leavers_of opening history) pid) spans pid) (λ pid. task_times (charged_in room pid) (cookie_at opening history pid) spans pid)
    (λ k row. charged_where (list_any (λ other. other == k) room.ended) room k (charged_living (task_of room k) room k row))
    (charged_both opening history spans) (pids_for entries) old new (task_times 0 0 [] 0) was long each

-- what is said of rows is said of the same rows
pub each_row : (room : RoomState) (slice rows new : List TaskTimes) → slice ≡ rows →
    ((k : ℕ) (none : TaskTimes) → k < length slice → get_or new k none
    ≡ charged_where (list_any (λ other. other == k) room.ended) room k (charged_living (task_of room k) room k (get_or slice k none))) →
    (k : ℕ) (none : TaskTimes) → k < length rows → get_or new k none
    ≡ charged_where (list_any (λ other. other == k) room.ended) room k (charged_living (task_of room k) room k (get_or rows k none))
each_row room slice rows new same each =
    subst (λ (xs : List TaskTimes). (k : ℕ) (none : TaskTimes) → k < length xs → get_or new k none
    ≡ charged_where (list_any (λ other. other == k) room.ended) room k (charged_living (task_of room k) room k (get_or xs k none))) same each

-- there is a row for each
pub living_rows : (entries : ℕ) (opening : Opening) (history : History) (most highest : ℕ) → IsPlayable opening.scenario → length history ≤ entries → most ≡ pids_for entries →
    entries < highest → All (λ (task : Task). (task.spec.pid < most) × (task.cookie < highest)) (fold_of opening history).tasks
living_rows entries opening history most highest playable few is fits =
    let room = fold_of opening history in
    let low : opening.scenario.task_limit ≤ 256 = playable.task_limit.1 in
    All-from_recursion (λ (task : Task). (task.spec.pid < most) × (task.cookie < highest)) room.tasks
    (both_below most highest room.next_pid room.next_cookie room.tasks (omega (arith, next_pid-le entries opening history playable few, is))
    (omega (arith, next_cookie-fold_of opening history playable.few_tasks low, few, fits))
    (pids_below room (rises_of opening history playable)) (bound-fold_of opening history playable).1)

pub ended_rows : (entries : ℕ) (opening : Opening) (history : History) (most : ℕ) → IsPlayable opening.scenario → length history ≤ entries → most ≡ pids_for entries →
    All (λ (pid : ℕ). pid < most) (fold_of opening history).ended
ended_rows entries opening history most playable few is =
    let room = fold_of opening history in
    let up = next_pid-le entries opening history playable few in
    All-from_recursion (λ (pid : ℕ). pid < most) room.ended
    (each_weaker (λ (pid : ℕ). pid < room.next_pid) (λ (pid : ℕ). pid < most) room.ended (λ pid below. omega (arith, below, up, is)) (bound-fold_of opening history playable).2)

pub ended_few : (entries : ℕ) (opening : Opening) (history : History) → IsPlayable opening.scenario → length history ≤ entries → entries < 2 ^ 26 →
    length (fold_of opening history).ended < 2 ^ 26
ended_few entries opening history playable few fits = omega (arith, ended-fold_of opening history playable.few_tasks playable.task_limit.1, few, fits)

pub tasks_long : (entries : ℕ) (opening : Opening) (history : History) (tasks : List TaskTimes) → tasks ≡ (sums_so_far entries opening history).tasks → length tasks ≡ pids_for entries
tasks_long entries opening history tasks is =
    ap length is ∙ length-map-range_with_len (λ pid. task_times 0 (left_with (leavers_of opening history) pid) (spans_of opening history) pid) 0 (pids_for entries)
