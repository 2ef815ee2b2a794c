-- Left: which lines of each part are left at a index of its loop.
use Rattle.std.proofs.Common.{◌≡◌, ℕ, zero, suc, take_all, ◌+◌, ◌-◌, ◌<◌, ◌≤◌, Bool, List, [], ◌∷◌, ◌++◌, map, length, drop, take, refl, sym, ap, ◌∙◌, append_assoc, subst, arith, Option, Some, None}
use Rattle.std.specs.Prelude.{filter, slice_get, unwrap_or, All, if◌then◌else◌, codes}
use Rattle.std.specs.List.{flat_map, filter_map, cons_option, range_with_len}
use Rattle.std.specs.Option.{option_map, IsSome}
use Rattle.std.proofs.Math.Seq.{drop-cons}
use Rattle.std.proofs.lemmas.Bool.{lt-ltb, ltb-true}
use Rattle.std.proofs.lemmas.List.{drop_all, length-drop}
use Rattle.std.proofs.lemmas.List.Elements.{All-more}
use Rattle.std.proofs.lemmas.Option.{slice_get_within, none-some, slice_get-get_or, get_or_from_slice_get}
use Rattle.cs_types.specs.declared.task.Task.{Task}
use Rattle.cs_types.specs.declared.view.CpuView.{CpuView}
use Rattle.cs_types.specs.declared.view.TaskView.{TaskView}
use Rattle.cs_types.specs.declared.view.EndView.{EndView}
use Rattle.cs_types.specs.declared.view.GuardView.{GuardView}
use Rattle.cs_types.specs.declared.reply.Entry.{Entry}
use Rattle.cs_types.specs.Scenario.{IsPlayable}
use Rattle.cs_types.specs.Guards.{GuardState, no_guard}
use Rattle.cs_types.specs.Room.{Opening, sibling_of}
use Rattle.cs_types.specs.Touches.{own_number, is_fresh}
use Rattle.cs_types.specs.History.{History, Moment, beginning, next, after, moment_of, fold_of}
use Rattle.cs_types.specs.View.{cpu_view, task_after, task_view, end_view, guard_view}
use Rattle.cs_types.proofs.Foremost.{find_passes}
use Rattle.cs_laws.proofs.Numbers.{draws-step}
use Rattle.cs_types.proofs.Inserted.{is_above}
use Rattle.cs_laws.proofs.Rising.{Rises, rising-fold_of, above_zero, above_next, above_none}
use Rattle.scenario_text.specs.Words.{Word}
use Rattle.scenario_text.specs.Text.{line, entry_text}
use Rattle.scenario_text.specs.Entry.{FitsReply}
use Rattle.room_report.specs.Report.{cpu_words, task_words, ended_words, guard_words, core_lines, cpu_lines, task_lines, ended_lines, guard_lines, lines_text, report_lines, report_text}
use Rattle.cs_outside.proofs.Reached.{AreLeft, all_left}

-- ---- lists

-- from a index on stand its element and what comes after
drop_next : {X : Type 0} (xs : List X) (n : ℕ) (x : X) → slice_get xs n ≡ Some x → drop n xs ≡ x ∷ drop (n + 1) xs
drop_next {X = X} xs n x at =
    let within = slice_get_within xs n x at in
    let e : n + 1 ≡ suc n = omega arith in
    rw e (drop-cons xs n x within ∙ ap (λ (y : X). y ∷ drop (suc n) xs) (get_or_from_slice_get xs n x x at))

-- where there is no element, nothing is left
drop_none : {X : Type 0} (xs : List X) (n : ℕ) → slice_get xs n ≡ None → drop n xs ≡ []
drop_none [] n at = drop_all n [] (omega arith)
drop_none (x ∷ xs) n at =
    drop_all n (x ∷ xs) (omega (arith, λ (few : n < length (x ∷ xs)). none-some _ (sym at ∙ slice_get-get_or (x ∷ xs) n x few)))

-- what is the value of a function is so at some element
mapped_some : {X Y : Type 0} (f : X → Y) (at : Option X) (y : Y) → Some y ≡ option_map f at → (x : X) × (at ≡ Some x) × (y ≡ f x)
mapped_some f None y is = absurd cc
mapped_some f (Some x) y is = (x, refl, cc)

mapped_none : {X Y : Type 0} (f : X → Y) (at : Option X) → None ≡ option_map f at → at ≡ None
mapped_none f None is = refl
mapped_none f (Some x) is = absurd cc

-- ---- entries

pub entries_next : (history : History) (index : ℕ) (entry : Entry) → slice_get history index ≡ Some entry →
    flat_map entry_text (drop index history) ≡ entry_text entry ++ flat_map entry_text (drop (index + 1) history)
entries_next history index entry at = ap (flat_map entry_text) (drop_next history index entry at)

-- the numbers of the replies so far, with the next entry's
fits_next : (history : History) (index : ℕ) (entry : Entry) → slice_get history index ≡ Some entry →
    All (λ (e : Entry). FitsReply e.reply) (take index history) → FitsReply entry.reply → All (λ (e : Entry). FitsReply e.reply) (take (index + 1) history)
fits_next history index entry at past now =
    All-more (λ (e : Entry). FitsReply e.reply) history index entry (slice_get_within history index entry at) past
    (subst (λ (e : Entry). FitsReply e.reply) (sym (get_or_from_slice_get history index entry entry at)) now)

-- the same of those from a place on
from_place : (history : History) (from index : ℕ) → from ≤ index → slice_get (drop from history) (index - from) ≡ slice_get history index
from_place history zero index before = let e : index - 0 ≡ index = omega arith in ap (slice_get history) e
from_place [] (suc from) index before = refl
from_place (first ∷ history) (suc from) zero before = absurd (omega (arith, before))
from_place (first ∷ history) (suc from) (suc index) before =
    let e : suc index - suc from ≡ index - from = omega arith in
    ap (slice_get (drop from history)) e ∙ from_place history from index (omega (arith, before))

pub fits_more : (history : History) (from index : ℕ) (entry : Entry) → from ≤ index → slice_get history index ≡ Some entry →
    All (λ (e : Entry). FitsReply e.reply) (take (index - from) (drop from history)) → FitsReply entry.reply →
    All (λ (e : Entry). FitsReply e.reply) (take (index + 1 - from) (drop from history))
fits_more history from index entry before at past now =
    let next : index - from + 1 ≡ index + 1 - from = omega (arith, before) in
    subst (λ (n : ℕ). All (λ (e : Entry). FitsReply e.reply) (take n (drop from history))) next
    (fits_next (drop from history) (index - from) entry (from_place history from index before ∙ at) past now)

pub all_taken : (history : History) (from index : ℕ) → length history ≤ index → All (λ (e : Entry). FitsReply e.reply) (take (index - from) (drop from history)) →
    All (λ (e : Entry). FitsReply e.reply) (drop from history)
all_taken history from index long all =
    subst (All (λ (e : Entry). FitsReply e.reply))
    (take_all (index - from) (drop from history) (omega (arith, long, length-drop from history))) all

-- ---- siblings

abbrev cpu_row : Moment → ℕ → Option (List Word)
cpu_row moment cpu = option_map (cpu_words cpu) (cpu_view moment cpu)

-- the lines of the siblings from one on
abbrev pub cpu_lines_from : Moment → ℕ → List (List Word)
cpu_lines_from moment cpu = filter_map (cpu_row moment) (range_with_len cpu (length moment.room.siblings - cpu))

pub cpu_next : (moment : Moment) (cpu : ℕ) (view : CpuView) → cpu < length moment.room.siblings → cpu_view moment cpu ≡ Some view →
    lines_text (cpu_lines_from moment cpu) ≡ line (cpu_words cpu view) ++ lines_text (cpu_lines_from moment (cpu + 1))
cpu_next moment cpu view few shown =
    let e : length moment.room.siblings - cpu ≡ suc (length moment.room.siblings - (cpu + 1)) = omega arith in
    ap (λ n. lines_text (filter_map (cpu_row moment) (range_with_len cpu n))) e
    ∙ ap (λ (row : Option CpuView). lines_text (cons_option (option_map (cpu_words cpu) row) (cpu_lines_from moment (cpu + 1)))) shown

pub cpu_end : (moment : Moment) (cpu : ℕ) → length moment.room.siblings ≤ cpu → lines_text (cpu_lines_from moment cpu) ≡ []
cpu_end moment cpu past =
    let e : length moment.room.siblings - cpu ≡ 0 = omega arith in
    ap (λ n. lines_text (filter_map (cpu_row moment) (range_with_len cpu n))) e

abbrev view_of : Moment → ℕ → CpuView
view_of moment cpu =
    record {
      online = (sibling_of moment.room cpu).online;
      run = unwrap_or (sibling_of moment.room cpu).run 0;
      number = own_number cpu moment.ledger;
      pending = (sibling_of moment.room cpu).pending;
    }

pub has_cpu : (moment : Moment) (cpu : ℕ) → cpu < length moment.room.siblings → IsSome (cpu_view moment cpu)
has_cpu moment cpu few =
    subst (λ (test : Bool). IsSome (if test then Some (view_of moment cpu) else None)) (sym (lt-ltb cpu (length moment.room.siblings) few)) refl

-- ---- living tasks

abbrev task_row : Moment → Task → List Word
task_row moment task = task_words (task_view moment.room task)

-- the lines of the tasks above a pid
abbrev pub task_lines_above : Moment → ℕ → List (List Word)
task_lines_above moment pid = map (task_row moment) (filter (is_above pid) moment.room.tasks)

abbrev pub shown_after : Moment → ℕ → Option TaskView
shown_after moment pid = option_map (task_view moment.room) (task_after moment.room pid)

rises : (opening : Opening) (history : History) → IsPlayable opening.scenario → Rises 0 (fold_of opening history).next_pid (fold_of opening history).tasks
rises opening history playable = rising-fold_of opening history (λ k d few. (playable.tasks k d few).pid.0) playable.distinct

pub task_start : (opening : Opening) (history : History) → IsPlayable opening.scenario →
    task_lines (moment_of opening history) ≡ task_lines_above (moment_of opening history) 0
task_start opening history playable =
    let last = moment_of opening history in
    ap (map (task_row last)) (sym (above_zero last.room.next_pid last.room.tasks (rises opening history playable)))

pub task_next : (opening : Opening) (history : History) → IsPlayable opening.scenario → (pid : ℕ) (view : TaskView) →
    Some view ≡ shown_after (moment_of opening history) pid →
    lines_text (task_lines_above (moment_of opening history) pid)
    ≡ line (task_words view) ++ lines_text (task_lines_above (moment_of opening history) view.pid)
task_next opening history playable pid view shown =
    let last = moment_of opening history in
    let found = mapped_some (task_view last.room) (task_after last.room pid) view shown in
    ap (λ (tasks : List Task). lines_text (map (task_row last) tasks)) (above_next pid 0 last.room.next_pid last.room.tasks found.0 (rises opening history playable) found.1)
    ∙ ap (λ (v : TaskView). line (task_words v) ++ lines_text (task_lines_above last v.pid)) (sym found.2)

pub task_end : (moment : Moment) (pid : ℕ) → None ≡ shown_after moment pid → lines_text (task_lines_above moment pid) ≡ []
task_end moment pid shown =
    ap (λ (tasks : List Task). lines_text (map (task_row moment) tasks))
    (above_none pid moment.room.tasks (mapped_none (task_view moment.room) (task_after moment.room pid) shown))

-- the next task has a pid above
pub task_above : (moment : Moment) (pid : ℕ) (view : TaskView) → Some view ≡ shown_after moment pid → pid < view.pid
task_above moment pid view shown =
    let found = mapped_some (task_view moment.room) (task_after moment.room pid) view shown in
    subst (λ (v : TaskView). pid < v.pid) (sym found.2)
    (ltb-true pid found.0.spec.pid (find_passes (is_above pid) moment.room.tasks found.0 found.1))

-- ---- tasks that ended

-- each entry ends one task at most
ended_after : (moment : Moment) (entries : History) → length (after moment entries).room.ended ≤ length moment.room.ended + length entries
ended_after moment [] = omega arith
ended_after moment (entry ∷ entries) =
    let one = draws-step moment.room (is_fresh moment.ledger) entry.event in
    omega (arith, ended_after (next moment entry) entries, one.ended)

pub few_ended : (opening : Opening) (history : History) → length (moment_of opening history).room.ended ≤ length history
few_ended opening history = omega (arith, ended_after (beginning opening) history)

abbrev ended_row : Moment → ℕ → List Word
ended_row moment pid = ended_words (end_view moment.room pid)

-- the lines of those from a index on
abbrev pub ended_lines_from : Moment → ℕ → List (List Word)
ended_lines_from moment index = map (ended_row moment) (drop index moment.room.ended)

abbrev pub shown_ended : Moment → ℕ → Option EndView
shown_ended moment index = option_map (end_view moment.room) (slice_get moment.room.ended index)

pub ended_next : (moment : Moment) (index : ℕ) (view : EndView) → Some view ≡ shown_ended moment index →
    lines_text (ended_lines_from moment index) ≡ line (ended_words view) ++ lines_text (ended_lines_from moment (index + 1))
ended_next moment index view shown =
    let found = mapped_some (end_view moment.room) (slice_get moment.room.ended index) view shown in
    ap (λ (pids : List ℕ). lines_text (map (ended_row moment) pids)) (drop_next moment.room.ended index found.0 found.1)
    ∙ ap (λ (v : EndView). line (ended_words v) ++ lines_text (ended_lines_from moment (index + 1))) (sym found.2)

pub ended_none : (moment : Moment) (index : ℕ) → None ≡ shown_ended moment index → lines_text (ended_lines_from moment index) ≡ []
ended_none moment index shown =
    ap (λ (pids : List ℕ). lines_text (map (ended_row moment) pids))
    (drop_none moment.room.ended index (mapped_none (end_view moment.room) (slice_get moment.room.ended index) shown))

pub ended_past : (moment : Moment) (index : ℕ) → length moment.room.ended ≤ index → lines_text (ended_lines_from moment index) ≡ []
ended_past moment index past =
    ap (λ (pids : List ℕ). lines_text (map (ended_row moment) pids)) (drop_all index moment.room.ended past)

-- ---- guards

abbrev guard_row : Moment → ℕ → Option (List Word)
guard_row moment index = option_map (guard_words index) (guard_view moment.room.guards index)

-- the lines of the guards from one on
abbrev pub guard_lines_from : Moment → ℕ → List (List Word)
guard_lines_from moment index = filter_map (guard_row moment) (range_with_len index (length moment.room.guards.all - index))

pub guard_start : (moment : Moment) → guard_lines moment ≡ guard_lines_from moment 0
guard_start moment =
    let e : length moment.room.guards.all - 0 ≡ length moment.room.guards.all = omega arith in
    ap (λ n. filter_map (guard_row moment) (range_with_len 0 n)) (sym e)

-- a guard that is shown was handed in
pub guard_within : (moment : Moment) (index : ℕ) (view : GuardView) → Some view ≡ guard_view moment.room.guards index → index < length moment.room.guards.all
guard_within moment index view shown =
    let found = mapped_some (λ (guard : GuardState). record { place = guard.place; asked = guard.asked }) (slice_get moment.room.guards.all index) view shown in
    slice_get_within moment.room.guards.all index found.0 found.1

pub guard_next : (moment : Moment) (index : ℕ) (view : GuardView) → Some view ≡ guard_view moment.room.guards index →
    lines_text (guard_lines_from moment index) ≡ line (guard_words index view) ++ lines_text (guard_lines_from moment (index + 1))
guard_next moment index view shown =
    let few = guard_within moment index view shown in
    let e : length moment.room.guards.all - index ≡ suc (length moment.room.guards.all - (index + 1)) = omega arith in
    ap (λ n. lines_text (filter_map (guard_row moment) (range_with_len index n))) e
    ∙ ap (λ (row : Option GuardView). lines_text (cons_option (option_map (guard_words index) row) (guard_lines_from moment (index + 1)))) (sym shown)

-- past the last guard nothing is left
pub guard_end : (moment : Moment) (index : ℕ) → None ≡ guard_view moment.room.guards index → lines_text (guard_lines_from moment index) ≡ []
guard_end moment index shown =
    let none = mapped_none (λ (guard : GuardState). record { place = guard.place; asked = guard.asked }) (slice_get moment.room.guards.all index) shown in
    let e : length moment.room.guards.all - index ≡ 0 =
    omega (arith, λ (few : index < length moment.room.guards.all). none-some _ (sym none ∙ slice_get-get_or moment.room.guards.all index no_guard few)) in
    ap (λ n. lines_text (filter_map (guard_row moment) (range_with_len index n))) e

-- ---- parts

abbrev pub done_lines : List (List Word)
done_lines = (codes "done" ∷ []) ∷ []

abbrev pub after_ended : Moment → List (List Word)
after_ended moment = guard_lines moment ++ done_lines

abbrev pub after_tasks : Moment → List (List Word)
after_tasks moment = ended_lines moment ++ after_ended moment

abbrev pub after_siblings : Moment → List (List Word)
after_siblings moment = task_lines moment ++ after_tasks moment

abbrev pub after_core : Moment → List (List Word)
after_core moment = cpu_lines moment ++ after_siblings moment

parts_in_turn : (core cpus tasks ended guards done : List (List Word)) →
    core ++ cpus ++ tasks ++ ended ++ guards ++ done ≡ core ++ (cpus ++ (tasks ++ (ended ++ (guards ++ done))))
parts_in_turn core cpus tasks ended guards done = simp append_assoc

-- at the start all parts are left
pub report_left : (before : Option (List ℕ)) (moment : Moment) → AreLeft line before (report_text moment) (core_lines moment ++ after_core moment) before
report_left before moment =
    subst (λ (lines : List (List Word)). AreLeft line before (report_text moment) lines before)
    (parts_in_turn (core_lines moment) (cpu_lines moment) (task_lines moment) (ended_lines moment) (guard_lines moment) done_lines)
    (all_left line before (report_lines moment))
