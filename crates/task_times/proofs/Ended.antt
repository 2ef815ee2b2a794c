-- Ended: a task that ended was last to end when it did, so it counts for the cookie that it had right before.
use Rattle.std.proofs.Common.{◌≡◌, ◌≢◌, ℕ, ◌<◌, ◌≤◌, Bool, cond, true, false, List, [], ◌∷◌, ◌++◌, length, get_or, refl, sym, ap, ◌∙◌, subst, append_assoc, arith, Option, Some, None}
use Rattle.std.specs.Prelude.{find, filter, reverse, not}
use Rattle.std.specs.Option.{option_map_or, option_and_then, option_to_list}
use Rattle.std.proofs.lemmas.Bool.{cond-true, cond-false, both_ways, eq-eqb}
use Rattle.std.proofs.lemmas.List.{reverse-append}
use Rattle.std.proofs.lemmas.List.FromFn.{length-map-range_with_len}
use Rattle.cs_types.specs.declared.task.Task.{Task}
use Rattle.cs_types.specs.declared.event.Event.{Event}
use Rattle.cs_types.specs.declared.event.Event.TheVariants.{Exit}
use Rattle.cs_types.specs.declared.reply.Entry.{Entry}
use Rattle.cs_types.specs.Scenario.{IsPlayable}
use Rattle.cs_types.specs.Room.{Opening, RoomState, has_pid, running_on, is_online}
use Rattle.cs_types.specs.Step.{Stepped, step, exit, without, has_threads, run_idle}
use Rattle.cs_types.specs.Accounting.{charge}
use Rattle.cs_types.specs.Touches.{is_fresh}
use Rattle.cs_types.specs.History.{History, Moment, beginning, next, moment_of, fold_of}
use Rattle.cs_laws.proofs.Drains.{after-append}
use Rattle.cs_types.proofs.Filtered.{each_found}
use Rattle.cs_types.proofs.Foremost.{find-append_none}
use Rattle.cs_laws.proofs.Homes.{running_is_found}
use Rattle.cs_laws.proofs.Rising.{AreRising}
use Rattle.run_times.proofs.Shown.{rises_of}
use Rattle.task_times.specs.declared.times.TaskTimes.{TaskTimes}
use Rattle.task_times.specs.Living.{leaver, ended_by, leavers_from, leavers_of, left_with, cookie_at}
use Rattle.task_times.specs.TaskSums.{TaskSums, pids_for, sums_of}
use Rattle.task_times.proofs.Bounds.{running_pid}
use Rattle.task_times.proofs.Leaving.{leavers_from-append, leaver_runs, each_listed, each-reverse}
use Rattle.task_times.proofs.Summed.{row_at, next_pid-le}
use Rattle.task_times.proofs.Always.{AreOthers, IsGone, gone-schedule, gone-step, gone_after, no_search, end_row}

-- ---- the end of a task

-- what an event ends it was to end, and that leads no others
ended_is : (room : RoomState) (event : Event) (task : Task) → ended_by room event ≡ Some task → (leaver room event ≡ Some task) × (has_threads room task ≡ false)
ended_is room event task is = go (leaver room event) refl is where
  by_test : (other : Task) → leaver room event ≡ Some other → (test : Bool) → has_threads room other ≡ test → cond test None (Some other) ≡ Some task →
      (leaver room event ≡ Some task) × (has_threads room task ≡ false)
  by_test other e true leads its = absurd cc
  by_test other e false leads its = let same : other ≡ task = cc in (e ∙ ap Some same, ap (has_threads room) (sym same) ∙ leads)

  go : (found : Option Task) → leaver room event ≡ found → option_and_then (λ (t : Task). cond (has_threads room t) None (Some t)) found ≡ Some task →
      (leaver room event ≡ Some task) × (has_threads room task ≡ false)
  go None e its = absurd cc
  go (Some other) e its = by_test other e (has_threads room other) refl its

leaver_online : (room : RoomState) (cpu : ℕ) (task : Task) → leaver room (Exit cpu) ≡ Some task → is_online room cpu ≡ true
leaver_online room cpu task is = go (is_online room cpu) is where
  go : (test : Bool) → cond test (running_on room cpu) None ≡ Some task → test ≡ true
  go true e = refl
  go false e = absurd cc

not_itself : (pid : ℕ) (tasks : List Task) → AreOthers pid (filter (λ other. not (has_pid pid other)) tasks)
not_itself pid [] = tt
not_itself pid (task ∷ tasks) = go (has_pid pid task) refl (not_itself pid tasks) where
  rest : List Task
  rest = filter (λ other. not (has_pid pid other)) tasks

  go : (test : Bool) → has_pid pid task ≡ test → AreOthers pid rest → AreOthers pid (cond (not test) (task ∷ rest) rest)
  go true is others = others
  go false is others = ((λ same. both_ways (has_pid pid task) is (eq-eqb task.spec.pid pid same)), others)

-- after it no task has the pid
gone_then : (room : RoomState) (fresh : Bool) (event : Event) (task : Task) → AreRising room → ended_by room event ≡ Some task → IsGone true task.spec.pid (step room fresh event).room
gone_then room fresh (Exit cpu) task rises is =
    let its = ended_is room (Exit cpu) task is in
    let runs = leaver_runs room cpu task its.0 in
    let now : step room fresh (Exit cpu) ≡ _ =
    cond-true (is_online room cpu) (exit room cpu (running_on room cpu)) _ (leaver_online room cpu task its.0)
    ∙ ap (exit room cpu) runs ∙ cond-false (has_threads room task) _ _ its.1 in
    subst (λ (made : Stepped). IsGone true task.spec.pid made.room) (sym now)
    (gone-schedule true task.spec.pid (run_idle (without (charge room) task) cpu) false cpu
    (running_pid room cpu rises task runs, λ _. not_itself task.spec.pid room.tasks))
gone_then room fresh event task rises is = absurd cc

-- ---- no later exit was to end it

other_leaves : (pid : ℕ) (room : RoomState) (event : Event) → AreOthers pid room.tasks → (task : Task) → leaver room event ≡ Some task → task.spec.pid ≢ pid
other_leaves pid room (Exit cpu) others task is =
    each_found (λ (t : Task). t.spec.pid ≢ pid) (has_pid task.spec.pid) room.tasks task (running_is_found room cpu task (leaver_runs room cpu task is)).1 others
other_leaves pid room event others task is = absurd cc

others_leave : (pid : ℕ) (moment : Moment) (entries : List Entry) → IsGone true pid moment.room → AreOthers pid (leavers_from moment entries)
others_leave pid moment [] gone = tt
others_leave pid moment (entry ∷ entries) gone =
    each_listed (λ (t : Task). t.spec.pid ≢ pid) (leaver moment.room entry.event) (leavers_from (next moment entry) entries) (other_leaves pid moment.room entry.event (gone.1 refl))
    (others_leave pid (next moment entry) entries (gone-step true pid moment.room (is_fresh moment.ledger) entry.event gone))

left_with-last : (past later : List Task) (task : Task) → AreOthers task.spec.pid later → left_with (past ++ task ∷ later) task.spec.pid ≡ task.cookie
left_with-last past later task others =
    let pid = task.spec.pid in
    let turned : reverse (past ++ task ∷ later) ≡ reverse later ++ task ∷ reverse past =
    reverse-append past (task ∷ later) ∙ ap (λ (ts : List Task). ts ++ reverse past) (reverse-append (task ∷ []) later) ∙ append_assoc (reverse later) (task ∷ []) (reverse past) in
    let found : find (has_pid pid) (reverse (past ++ task ∷ later)) ≡ Some task =
    ap (find (has_pid pid)) turned
    ∙ find-append_none (has_pid pid) (reverse later) (task ∷ reverse past) (no_search pid (reverse later) (each-reverse (λ (t : Task). t.spec.pid ≢ pid) later others))
    ∙ cond-true (has_pid pid task) (Some task) (find (has_pid pid) (reverse past)) (eq-eqb pid pid refl) in
    ap (λ (o : Option Task). option_map_or (λ (t : Task). t.cookie) o 0) found

-- So it counts for the cookie that it had right before. Its pid was given.
cookie_at-ended : (opening : Opening) (past rest : History) (entry : Entry) (task : Task) → IsPlayable opening.scenario → ended_by (fold_of opening past) entry.event ≡ Some task →
    (cookie_at opening (past ++ entry ∷ rest) task.spec.pid ≡ task.cookie) × (task.spec.pid < (fold_of opening (past ++ entry ∷ rest)).next_pid)
cookie_at-ended opening past rest entry task playable is =
    let pid = task.spec.pid in
    let moment = moment_of opening past in
    let mid = next moment entry in
    let gone = gone_then moment.room (is_fresh moment.ledger) entry.event task (rises_of opening past playable) is in
    let last : IsGone true pid (fold_of opening (past ++ entry ∷ rest)) =
    subst (λ (m : Moment). IsGone true pid m.room) (sym (after-append (beginning opening) past (entry ∷ rest))) (gone_after true pid mid rest gone) in
    let leavers : leavers_of opening (past ++ entry ∷ rest) ≡ leavers_of opening past ++ task ∷ leavers_from mid rest =
    leavers_from-append (beginning opening) past (entry ∷ rest)
    ∙ ap (λ (o : Option Task). leavers_of opening past ++ (option_to_list o ++ leavers_from mid rest)) (ended_is moment.room entry.event task is).0 in (
      ap (λ (o : Option Task). option_map_or (λ (t : Task). t.cookie) o (left_with (leavers_of opening (past ++ entry ∷ rest)) pid))
          (no_search pid (fold_of opening (past ++ entry ∷ rest)).tasks (last.1 refl))
          ∙ ap (λ (ts : List Task). left_with ts pid) leavers
          ∙ left_with-last (leavers_of opening past) (leavers_from mid rest) task (others_leave pid mid rest gone),
      last.0,
    )

-- and so does its row
pub ended_at_end : (entries : ℕ) (opening : Opening) (history : History) (sums : TaskSums) → IsPlayable opening.scenario → length history ≤ entries → sums ≡ sums_of entries opening history →
    (past rest : History) (entry : Entry) (task : Task) → history ≡ past ++ entry ∷ rest → ended_by (fold_of opening past) entry.event ≡ Some task →
    (none : TaskTimes) → (get_or sums.tasks task.spec.pid none).cookie ≡ task.cookie
ended_at_end entries opening history sums playable few is past rest entry task whole ends none =
    let pid = task.spec.pid in
    let its = subst (λ (h : History). (cookie_at opening h pid ≡ task.cookie) × (pid < (fold_of opening h).next_pid)) (sym whole) (cookie_at-ended opening past rest entry task playable ends) in
    let many = ap (λ (s : TaskSums). length s.tasks) is ∙ length-map-range_with_len (end_row opening history) 0 (pids_for entries) in
    ap (λ (row : TaskTimes). row.cookie)
    (row_at (end_row opening history) (pids_for entries) sums.tasks (ap (λ (s : TaskSums). s.tasks) is) pid none (omega (arith, many, its.1, next_pid-le entries opening history playable few)))
    ∙ its.0
