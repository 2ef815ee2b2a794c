-- Waited: in its waits a task is queued, and no sibling runs it. So together they are part of the time that it waited.
use Rattle.std.proofs.Common.{◌≡◌, ℕ, ◌+◌, ◌≤◌, Bool, true, false, cond, List, [], ◌∷◌, ◌++◌, refl, sym, ap, ◌∙◌, arith, Option, Some, None}
use Rattle.std.specs.Prelude.{◌==◌, is_some, sum}
use Rattle.std.specs.Option.{option_map, option_map_or, option_to_list}
use Rattle.std.proofs.lemmas.Bool.{eqb-true}
use Rattle.std.proofs.lemmas.List.Sums.{sum_by-cons}
use Rattle.cs_types.specs.declared.task.Task.{Task}
use Rattle.cs_types.specs.declared.reply.Entry.{Entry}
use Rattle.cs_types.specs.Scenario.{IsPlayable}
use Rattle.cs_types.specs.Room.{Opening, RoomState, has_pid, task_of}
use Rattle.cs_types.specs.Time.{is_running}
use Rattle.cs_types.specs.Touches.{is_fresh}
use Rattle.cs_types.specs.History.{History, Moment, beginning, step_at, next, after, IsLegal}
use Rattle.cs_types.proofs.Foremost.{find_passes}
use Rattle.cs_laws.proofs.Rising.{AreRising, rising-step}
use Rattle.cs_laws.proofs.Spots.{spot_of}
use Rattle.run_times.specs.Times.{Span, advance_of, spans_from, spans_of, time_in}
use Rattle.run_times.proofs.Shown.{rises_of}
use Rattle.run_times.proofs.Spans.{time_in-cons}
use Rattle.task_times.specs.declared.doing.TaskDoing.TheVariants.{Runs, Waits, Sleeps}
use Rattle.task_times.specs.Living.{waits, doing_of}
use Rattle.task_times.specs.TaskSums.{does_so}
use Rattle.wait_times.specs.Waits.{Look, woken_by, wakes, runs_task, looks_from, wait_before, waits_in, waits_at}
use Rattle.wait_times.proofs.Awake.{is_queued, IsAwake, awake-step, woken_is_awake}
use Rattle.wait_times.proofs.Lists.{wait_before-cons}
use Rattle.wait_times.proofs.Looks.{advance_wakes_none}

-- a task that is queued and that no sibling runs waits
awake_waits : (pid : ℕ) (room : RoomState) → IsAwake pid room → runs_task room pid ≡ false → does_so waits pid room ≡ true
awake_waits pid room awake quiet = go (task_of room pid) refl awake where
  go : (found : Option Task) → task_of room pid ≡ found → is_queued (option_map spot_of found) ≡ true → option_map_or waits (option_map (doing_of room) found) false ≡ true
  go None is queued = absurd cc
  go (Some task) is queued =
      let own : task.spec.pid ≡ pid = eqb-true task.spec.pid pid (find_passes (has_pid pid) room.tasks task is) in
      let idle : is_running room task ≡ false = ap (runs_task room) own ∙ quiet in
      λ i. waits (cond (idle i) Runs (cond (queued i) Waits Sleeps))

-- the replies of these entries, made from a moment on, are those that the rules give
abbrev AreReplies : Moment → List Entry → Type 0
AreReplies moment entries =
    (past : List Entry) (entry : Entry) (rest : List Entry) → entries ≡ past ++ entry ∷ rest → entry.reply ≡ (step_at (after moment past) entry.event).reply

-- one that wakes a task leaves it queued
wakes_is_awake : (pid : ℕ) (moment : Moment) (entry : Entry) → entry.reply ≡ (step_at moment entry.event).reply → wakes pid entry ≡ true → IsAwake pid (next moment entry).room
wakes_is_awake pid moment entry legal is = go (woken_by entry.event entry.reply) refl is where
  go : (woken : Option ℕ) → woken_by entry.event entry.reply ≡ woken → option_map_or (λ (n : ℕ). n == pid) woken false ≡ true → IsAwake pid (next moment entry).room
  go None e test = absurd cc
  go (Some other) e test =
      let own : other ≡ pid = eqb-true other pid test in
      woken_is_awake pid moment.room (is_fresh moment.ledger) entry.event (sym (ap (woken_by entry.event) legal) ∙ e ∙ ap Some own)

-- the waits in these entries, with that of a task that is queued before them, are part of the time that it waits
record IsPart (pid : ℕ) (moment : Moment) (looks : List Look) (spans : List Span) : Type 0 where
  pub always : sum (waits_in looks) ≤ time_in (does_so waits pid) spans
  pub queued : IsAwake pid moment.room → sum (waits_in looks) + wait_before looks ≤ time_in (does_so waits pid) spans

part_of : (pid : ℕ) (moment : Moment) (entries : List Entry) → AreRising moment.room → AreReplies moment entries →
    IsPart pid moment (looks_from pid moment entries) (spans_from moment entries)
part_of pid moment [] rises legal = record { always = omega arith; queued = λ _. omega arith }
part_of pid moment (entry ∷ entries) rises legal =
    by_advance (advance_of entry.event) refl (runs_task moment.room pid) refl (wakes pid entry) refl
    (part_of pid (next moment entry) entries (rising-step moment.room (is_fresh moment.ledger) entry.event rises)
    (λ past other rest is. legal (entry ∷ past) other rest (ap (λ (es : List Entry). entry ∷ es) is))) where
      later : List Look
      later = looks_from pid (next moment entry) entries

      spans : List Span
      spans = spans_from (next moment entry) entries

      stays : runs_task moment.room pid ≡ false → IsAwake pid moment.room → IsAwake pid (next moment entry).room
      stays quiet = awake-step pid moment.room (is_fresh moment.ledger) entry.event rises quiet

      look : Bool → Bool → ℕ → Look
      look runs woken time = record { runs = runs; wakes = woken; time = time }

      span : ℕ → Span
      span time = record { room = moment.room; time = time }

      -- what wakes the task ends a wait
      woken : (runs : Bool) → wait_before (look runs true 0 ∷ later) ≡ 0
      woken true = wait_before-cons (look true true 0) later
      woken false = wait_before-cons (look false true 0) later

      -- a span more is no less time
      longer : (time : ℕ) (test : Bool) → does_so waits pid moment.room ≡ test → time_in (does_so waits pid) spans ≤ time_in (does_so waits pid) (span time ∷ spans)
      longer time true is = omega (arith, time_in-cons (does_so waits pid) (span time) spans true is)
      longer time false is = omega (arith, time_in-cons (does_so waits pid) (span time) spans false is)

      by_advance : (advance : Option ℕ) → advance_of entry.event ≡ advance → (runs : Bool) → runs_task moment.room pid ≡ runs → (test : Bool) → wakes pid entry ≡ test →
          IsPart pid (next moment entry) later spans →
          IsPart pid moment (look runs test (option_map_or (λ (n : ℕ). n) advance 0) ∷ later) (option_to_list (option_map span advance) ++ spans)
      by_advance None e runs r true w rest =
          let all = sum_by-cons (λ (n : ℕ). n) (wait_before later) (waits_in later) in
          let part = rest.queued (wakes_is_awake pid moment entry (legal [] entry entries refl) w) in
          record { always = omega (arith, all, part); queued = λ _. omega (arith, all, part, woken runs) }
      by_advance None e true r false w rest =
          record { always = rest.always; queued = λ _. omega (arith, rest.always, wait_before-cons (look true false 0) later) }
      by_advance None e false r false w rest =
          record { always = rest.always; queued = λ awake. omega (arith, rest.queued (stays r awake), wait_before-cons (look false false 0) later) }
      by_advance (Some time) e runs r true w rest = absurd (let none = sym w ∙ advance_wakes_none pid entry (ap is_some e) in cc)
      by_advance (Some time) e true r false w rest =
          record {
            always = omega (arith, rest.always, longer time (does_so waits pid moment.room) refl);
            queued = λ _. omega (arith, rest.always, longer time (does_so waits pid moment.room) refl, wait_before-cons (look true false time) later);
          }
      by_advance (Some time) e false r false w rest =
          record {
            always = omega (arith, rest.always, longer time (does_so waits pid moment.room) refl);
            queued = λ awake. omega (
              arith,
              rest.queued (stays r awake),
              wait_before-cons (look false false time) later,
              time_in-cons (does_so waits pid) (span time) spans true (awake_waits pid moment.room awake r),
            );
          }

-- In every legal history the waits of a task together are part of the time that it waited.
pub sum-waits_at_waited : (opening : Opening) (history : History) (pid : ℕ) → IsPlayable opening.scenario → IsLegal opening history →
    sum (waits_at opening history pid) ≤ time_in (does_so waits pid) (spans_of opening history)
sum-waits_at_waited opening history pid playable legal =
    (part_of pid (beginning opening) history (rises_of opening [] playable) legal).always
