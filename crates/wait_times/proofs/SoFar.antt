-- SoFar: how the row of a task goes on, and what it tells at the end.
use Rattle.std.proofs.Common.{◌≡◌, ℕ, ◌+◌, ◌-◌, ◌*◌, ◌<◌, ◌≤◌, ◌^◌, Bool, true, false, List, [], ◌∷◌, ◌++◌, length, map, get_or, refl, sym, ap, ◌∙◌, subst, append_assoc, arith, Option, Some, None}
use Rattle.std.specs.Prelude.{All, IfSome, is_some, max, fold, sum}
use Rattle.std.specs.List.{range_with_len}
use Rattle.std.specs.Option.{option_map_or}
use Rattle.std.proofs.lemmas.List.{append-nil, length-append}
use Rattle.std.proofs.lemmas.List.Elements.{recursion_from_All}
use Rattle.std.proofs.lemmas.List.FromFn.{fill_by_all}
use Rattle.std.proofs.lemmas.List.Sums.{fold-append, sum_by_push}
use Rattle.cs_types.specs.declared.reply.Entry.{Entry}
use Rattle.cs_types.specs.Scenario.{IsEvent, IsPlayable}
use Rattle.cs_types.specs.Room.{Opening}
use Rattle.cs_types.specs.History.{History, Moment, beginning, moment_of, fold_of, AreEvents, IsLegal}
use Rattle.cs_types.specs.Drain.{IsDrained}
use Rattle.cs_laws.proofs.Histories.{moment_of-push}
use Rattle.run_times.specs.Times.{advance_of, spans_of, time_in}
use Rattle.run_times.proofs.Spans.{total_time-le}
use Rattle.run_times.proofs.Clock.{total_time-clock}
use Rattle.task_times.specs.Living.{waits}
use Rattle.task_times.specs.TaskSums.{pids_for, does_so}
use Rattle.task_times.proofs.Summed.{row_at}
use Rattle.wait_times.specs.declared.rows.TaskWaits.{TaskWaits}
use Rattle.wait_times.specs.Waits.{Look, wakes, runs_task, event_time, looks_from, waits_in, waits_at}
use Rattle.wait_times.specs.Rows.{Waits, row_of, waits_of, going_on, IsRowSoFar, AreWaitsSoFar, AreWaitsBefore, AreWaitsBeforeEnd, CanEnd, with_wait, ended, ended_where, begun_where}
use Rattle.wait_times.proofs.Lists.{since_next, over_next, going_on-next, going_on-over}
use Rattle.wait_times.proofs.Looks.{clock-push, clock-drained, sum-waits_at, length-waits_at, wakes_still, running_waits_no_more, advance_wakes_none, waits_at-drained}
use Rattle.wait_times.proofs.Running.{since-ended, runs-push}
use Rattle.wait_times.proofs.Waited.{sum-waits_at_waited}

-- ---- a wait that is ended

-- one wait more
row_of-push : (over : List ℕ) (wait : ℕ) → with_wait wait (row_of over) ≡ row_of (over ++ wait ∷ [])
row_of-push over wait =
    let many : length over + 1 ≡ length (over ++ wait ∷ []) = sym (length-append over (wait ∷ [])) in
    let most : max (fold max 0 over) wait ≡ fold max 0 (over ++ wait ∷ []) = sym (fold-append max 0 over (wait ∷ [])) in
    let all : sum over + wait ≡ sum (over ++ wait ∷ []) = sym (sum_by_push (λ (n : ℕ). n) over wait) in
    λ i. record { count = many i; longest = most i; sum = all i; since = None }

ended_by : (clock : ℕ) (since : Option ℕ) (over : List ℕ) → ended clock (record (row_of over) { since = since }) ≡ row_of (over ++ going_on clock since [])
ended_by clock None over = ap row_of (sym (append-nil over))
ended_by clock (Some began) over =
    let same : clock - began ≡ clock - began + 0 = omega arith in
    row_of-push over (clock - began) ∙ ap (λ n. row_of (over ++ n ∷ [])) same

-- If a wait goes on, it is one of those that are over then.
row-ended : (clock : ℕ) (row : TaskWaits) (over : List ℕ) → row ≡ record (row_of over) { since = row.since } → ended clock row ≡ row_of (over ++ going_on clock row.since [])
row-ended clock row over told = ap (ended clock) told ∙ ended_by clock row.since over

-- So at the end of a run the row tells all waits.
pub row-closed : (opening : Opening) (history : History) (pid : ℕ) (row : TaskWaits) → IsRowSoFar opening history pid row →
    ended (fold_of opening history).clock row ≡ row_of (waits_at opening history pid)
row-closed opening history pid row so_far =
    let going = going_on (fold_of opening history).clock row.since [] in
    row-ended (fold_of opening history).clock row so_far.over so_far.told
    ∙ ap (λ (w : List ℕ). row_of (so_far.over ++ w)) (sym (append-nil going))
    ∙ ap row_of (sym (so_far.waits []))
    ∙ ap (λ (h : History). row_of (waits_at opening h pid)) (append-nil history)

-- ---- what fits

-- the clock is at most a second for each entry
clock-le : (opening : Opening) (history : History) → AreEvents opening history → (fold_of opening history).clock ≤ 1000000000 * length history
clock-le opening history events =
    let siblings = opening.scenario.siblings in
    omega (
      arith,
      total_time-clock opening history,
      total_time-le siblings (beginning opening) history (recursion_from_All (λ (entry : Entry). IsEvent siblings entry.event) history events),
    )

-- a wait can be ended at any later moment of the clock
pub can_end : (opening : Opening) (history : History) (pid : ℕ) (row : TaskWaits) (clock : ℕ) → IsRowSoFar opening history pid row →
    (fold_of opening history).clock ≤ clock → clock < 2 ^ 63 → length history < 2 ^ 26 → CanEnd clock row
can_end opening history pid row clock so_far later low few = go row.since refl so_far.began where
  now : ℕ
  now = (fold_of opening history).clock

  go : (since : Option ℕ) → row.since ≡ since → IfSome since (λ began. began ≤ now) →
      IfSome since (λ began. (began ≤ clock) × (row.count + 1 < 2 ^ 32) × (row.sum + (clock - began) < 2 ^ 64))
  go None is began = tt
  go (Some since) is began =
      let closed : with_wait (now - since) row ≡ row_of (waits_at opening history pid) =
      ap (λ (s : Option ℕ). option_map_or (λ (b : ℕ). with_wait (now - b) row) s row) (sym is) ∙ row-closed opening history pid row so_far in
      let many = ap (λ (r : TaskWaits). r.count) closed in
      let all = ap (λ (r : TaskWaits). r.sum) closed in (
        omega (arith, began, later),
        omega (arith, many, length-waits_at opening history pid, few),
        omega (arith, all, sum-waits_at opening history pid, later, low),
      )

-- ---- one entry more

pub row-more : (opening : Opening) (history : History) (entry : Entry) (pid : ℕ) (row : TaskWaits) → IsRowSoFar opening history pid row →
    (runs_task (fold_of opening history) pid ≡ true → row.since ≡ None) →
    let now = history ++ entry ∷ [] in IsRowSoFar opening now pid (begun_where (wakes pid entry) (fold_of opening now).clock row)
row-more opening history entry pid row so_far quiet = go (wakes pid entry) refl where
  moment : Moment
  moment = moment_of opening history

  now : History
  now = history ++ entry ∷ []

  time : ℕ
  time = event_time entry.event

  later : (fold_of opening now).clock ≡ moment.room.clock + time
  later = clock-push opening history entry

  -- the waits with more entries, by those with this one before them
  rest : (test : Bool) → wakes pid entry ≡ test → (entries : List Entry) → let looks = looks_from pid (moment_of opening now) entries in
      waits_at opening (now ++ entries) pid
      ≡ over_next test (fold_of opening now).clock row.since so_far.over
      ++ (going_on (fold_of opening now).clock (since_next test (fold_of opening now).clock row.since) looks ++ waits_in looks)
  rest test is entries =
      let looks = looks_from pid (moment_of opening now) entries in
      let own : Look = record { runs = runs_task moment.room pid; wakes = test; time = time } in
      ap (λ (h : History). waits_at opening h pid) (append_assoc history (entry ∷ []) entries)
      ∙ so_far.waits (entry ∷ entries)
      ∙ (λ i. let all = record own { wakes = is i } ∷ looks_from pid (sym (moment_of-push opening history entry) i) entries in
      so_far.over ++ (going_on moment.room.clock row.since all ++ waits_in all))
      ∙ going_on-next moment.room.clock time row.since so_far.over (runs_task moment.room pid) test looks (λ e. wakes_still pid entry (is ∙ e)) quiet so_far.began
      ∙ ap (λ n. over_next test n row.since so_far.over ++ (going_on n (since_next test n row.since) looks ++ waits_in looks)) (sym later)

  go : (test : Bool) → wakes pid entry ≡ test → IsRowSoFar opening now pid (begun_where test (fold_of opening now).clock row)
  go true is =
      record {
        over = so_far.over ++ going_on (fold_of opening now).clock row.since [];
        told = ap (λ (r : TaskWaits). record r { since = Some (fold_of opening now).clock }) (row-ended (fold_of opening now).clock row so_far.over so_far.told);
        began = omega arith;
        waits = rest true is;
      }
  go false is =
      record {
        over = so_far.over;
        told = so_far.told;
        began = still row.since so_far.began;
        waits = rest false is;
      } where
        still : (since : Option ℕ) → IfSome since (λ began. began ≤ moment.room.clock) → IfSome since (λ began. began ≤ (fold_of opening now).clock)
        still None began = tt
        still (Some since) began = omega (arith, began, later)

-- a task that a sibling runs waits no more
row-running : (opening : Opening) (history : History) (pid : ℕ) (row : TaskWaits) → IsRowSoFar opening history pid row → runs_task (fold_of opening history) pid ≡ true →
    IsRowSoFar opening history pid (ended (fold_of opening history).clock row)
row-running opening history pid row so_far is =
    let clock = (fold_of opening history).clock in
    let none = since-ended clock row in
    let over = so_far.over ++ going_on clock row.since [] in
    record {
      over = over;
      told = row-ended clock row so_far.over so_far.told ∙ ap (λ (s : Option ℕ). record (row_of over) { since = s }) (sym none);
      began = subst (λ (s : Option ℕ). IfSome s (λ began. began ≤ clock)) (sym none) tt;
      waits = λ entries. let later = looks_from pid (moment_of opening history) entries in
          so_far.waits entries
          ∙ going_on-over clock row.since so_far.over later (running_waits_no_more pid (moment_of opening history) entries is)
          ∙ ap (λ (s : Option ℕ). over ++ (going_on clock s later ++ waits_in later)) (sym none);
    }

-- ---- all rows

-- what is said of a slice and of a moment that is shown is said of what they are
pub each_begun : (entry : Entry) (clock : ℕ) (slice old new : List TaskWaits) (now : ℕ) → slice ≡ old → clock ≡ now →
    ((pid : ℕ) (none : TaskWaits) → pid < length slice → get_or new pid none ≡ begun_where (wakes pid entry) clock (get_or slice pid none)) →
    (pid : ℕ) (none : TaskWaits) → pid < length old → get_or new pid none ≡ begun_where (wakes pid entry) now (get_or old pid none)
each_begun entry clock slice old new now same is each =
    subst (λ (xs : List TaskWaits). (pid : ℕ) (none : TaskWaits) → pid < length xs → get_or new pid none ≡ begun_where (wakes pid entry) now (get_or xs pid none)) same
    (subst (λ (n : ℕ). (pid : ℕ) (none : TaskWaits) → pid < length slice → get_or new pid none ≡ begun_where (wakes pid entry) n (get_or slice pid none)) is each)

pub each_ended : (clock : ℕ) (slice old new : List TaskWaits) (now : ℕ) → slice ≡ old → clock ≡ now →
    ((pid : ℕ) (none : TaskWaits) → pid < length slice → get_or new pid none ≡ ended clock (get_or slice pid none)) →
    (pid : ℕ) (none : TaskWaits) → pid < length old → get_or new pid none ≡ ended now (get_or old pid none)
each_ended clock slice old new now same is each =
    subst (λ (xs : List TaskWaits). (pid : ℕ) (none : TaskWaits) → pid < length xs → get_or new pid none ≡ ended now (get_or xs pid none)) same
    (subst (λ (n : ℕ). (pid : ℕ) (none : TaskWaits) → pid < length slice → get_or new pid none ≡ ended n (get_or slice pid none)) is each)

-- the rows with the wait of the task that the entry wakes
pub rows-begun : (opening : Opening) (history : History) (entry : Entry) (old : Waits) (rows : List TaskWaits) → AreWaitsBefore opening history entry old →
    length rows ≡ length old.rows →
    ((pid : ℕ) (none : TaskWaits) → pid < length old.rows → get_or rows pid none ≡ begun_where (wakes pid entry) (fold_of opening history).clock (get_or old.rows pid none)) →
    (pid : ℕ) (none : TaskWaits) → pid < length rows → IsRowSoFar opening history pid (get_or rows pid none)
rows-begun opening history entry old rows before long each pid none few =
    let below : pid < length old.rows = omega (arith, few, long) in
    let added = sym before.added in
    subst (IsRowSoFar opening history pid) (sym (each pid none below))
    (subst (λ (h : History). IsRowSoFar opening h pid (begun_where (wakes pid entry) (fold_of opening h).clock (get_or old.rows pid none))) added
    (row-more opening before.past entry pid (get_or old.rows pid none) (before.so_far.each pid none below) (before.so_far.running pid none below)))

-- their waits can be ended at any later moment of a history that goes on
pub rows-can_end : (opening : Opening) (past now : History) (rows : List TaskWaits) → AreEvents opening now → length now < 2 ^ 26 →
    length past ≤ length now → (fold_of opening past).clock ≤ (fold_of opening now).clock →
    ((pid : ℕ) (none : TaskWaits) → pid < length rows → IsRowSoFar opening past pid (get_or rows pid none)) → All (CanEnd (fold_of opening now).clock) rows
rows-can_end opening past now rows events few shorter earlier each pid none below =
    can_end opening past pid (get_or rows pid none) (fold_of opening now).clock (each pid none below) earlier
    (omega (arith, clock-le opening now events, few)) (omega (arith, shorter, few))

-- so those before the last entry can
pub rows-can_end_before : (opening : Opening) (history : History) (entry : Entry) (old : Waits) → AreEvents opening history → length history < 2 ^ 26 →
    AreWaitsBefore opening history entry old → All (CanEnd (fold_of opening history).clock) old.rows
rows-can_end_before opening history entry old events few before =
    let long = ap length before.added ∙ length-append before.past (entry ∷ []) in
    let later = ap (λ (h : History). (fold_of opening h).clock) before.added ∙ clock-push opening before.past entry in
    rows-can_end opening before.past history old.rows events few (omega (arith, long)) (omega (arith, later)) before.so_far.each

-- and those before the entries of the end
pub rows-can_end_at_end : (opening : Opening) (history : History) (old : Waits) → AreEvents opening history → length history < 2 ^ 26 →
    AreWaitsBeforeEnd opening history old → All (CanEnd (fold_of opening history).clock) old.rows
rows-can_end_at_end opening history old events few before =
    let long = ap length before.drained.added ∙ length-append before.past before.drained.made in
    rows-can_end opening before.past history old.rows events few (omega (arith, long)) (omega (arith, clock-drained opening before.past history before.drained)) before.so_far.each

-- the rows with the waits ended of the tasks that siblings run
pub rows-running : (opening : Opening) (history : History) (entries : ℕ) (rows new : List TaskWaits) → length rows ≡ pids_for entries → length new ≡ length rows →
    ((pid : ℕ) (none : TaskWaits) → pid < length rows → IsRowSoFar opening history pid (get_or rows pid none)) →
    ((pid : ℕ) (none : TaskWaits) → pid < length rows → let room = fold_of opening history in get_or new pid none ≡ ended_where (runs_task room pid) room.clock (get_or rows pid none)) →
    AreWaitsSoFar opening history (record { entries = entries; rows = new })
rows-running opening history entries rows new many long so_far each =
    record {
      long = long ∙ many;
      each = λ pid none few. let below : pid < length rows = omega (arith, few, long) in
          subst (IsRowSoFar opening history pid) (sym (each pid none below)) (go pid none below (runs_task (fold_of opening history) pid) refl);
      running = λ pid none few is. let below : pid < length rows = omega (arith, few, long) in
          ap (λ (r : TaskWaits). r.since) (each pid none below ∙ ap (λ (b : Bool). ended_where b (fold_of opening history).clock (get_or rows pid none)) is)
          ∙ since-ended (fold_of opening history).clock (get_or rows pid none);
    } where
      go : (pid : ℕ) (none : TaskWaits) → pid < length rows → (test : Bool) → runs_task (fold_of opening history) pid ≡ test →
          IsRowSoFar opening history pid (ended_where test (fold_of opening history).clock (get_or rows pid none))
      go pid none below true is = row-running opening history pid (get_or rows pid none) (so_far pid none below) is
      go pid none below false is = so_far pid none below

-- after an advance they are what they were, since that lets no other task run
pub rows-advance : (opening : Opening) (history : History) (entry : Entry) (old : Waits) (rows : List TaskWaits) → AreWaitsBefore opening history entry old →
    is_some (advance_of entry.event) ≡ true → length rows ≡ length old.rows →
    ((pid : ℕ) (none : TaskWaits) → pid < length old.rows → get_or rows pid none ≡ begun_where (wakes pid entry) (fold_of opening history).clock (get_or old.rows pid none)) →
    AreWaitsSoFar opening history (record { entries = old.entries; rows = rows })
rows-advance opening history entry old rows before is long each =
    record {
      long = long ∙ before.so_far.long;
      each = rows-begun opening history entry old rows before long each;
      running = λ pid none few runs. let below : pid < length old.rows = omega (arith, few, long) in
          ap (λ (r : TaskWaits). r.since) (each pid none below ∙ ap (λ (b : Bool). begun_where b (fold_of opening history).clock (get_or old.rows pid none)) (advance_wakes_none pid entry is))
          ∙ before.so_far.running pid none below
          (sym (runs-push opening before.past entry pid is) ∙ sym (ap (λ (h : History). runs_task (fold_of opening h) pid) before.added) ∙ runs);
    }

-- ---- the end

-- The entries of the end take no time and wake nobody, so they leave the rows as they are.
pub waits_of-drained : (entries : ℕ) (opening : Opening) (past now : History) → IsDrained opening past now → waits_of entries opening past ≡ waits_of entries opening now
waits_of-drained entries opening past now drained =
    λ i. record {
      entries = entries;
      rows = map (λ pid. row_of (waits_at-drained opening past now pid drained i)) (range_with_len 0 (pids_for entries));
    }

-- the rows, with all waits ended
pub rows-closed : (opening : Opening) (history : History) (old : Waits) (new : List TaskWaits) → AreWaitsBeforeEnd opening history old → length new ≡ length old.rows →
    ((pid : ℕ) (none : TaskWaits) → pid < length old.rows → get_or new pid none ≡ ended (fold_of opening history).clock (get_or old.rows pid none)) →
    record { entries = old.entries; rows = new } ≡ waits_of old.entries opening history
rows-closed opening history old new before long each =
    let past = before.past in
    let so_far = before.so_far in
    let none : TaskWaits = row_of [] in
    let rows = fill_by_all (λ pid. row_of (waits_at opening past pid)) new (pids_for old.entries) none (long ∙ so_far.long)
    (λ pid below. let few : pid < length old.rows = omega (arith, below, so_far.long) in
    each pid none few
    ∙ ap (λ n. ended n (get_or old.rows pid none)) (sym (clock-drained opening past history before.drained))
    ∙ row-closed opening past pid (get_or old.rows pid none) (so_far.each pid none few)) in
    (λ i. record { entries = old.entries; rows = rows i }) ∙ waits_of-drained old.entries opening past history before.drained

-- together the waits of a task are part of the time that it waited
pub sums-le : (entries : ℕ) (opening : Opening) (history : History) (rows : List TaskWaits) → IsPlayable opening.scenario → IsLegal opening history →
    rows ≡ (waits_of entries opening history).rows →
    (pid : ℕ) (none : TaskWaits) → pid < length rows → (get_or rows pid none).sum ≤ time_in (does_so waits pid) (spans_of opening history)
sums-le entries opening history rows playable legal are pid none few =
    let row = row_at (λ k. row_of (waits_at opening history k)) (pids_for entries) rows are pid none few in
    omega (arith, ap (λ (r : TaskWaits). r.sum) row, sum-waits_at_waited opening history pid playable legal)
