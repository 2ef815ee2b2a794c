-- Rows: what is told of the waits of each task.
use Rattle.std.specs.Prelude.{◌≡◌, ℕ, ◌+◌, ◌-◌, ◌<◌, ◌≤◌, ◌^◌, max, Bool, true, if◌then◌else◌, List, [], ◌∷◌, ◌++◌, length, map, fold, sum, Option, Some, None, IfSome, slice_index_or}
use Rattle.std.specs.List.{range_with_len}
use Rattle.std.specs.Option.{option_map, option_map_or, option_to_list}
use Rattle.cs_types.specs.declared.reply.Entry.{Entry}
use Rattle.cs_types.specs.Room.{Opening}
use Rattle.cs_types.specs.History.{History, moment_of, fold_of}
use Rattle.cs_types.specs.Drain.{IsDrained}
use Rattle.task_times.specs.TaskSums.{pids_for}
use Rattle.wait_times.specs.declared.rows.TaskWaits.{TaskWaits}
use Rattle.wait_times.specs.Waits.{Look, runs_task, looks_from, wait_before, waits_in, waits_at}

-- ---- a run

-- what is told of the waits of a run
pub record Waits : Type 0 where
  -- how many entries it was opened for
  pub entries : ℕ
  -- the waits of each task, by its pid
  pub rows : List TaskWaits

-- the row of a task that had these waits: how many there were, the longest, 0 if there was none, and their sum
abbrev pub row_of : List ℕ → TaskWaits
row_of waits = record { count = length waits; longest = fold max 0 waits; sum = sum waits; since = None }

-- the waits of a history at its end: a row for each task that there can be with this many entries
abbrev pub waits_of : ℕ → Opening → History → Waits
waits_of entries opening history =
    record {
      entries = entries;
      rows = map (λ pid. row_of (waits_at opening history pid)) (range_with_len 0 (pids_for entries));
    }

-- ---- a run that goes on

-- the wait that goes on since a moment of the clock, if one does: what it took until now, and what it takes in these
-- entries
abbrev pub going_on : ℕ → Option ℕ → List Look → List ℕ
going_on clock since later = option_to_list (option_map (λ began. clock - began + wait_before later) since)

-- This is the row of a task after a history that goes on. It tells the waits that are over, and since when one goes on.
-- Whatever entries come, the waits are those that are over, the one that goes on, and those that begin in these
-- entries.
pub record IsRowSoFar (opening : Opening) (history : History) (pid : ℕ) (row : TaskWaits) : Type 0 where
  pub over : List ℕ
  pub told : row ≡ record (row_of over) { since = row.since }
  pub began : IfSome row.since (λ began. began ≤ (fold_of opening history).clock)
  pub waits : (entries : List Entry) → let later = looks_from pid (moment_of opening history) entries in
      waits_at opening (history ++ entries) pid ≡ over ++ (going_on (fold_of opening history).clock row.since later ++ waits_in later)

-- These are the rows after a history that goes on. A task that a sibling runs does not wait.
pub record AreWaitsSoFar (opening : Opening) (history : History) (waits : Waits) : Type 0 where
  pub long : length waits.rows ≡ pids_for waits.entries
  pub each : (pid : ℕ) (none : TaskWaits) → pid < length waits.rows → IsRowSoFar opening history pid (slice_index_or waits.rows pid none)
  pub running : (pid : ℕ) (none : TaskWaits) → pid < length waits.rows → runs_task (fold_of opening history) pid ≡ true →
      (slice_index_or waits.rows pid none).since ≡ None

-- These are the rows before this entry, which is the last of the history.
pub record AreWaitsBefore (opening : Opening) (history : History) (entry : Entry) (waits : Waits) : Type 0 where
  pub past : History
  pub added : history ≡ past ++ entry ∷ []
  pub so_far : AreWaitsSoFar opening past waits

-- These are the rows before the entries of the final drain, which are the last of the history.
pub record AreWaitsBeforeEnd (opening : Opening) (history : History) (waits : Waits) : Type 0 where
  pub past : History
  pub drained : IsDrained opening past history
  pub so_far : AreWaitsSoFar opening past waits

-- ---- one wait

-- a wait that goes on can be ended at this moment of the clock, and told in the row
abbrev pub CanEnd : ℕ → TaskWaits → Type 0
CanEnd clock row =
    IfSome row.since (λ began. (began ≤ clock) × (row.count + 1 < 2 ^ 32) × (row.sum + (clock - began) < 2 ^ 64))

-- the row with a wait more that is over
abbrev pub with_wait : ℕ → TaskWaits → TaskWaits
with_wait wait row = record { count = row.count + 1; longest = max row.longest wait; sum = row.sum + wait; since = None }

-- the row with the wait that goes on ended, if one does
abbrev pub ended : ℕ → TaskWaits → TaskWaits
ended clock row = option_map_or (λ began. with_wait (clock - began) row) row.since row

-- the row with a wait that begins
abbrev pub begun : ℕ → TaskWaits → TaskWaits
begun clock row = record (ended clock row) { since = Some clock }

-- the rows with that done if the test says so
abbrev pub ended_where : Bool → ℕ → TaskWaits → TaskWaits
ended_where test clock row = if test then ended clock row else row

abbrev pub begun_where : Bool → ℕ → TaskWaits → TaskWaits
begun_where test clock row = if test then begun clock row else row
