-- Outcomes: what the history of a run is, by its command, and what is read and written if that is done, and if the sink
-- failed.
use Rattle.std.specs.Prelude.{◌≡◌, ◌≢◌, ℕ, ◌<◌, ◌≤◌, List, [], ◌∷◌, ◌++◌, length, filter, sum_by, not, All, AllPairs, Option, IfSome}
use Rattle.cs_types.specs.declared.event.Actor.{Actor}
use Rattle.cs_types.specs.declared.event.Actor.TheVariants.{End}
use Rattle.cs_types.specs.declared.reply.Entry.{Entry}
use Rattle.cs_types.specs.declared.scenario.Scenario.{Scenario}
use Rattle.cs_types.specs.Room.{Opening, RoomState}
use Rattle.cs_types.specs.Scenario.{script, is_actor}
use Rattle.cs_types.specs.Accounting.{charged_time, forced_time}
use Rattle.cs_types.specs.View.{forced_of}
use Rattle.cs_types.specs.Touches.{selection_of}
use Rattle.cs_types.specs.History.{History, IsLegal, fold_of, events_by, file}
use Rattle.cs_types.specs.Shuffles.{IsShuffle}
use Rattle.cs_types.specs.Drain.{pending, IsDrained}
use Rattle.cs_types.specs.Laws.{SelectsCoreWide, scheduling_room, cpu_of, IsSettled, RunOneCookie}
use Rattle.cs_outside.specs.Device.{appended, WritesPrefix}
use Rattle.scenario_text.specs.Entry.{IsEntry}
use Rattle.room_report.specs.Report.{output_text}
use Rattle.room_drill.specs.Drill.{drill_scenario}
use Rattle.room_drill.specs.Summary.{summary_text}
use Rattle.scenario_input.specs.Input.{Reads}

-- what a machine begins with that plays a scenario with guards which can be taught this many pairs each
abbrev pub opened_with : List ℕ → Scenario → Opening
opened_with caps scenario = record { scenario = scenario; guards = length caps }

-- The forced-idle totals of a room divide its recorded intervals. What a task was charged is by definition the sum of
-- the shares of the intervals that charge it (`forced_of`). What is promised is that this divides them: each lasted for
-- some time, no share is divided by 0, and no interval charges more than its forced-idle time. So what distinct tasks
-- were charged is together no more than the forced-idle time of all intervals.
pub record DividesIntervals (room : RoomState) : Type 0 where
  pub lasts : All (λ interval. interval.from < interval.to) room.intervals
  pub divisors : All (λ interval. 0 < interval.occupation) room.intervals
  pub no_more : All (λ interval. charged_time interval ≤ forced_time interval) room.intervals
  pub together : (pids : List ℕ) → AllPairs (λ one other. one ≢ other) pids → sum_by (forced_of room) pids ≤ sum_by forced_time room.intervals

-- What holds of the history of each run.
pub record IsPlayed (opening : Opening) (run : History) : Type 0 where
  -- it is legal, and each sibling and each caller made its script in it
  pub legal : IsLegal opening run
  pub scripts : (actor : Actor) → actor ≢ End → events_by actor run ≡ script opening.scenario actor
  -- at each moment of it each online sibling without a pending reschedule runs idle or a living task with the core
  -- cookie
  pub trust : (past rest : History) → run ≡ past ++ rest → IsSettled (fold_of opening past)
  -- each core-wide selection takes a highest task, and gives each sibling only a task with its cookie, or idle
  pub selections : (past : History) (entry : Entry) (rest : History) → run ≡ past ++ entry ∷ rest →
      IfSome (selection_of entry.reply) (λ pick.
      SelectsCoreWide (scheduling_room (fold_of opening past) entry.event) (cpu_of entry.event) pick (fold_of opening (past ++ entry ∷ [])))
  -- at each moment the forced-idle totals divide the recorded intervals
  pub totals : (past rest : History) → run ≡ past ++ rest → DividesIntervals (fold_of opening past)
  -- at its end no sibling is pending, and all that do not run idle run living tasks with one cookie
  pub nobody_pending : pending (fold_of opening run) ≡ []
  pub one_cookie : RunOneCookie (fold_of opening run)

-- The history is that of a replay: the file's steps in order, and then the entries of the final drain. No other is.
pub record IsReplayHistory (opening : Opening) (run : History) : Type 0 where
  pub drained : IsDrained opening (file opening) run
  pub alone : (other : History) → IsDrained opening (file opening) other → other ≡ run
  pub played : IsPlayed opening run

-- the entries of a history that are not of the final drain
abbrev pub before_end : History → History
before_end history = filter (λ entry. not (is_actor entry.actor End)) history

-- The history is that of a race: a legal shuffle of all scripts, and then the entries of the final drain. After that
-- shuffle no other is.
pub record IsRaceHistory (opening : Opening) (run : History) : Type 0 where
  pub shuffled : History
  -- it is what the history has before the entries of the final drain
  pub before : shuffled ≡ before_end run
  pub legal : IsLegal opening shuffled
  pub shuffle : IsShuffle opening.scenario shuffled
  pub drained : IsDrained opening shuffled run
  pub alone : (other : History) → IsDrained opening shuffled other → other ≡ run
  pub played : IsPlayed opening run

-- The input was read as a scenario, and what was written is the output of a run of it: the line of each entry, and its
-- report. So the text spells the run.
pub record Outputs (IsOutcome : Opening → History → Type 0) (opening : Opening) (input left written now : Option (List ℕ)) : Type 0 where
  pub reads : Reads opening.scenario input left
  pub run : History
  pub outcome : IsOutcome opening run
  pub writes : now ≡ appended written (output_text opening run)
  -- what its entries are of: steps that are made, and replies whose numbers have 64 bits
  pub entries : All IsEntry run
  -- that is the output of no other history of such entries, whatever it begins with
  pub spelled : (begun : Opening) (other : History) → All IsEntry other → output_text begun other ≡ output_text opening run → other ≡ run

-- Or a prefix of that output was written.
pub record BreaksOff (IsOutcome : Opening → History → Type 0) (opening : Opening) (input left written now : Option (List ℕ)) : Type 0 where
  pub reads : Reads opening.scenario input left
  pub run : History
  pub outcome : IsOutcome opening run
  pub writes : WritesPrefix written (output_text opening run) now

-- what a machine begins with that plays the drill of a seed: no guard is handed in
abbrev pub drill_opening : ℕ → Opening
drill_opening seed = record { scenario = drill_scenario seed; guards = 0 }

-- What was written is the output of a drill: the summary of a replay of its scenario, and its report.
pub record DrillOutputs (seed : ℕ) (written now : Option (List ℕ)) : Type 0 where
  pub run : History
  pub outcome : IsReplayHistory (drill_opening seed) run
  pub writes : now ≡ appended written (summary_text seed (drill_opening seed) run)

-- Or a prefix of that output was written.
pub record DrillBreaksOff (seed : ℕ) (written now : Option (List ℕ)) : Type 0 where
  pub run : History
  pub outcome : IsReplayHistory (drill_opening seed) run
  pub writes : WritesPrefix written (summary_text seed (drill_opening seed) run) now
