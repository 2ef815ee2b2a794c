-- Ends: how each command ends with its own word. When each status comes, what was read for it, and what was written.
use Rattle.std.specs.Prelude.{◌≡◌, ◌≢◌, ◌⊎◌, ℕ, ◌≤◌, List, Some, None, IfSome}
use Rattle.cs_types.specs.declared.scenario.Scenario.{Scenario}
use Rattle.cs_types.specs.Room.{Opening}
use Rattle.cs_types.specs.History.{History, file}
use Rattle.cs_types.specs.Drain.{IsDrained}
use Rattle.cs_outside.specs.Device.{appended, WritesPrefix}
use Rattle.run_summary.specs.Summaries.{IsSummaryOf}
use Rattle.run_segments.specs.declared.segments.Segment.{Segment}
use Rattle.run_segments.specs.Segments.{segments_of}
use Rattle.times_report.specs.Summary.{summary_text}
use Rattle.segment_text.specs.Table.{segments_text}
use Rattle.segment_text.specs.Json.{segments_json_text}
use Rattle.scenario_input.specs.declared.status.Status.{Status}
use Rattle.scenario_input.specs.declared.status.Status.TheVariants.{Done, BadWords, WriteFault}
use Rattle.fault_text.specs.Counts.{counts_text}
use Rattle.fault_text.specs.Faults.{fault_line, BeginsWith}
use Rattle.view_words.specs.declared.command.Command.{Command}
use Rattle.view_words.specs.declared.command.Command.TheVariants as command
use Rattle.scenario_input.specs.Input.{Reads, input_limit, count_read}
use Rattle.scenario_input.specs.Teaching.{first_bad}
use Rattle.scenario_runner.specs.Outcomes.{opened_with}
use Rattle.scenario_runner.specs.Ends.{Used, FaultsRose, IsFaultless, EndsAsReplay}

-- The input was read, without a fault, as the text of this scenario. It is no longer than an input may be, and each of the
-- scenario's teach lines can be carried out, with guards that can be taught so many pairs each.
pub record IsTaken {S : Type 0} (caps : List ℕ) (source : Used S) (scenario : Scenario) : Type 0 where
  pub reads : Reads scenario (source.bytes source.before) (source.bytes source.after)
  pub fits : IfSome (source.bytes source.before) (λ _.
      count_read (source.bytes source.before) (source.bytes source.after) ≤ input_limit)
  pub taught : first_bad caps scenario.teaches ≡ None
  pub faultless : IsFaultless source

-- these are the segments of a history
abbrev pub AreSegmentsOf : Opening → History → List Segment → Type 0
AreSegmentsOf opening history segments = segments ≡ segments_of opening history

-- The input was read as a scenario, and this is told of a replay of it: what that is of a history, `IsOf` says.
pub record IsTold {S T : Type 0} (IsOf : Opening → History → T → Type 0) (caps : List ℕ) (source : Used S) (told : T) : Type 0 where
  pub scenario : Scenario
  pub taken : IsTaken caps source scenario
  -- the history is the file's steps in order, and then the final drain. No other is.
  pub run : History
  pub drained : IsDrained (opened_with caps scenario) (file (opened_with caps scenario)) run
  pub alone : (other : History) → IsDrained (opened_with caps scenario) (file (opened_with caps scenario)) other → other ≡ run
  -- what is told is that of that history
  pub of_run : IsOf (opened_with caps scenario) run told

-- How a command ends that tells something of a run, in this text of it. Out of memory alone is free.
pub record EndsAsTold {S K T : Type 0} (IsOf : Opening → History → T → Type 0) (text : T → List ℕ) (caps : List ℕ) (source : Used S) (sink : Used K) (status : Status) : Type 0 where
  -- if it is done, what was written is what is told of a replay of the input
  pub done : status ≡ Done → IsFaultless sink × ((told : T) × IsTold IsOf caps source told × (sink.bytes sink.after ≡ appended (sink.bytes sink.before) (text told)))
  -- it ends in a write fault only if the sink failed, and then a prefix of that was written
  pub write_fault : status ≡ WriteFault → FaultsRose sink × ((told : T) × IsTold IsOf caps source told × WritesPrefix (sink.bytes sink.before) (text told) (sink.bytes sink.after))
  -- its own word is never bad
  pub good_words : status ≢ BadWords
  -- else nothing is written, and it ends as a replay of the same input ends
  pub stopped : status ≢ Done → status ≢ WriteFault → EndsAsReplay caps source sink status

-- How a command ends that shows a run to a person, as a picture or as a table. What it shows is not said here. Out of memory
-- alone is free.
pub record EndsAsShown {S K : Type 0} (caps : List ℕ) (source : Used S) (sink : Used K) (status : Status) : Type 0 where
  -- if it is done, the input was read as a scenario, and no fault of the sink was counted
  pub done : status ≡ Done → IsFaultless sink × ((scenario : Scenario) × IsTaken caps source scenario)
  -- it ends in a write fault only if the sink failed, and then the input was read as a scenario too
  pub write_fault : status ≡ WriteFault → FaultsRose sink × ((scenario : Scenario) × IsTaken caps source scenario)
  -- its own word is never bad
  pub good_words : status ≢ BadWords
  -- else nothing is written, and it ends as a replay of the same input ends
  pub stopped : status ≢ Done → status ≢ WriteFault → EndsAsReplay caps source sink status

-- the same sink before and after a call that wrote nothing
abbrev pub unwritten : {K : Type 0} → Used K → Used K
unwritten sink = record { bytes = sink.bytes; faults = sink.faults; before = sink.before; after = sink.before }

-- What is written of an input, by how a replay of it ends, that writes nothing: a text that begins with the line of that.
pub record IsExplained {S K : Type 0} (caps : List ℕ) (source : Used S) (sink : Used K) (status : Status) (text : List ℕ) : Type 0 where
  pub replay : EndsAsReplay caps source (unwritten sink) status
  pub line : List ℕ
  pub tells : fault_line status ≡ Some line
  pub begins : BeginsWith line text

-- How a command ends that explains an input. It plays nothing, but takes the input as a replay does. Out of memory alone is
-- free.
pub record EndsAsExplained {S K : Type 0} (caps : List ℕ) (source : Used S) (sink : Used K) (status : Status) : Type 0 where
  -- where it is done, the input was read as a scenario, and what was written is what that has
  pub done : status ≡ Done → IsFaultless sink × ((scenario : Scenario) × IsTaken caps source scenario × (sink.bytes sink.after ≡ appended (sink.bytes sink.before) (counts_text scenario)))
  -- where something is wrong with the input, it ends as a replay does, and what was written begins with the line of that fault
  pub told : (line : List ℕ) → fault_line status ≡ Some line → IsFaultless sink × ((text : List ℕ) × IsExplained caps source sink status text × (sink.bytes sink.after ≡ appended (sink.bytes sink.before) text))
  -- it ends in a write fault only where the sink failed, and then a prefix of one of these was written
  pub write_fault : status ≡ WriteFault → FaultsRose sink
      × (((scenario : Scenario) × IsTaken caps source scenario × WritesPrefix (sink.bytes sink.before) (counts_text scenario) (sink.bytes sink.after))
      ⊎ ((other : Status) × (text : List ℕ) × IsExplained caps source sink other text × WritesPrefix (sink.bytes sink.before) text (sink.bytes sink.after)))
  -- its own word is never bad
  pub good_words : status ≢ BadWords
  -- else nothing is written, and it ends as a replay of the same input ends
  pub stopped : status ≢ Done → status ≢ WriteFault → fault_line status ≡ None → EndsAsReplay caps source sink status

-- how each command ends
abbrev pub EndsBy : {S K : Type 0} → Command → List ℕ → Used S → Used K → Status → Type 0
EndsBy command.Summary caps source sink status = EndsAsTold IsSummaryOf summary_text caps source sink status
EndsBy command.Table caps source sink status = EndsAsShown caps source sink status
EndsBy command.Segments caps source sink status = EndsAsTold AreSegmentsOf segments_text caps source sink status
EndsBy command.SegmentsJson caps source sink status = EndsAsTold AreSegmentsOf segments_json_text caps source sink status
EndsBy command.Picture caps source sink status = EndsAsShown caps source sink status
EndsBy command.Explain caps source sink status = EndsAsExplained caps source sink status
