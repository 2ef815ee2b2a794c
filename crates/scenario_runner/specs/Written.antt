-- Written: what holds once the output of a run was written, or the sink failed.
use Rattle.std.specs.Prelude.{◌≡◌, ◌⊎◌, ℕ, List, All}
use Rattle.cs_types.specs.Room.{Opening}
use Rattle.cs_types.specs.History.{History, history_of}
use Rattle.cs_types.specs.Drain.{IsDrained}
use Rattle.cs_types.specs.declared.event.Step.{Step}
use Rattle.cs_outside.specs.Device.{Rose, appended, WritesPrefix}
use Rattle.scenario_text.specs.Entry.{FitsReply, IsEntry}
use Rattle.room_report.specs.Report.{output_text}
use Rattle.room_drill.specs.Summary.{summary_text}
use Rattle.scenario_input.specs.declared.status.Status.{Status}
use Rattle.scenario_input.specs.declared.status.Status.TheVariants.{Done, WriteFault, OutOfMemory}
use Rattle.sibling_workers.specs.Race.{IsRaced}
use Rattle.scenario_runner.specs.Ends.{Used, IsFaultless}

-- the text was written, or the sink failed
pub record IsWritten {K : Type 0} (sink : Used K) (text : List ℕ) (ended : Status) : Type 0 where
  pub either : (ended ≡ Done) ⊎ (ended ≡ WriteFault)
  pub whole : ended ≡ Done → sink.bytes sink.after ≡ appended (sink.bytes sink.before) text
  pub prefix : WritesPrefix (sink.bytes sink.before) text (sink.bytes sink.after)
  pub faultless : ended ≡ Done → IsFaultless sink
  pub failed : ended ≡ WriteFault → Rose (sink.faults sink.before) (sink.faults sink.after)

-- the output of a run was written, or the sink failed
pub record WritesOutput {K : Type 0} (sink : Used K) (opening : Opening) (run : History) (ended : Status) : Type 0 where
  pub written : IsWritten sink (output_text opening run) ended
  -- no other history has that text
  pub one : (begun : Opening) (other : History) → All IsEntry other → All IsEntry run → output_text begun other ≡ output_text opening run → other ≡ run
  pub numbers : ended ≡ Done → All (λ entry. FitsReply entry.reply) run

-- The steps were made, in their order, and then the entries of the final drain, and that run was written.
pub record WritesReplay {K : Type 0} (opening : Opening) (steps : List Step) (sink : Used K) (ended : Status) : Type 0 where
  pub run : History
  pub drained : IsDrained opening (history_of opening steps) run
  pub output : WritesOutput sink opening run ended

-- The same, but the summary of the run was written, with a seed, and its report.
pub record WritesDrill {K : Type 0} (seed : ℕ) (opening : Opening) (steps : List Step) (sink : Used K) (ended : Status) : Type 0 where
  pub run : History
  pub drained : IsDrained opening (history_of opening steps) run
  pub written : IsWritten sink (summary_text seed opening run) ended

-- A race was run and that run was written.
pub record WritesRace {K : Type 0} (opening : Opening) (sink : Used K) (ended : Status) : Type 0 where
  pub run : History
  pub raced : IsRaced opening run
  pub output : WritesOutput sink opening run ended

-- Or there was no memory for it, and nothing was written.
pub record IsShort {K : Type 0} (sink : Used K) (ended : Status) : Type 0 where
  pub memory : ended ≡ OutOfMemory
  pub unwritten : sink.after ≡ sink.before

-- a race was run and written, or there was no memory for it
abbrev pub MayWriteRace : {K : Type 0} → Opening → Used K → Status → Type 0
MayWriteRace opening sink ended = WritesRace opening sink ended ⊎ IsShort sink ended
