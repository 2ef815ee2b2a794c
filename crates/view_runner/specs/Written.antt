-- Written: what is so once something was told of a run, or the run was drawn, or the sink failed.
use Rattle.std.specs.Prelude.{◌≡◌, ◌⊎◌, ℕ, List, Some, None}
use Rattle.cs_types.specs.declared.event.Step.{Step}
use Rattle.cs_types.specs.Room.{Opening}
use Rattle.cs_types.specs.History.{History, history_of}
use Rattle.cs_types.specs.Drain.{IsDrained}
use Rattle.cs_outside.specs.Device.{Rose, appended, WritesPrefix}
use Rattle.run_segments.specs.declared.segments.Segment.{Segment}
use Rattle.segment_text.specs.Table.{segments_text}
use Rattle.segment_text.specs.Json.{segments_json_text}
use Rattle.scenario_input.specs.declared.status.Status.{Status}
use Rattle.scenario_input.specs.declared.status.Status.TheVariants.{Done, WriteFault, OutOfMemory}
use Rattle.scenario_runner.specs.Ends.{Used, IsFaultless}
use Rattle.scenario_runner.specs.Written.{IsWritten, IsShort}
use Rattle.fault_text.specs.Faults.{fault_line, BeginsWith}
use Rattle.view_runner.specs.Ends.{AreSegmentsOf, EndsAsTold, EndsAsShown}
use Rattle.run_summary.specs.Summaries.{Summary, IsSummaryOf}
use Rattle.times_report.specs.Summary.{summary_text}
use Rattle.view_runner.specs.declared.played.SummaryForm.{SummaryForm}
use Rattle.view_runner.specs.declared.played.SummaryForm.TheVariants as summary_form
use Rattle.view_runner.specs.declared.shown.Form.{Form}
use Rattle.view_runner.specs.declared.shown.Form.TheVariants.{Table, Json, Picture}

-- The steps were made, in their order, and then the final drain, and what is told of that run was written.
pub record WritesTold {K T : Type 0} (IsOf : Opening → History → T → Type 0) (text : T → List ℕ) (opening : Opening) (steps : List Step) (sink : Used K) (ended : Status) : Type 0 where
  pub run : History
  pub drained : IsDrained opening (history_of opening steps) run
  pub told : T
  pub of_run : IsOf opening run told
  pub written : IsWritten sink (text told) ended

-- it was, or there was no memory for it and nothing was written
abbrev pub MayWriteTold : {K T : Type 0} → (Opening → History → T → Type 0) → (T → List ℕ) → Opening → List Step → Used K → Status → Type 0
MayWriteTold IsOf text opening steps sink ended = WritesTold IsOf text opening steps sink ended ⊎ IsShort sink ended

-- A run was shown to a person, or the sink failed, or there was no memory for it and nothing was written.
pub record IsShown {K : Type 0} (sink : Used K) (ended : Status) : Type 0 where
  pub either : (ended ≡ Done) ⊎ ((ended ≡ WriteFault) ⊎ (ended ≡ OutOfMemory))
  pub faultless : ended ≡ Done → IsFaultless sink
  pub failed : ended ≡ WriteFault → Rose (sink.faults sink.before) (sink.faults sink.after)
  pub unwritten : ended ≡ OutOfMemory → sink.after ≡ sink.before

-- ---- explained

-- A text was written of an input that ends so, which begins with the line of that, or the sink failed; or there is no such
-- line, and nothing was written.
pub data Says {K : Type 0} (sink : Used K) (status : Status) : Status → Type 0 where
  said : (line text : List ℕ) → fault_line status ≡ Some line → BeginsWith line text → sink.bytes sink.after ≡ appended (sink.bytes sink.before) text → IsFaultless sink → Says sink status status
  broken_off : (line text : List ℕ) → fault_line status ≡ Some line → BeginsWith line text → WritesPrefix (sink.bytes sink.before) text (sink.bytes sink.after) → Rose (sink.faults sink.before) (sink.faults sink.after) → Says sink status WriteFault
  nothing : fault_line status ≡ None → sink.after ≡ sink.before → Says sink status status

-- ---- the forms

-- these segments were written in a form, or the sink failed
abbrev pub IsFormWritten : {K : Type 0} → Form → List Segment → Used K → Status → Type 0
IsFormWritten Table segments sink ended = IsWritten sink (segments_text segments) ended
IsFormWritten Json segments sink ended = IsWritten sink (segments_json_text segments) ended
IsFormWritten Picture segments sink ended = IsShown sink ended

-- the steps were made, and then the final drain, and the segments of that run were written in a form
abbrev pub MayWriteForm : {K : Type 0} → Form → Opening → List Step → Used K → Status → Type 0
MayWriteForm Table opening steps sink ended = MayWriteTold AreSegmentsOf segments_text opening steps sink ended
MayWriteForm Json opening steps sink ended = MayWriteTold AreSegmentsOf segments_json_text opening steps sink ended
MayWriteForm Picture opening steps sink ended = IsShown sink ended

-- how a command ends that writes them in a form
abbrev pub EndsInForm : {S K : Type 0} → Form → List ℕ → Used S → Used K → Status → Type 0
EndsInForm Table caps source sink status = EndsAsTold AreSegmentsOf segments_text caps source sink status
EndsInForm Json caps source sink status = EndsAsTold AreSegmentsOf segments_json_text caps source sink status
EndsInForm Picture caps source sink status = EndsAsShown caps source sink status

-- ---- the forms of the summary

-- the summary was told in a form, or the sink failed
abbrev pub IsTellingOf : {K : Type 0} → SummaryForm → Summary → Used K → Status → Type 0
IsTellingOf summary_form.Lines told sink ended = IsWritten sink (summary_text told) ended
IsTellingOf summary_form.Table told sink ended = IsShown sink ended

-- the steps were made, and then the final drain, and the summary of that run was told in a form
abbrev pub MayTell : {K : Type 0} → SummaryForm → Opening → List Step → Used K → Status → Type 0
MayTell summary_form.Lines opening steps sink ended = MayWriteTold IsSummaryOf summary_text opening steps sink ended
MayTell summary_form.Table opening steps sink ended = IsShown sink ended

-- how a command ends that tells it in a form
abbrev pub EndsTelling : {S K : Type 0} → SummaryForm → List ℕ → Used S → Used K → Status → Type 0
EndsTelling summary_form.Lines caps source sink status = EndsAsTold IsSummaryOf summary_text caps source sink status
EndsTelling summary_form.Table caps source sink status = EndsAsShown caps source sink status
