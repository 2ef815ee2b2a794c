-- Endings: how the command ends, status by status.
use Rattle.std.proofs.Common.{◌≡◌, ◌∙◌, sym, refl, ℕ, ◌-◌, ◌^◌, ◌<◌, List, subst, inl, inr, arith}
use Rattle.std.specs.Prelude.{◌↔◌, ◌≤◌, Option, Some, None, IfSome, Result, Ok, Err}
use Rattle.cs_types.specs.declared.event.Step.{Step}
use Rattle.cs_types.specs.declared.scenario.Scenario.{Scenario}
use Rattle.cs_types.specs.Room.{Opening}
use Rattle.cs_types.specs.History.{History, file, history_of}
use Rattle.cs_types.specs.Drain.{IsDrained}
use Rattle.cs_laws.proofs.Drains.{drained_alone}
use Rattle.run_segments.specs.declared.segments.Segment.{Segment}
use Rattle.scenario_input.specs.declared.stop.Stop.{Stop}
use Rattle.scenario_input.specs.declared.stop.Stop.TheVariants.{TooLong}
use Rattle.scenario_input.specs.declared.stop.Stop.TheVariants as stops
use Rattle.scenario_input.specs.Input.{Reads, input_limit}
use Rattle.scenario_input.specs.Teaching.{first_bad}
use Rattle.scenario_input.specs.declared.status.Status.{Status}
use Rattle.scenario_input.specs.declared.status.Status.TheVariants as status
use Rattle.scenario_input.specs.Stop.{status_of}
use Rattle.scenario_input.proofs.Stops.{stop_not_done, stop_not_words, stop_not_write}
use Rattle.scenario_runner.specs.Outcomes.{opened_with, IsReplayHistory}
use Rattle.scenario_runner.specs.Ends.{Used}
use Rattle.scenario_runner.proofs.Endings.{HasRead, ends_stopped, ends_short}
use Rattle.scenario_runner.specs.Written.{IsWritten}
use Rattle.segment_text.specs.Table.{segments_text}
use Rattle.segment_text.specs.Json.{segments_json_text}
use Rattle.view_runner.specs.Ends.{IsTaken, AreSegmentsOf, IsTold, EndsAsTold, EndsAsShown}
use Rattle.run_summary.specs.Summaries.{Summary, IsSummaryOf}
use Rattle.times_report.specs.Summary.{summary_text}
use Rattle.view_runner.specs.Written.{WritesTold, MayWriteTold, IsShown, IsFormWritten, MayWriteForm, EndsInForm, IsTellingOf, MayTell, EndsTelling}
use Rattle.view_runner.specs.declared.played.SummaryForm.{SummaryForm}
use Rattle.view_runner.specs.declared.played.SummaryForm.TheVariants as summary_form
use Rattle.view_runner.specs.declared.shown.Form.{Form}
use Rattle.view_runner.specs.declared.shown.Form.TheVariants.{Table, Json, Picture}

-- ---- what was read

not_both : {T E : Type 0} (read : Result T E) (value : T) (error : E) → read ≡ Ok value → read ≡ Err error → ⊥
not_both read value error is other = cc

-- what was read as a scenario is no longer than an input may be
fits_where : {T : Type 0} (told : Option (List ℕ)) (count : ℕ) (read : Result T Stop) (value : T) → read ≡ Ok value →
    IfSome told (λ _. (read ≡ Err TooLong) ↔ (input_limit < count)) → IfSome told (λ _. count ≤ input_limit)
fits_where None count read value is long = tt
fits_where (Some left) count read value is long = omega (arith, λ (past : input_limit < count). not_both read value TooLong is (long.1 past))

-- ---- how it ends

-- what is known of the scenario that was read, and of what a room of it begins with
pub record IsOpened {S : Type 0} (caps : List ℕ) (source : Used S) (scenario : Scenario) (opening : Opening) : Type 0 where
  pub reads : Reads scenario (source.bytes source.before) (source.bytes source.after)
  pub taught : first_bad caps scenario.teaches ≡ None
  pub begins : opening ≡ opened_with caps scenario

-- what was read of the input
pub is_taken : {S T : Type 0} (caps : List ℕ) (source : Used S) (read : Result T Stop) (value : T) (scenario : Scenario) (opening : Opening) →
    HasRead caps source read → read ≡ Ok value → IsOpened caps source scenario opening → IsTaken caps source scenario
is_taken caps source read value scenario opening has is opened =
    record {
      reads = opened.reads;
      fits = fits_where (source.bytes source.before) _ read value is has.devices.too_long;
      taught = opened.taught;
      faultless = has.devices.faultless (not_both read value stops.ReadFault is);
    }

-- ---- how a command ends that tells something of a run

module _ {T : Type 0} (IsOf : Opening → History → T → Type 0) (text : T → List ℕ) where
  -- what is told is that of the one run of what was read
  is_told : {S K V : Type 0} (caps : List ℕ) (source : Used S) (sink : Used K) (read : Result V Stop) (value : V) (scenario : Scenario) (steps : List Step) (ended : Status) →
      HasRead caps source read → read ≡ Ok value → IsOpened caps source scenario (opened_with caps scenario) → steps ≡ scenario.steps →
      (writes : WritesTold IsOf text (opened_with caps scenario) steps sink ended) → IsTold IsOf caps source writes.told
  is_told caps source sink read value scenario steps ended has is opened all writes =
      let of = opened_with caps scenario in
      let drained = subst (λ (s : List Step). IsDrained of (history_of of s) writes.run) all writes.drained in
      record {
        scenario = scenario;
        taken = is_taken caps source read value scenario of has is opened;
        run = writes.run;
        drained = drained;
        alone = λ other too. drained_alone of (file of) other writes.run too drained;
        of_run = writes.of_run;
      }

  -- it was written, or the sink failed
  ends_written : {S K : Type 0} (caps : List ℕ) (source : Used S) (sink : Used K) (told : T) (ended : Status) → IsTold IsOf caps source told → sink.faults sink.before < 2 ^ 64 - 1 →
      IsWritten sink (text told) ended → EndsAsTold IsOf text caps source sink ended
  ends_written caps source sink told ended is few written =
      record {
        done = λ e. (written.faultless e, (told, is, written.whole e));
        write_fault = λ e. (omega (arith, written.failed e, few), (told, is, written.prefix));
        good_words = λ bad. elim written.either [
          | inl done ↦ let wrong : status.BadWords ≡ status.Done = sym bad ∙ done in absurd cc
          | inr fault ↦ let wrong : status.BadWords ≡ status.WriteFault = sym bad ∙ fault in absurd cc
        ];
        stopped = λ not_done not_fault. elim written.either [
          | inl done ↦ absurd (not_done done)
          | inr fault ↦ absurd (not_fault fault)
        ];
      }

  -- the input was played, or there was no memory for that
  pub ends_told : {S K V : Type 0} (caps : List ℕ) (source : Used S) (sink : Used K) (read : Result V Stop) (value : V) (scenario : Scenario) (opening : Opening) (steps : List Step) (ended : Status) →
      HasRead caps source read → read ≡ Ok value → IsOpened caps source scenario opening → steps ≡ scenario.steps → sink.faults sink.before < 2 ^ 64 - 1 →
      MayWriteTold IsOf text opening steps sink ended → EndsAsTold IsOf text caps source sink ended
  ends_told caps source sink read value scenario opening steps ended has is opened all few (inl writes) =
      let told = subst (λ (o : Opening). WritesTold IsOf text o steps sink ended) opened.begins writes in
      let of = subst (IsOpened caps source scenario) opened.begins opened in
      ends_written caps source sink told.told ended (is_told caps source sink read value scenario steps ended has is of all told) few told.written
  ends_told caps source sink read value scenario opening steps ended has is opened all few (inr short) =
      rw short.memory
      (record {
        done = λ e. absurd cc;
        write_fault = λ e. absurd cc;
        good_words = λ e. absurd cc;
        stopped = λ _ _. ends_short IsReplayHistory caps source sink read value status.OutOfMemory has is (record { memory = refl; unwritten = short.unwritten });
      })

  -- the input was not played
  pub ends_refused : {S K V : Type 0} (caps : List ℕ) (source : Used S) (sink : Used K) (read : Result V Stop) (stop : Stop) →
      HasRead caps source read → read ≡ Err stop → sink.after ≡ sink.before → EndsAsTold IsOf text caps source sink (status_of stop)
  ends_refused caps source sink read stop has is same =
      record {
        done = λ e. absurd (stop_not_done stop e);
        write_fault = λ e. absurd (stop_not_write stop e);
        good_words = λ e. absurd (stop_not_words stop e);
        stopped = λ _ _. ends_stopped IsReplayHistory caps source sink read stop has is same;
      }

-- ---- how a command ends that shows a run to a person

-- the input was played
ends_shown : {S K T : Type 0} (caps : List ℕ) (source : Used S) (sink : Used K) (read : Result T Stop) (value : T) (scenario : Scenario) (opening : Opening) (ended : Status) →
    HasRead caps source read → read ≡ Ok value → IsOpened caps source scenario opening → sink.faults sink.before < 2 ^ 64 - 1 → IsShown sink ended →
    EndsAsShown caps source sink ended
ends_shown caps source sink read value scenario opening ended has is opened few shown =
    let taken = is_taken caps source read value scenario opening has is opened in
    record {
      done = λ e. (shown.faultless e, (scenario, taken));
      write_fault = λ e. (omega (arith, shown.failed e, few), (scenario, taken));
      good_words = λ bad. elim shown.either [
        | inl done ↦ let wrong : status.BadWords ≡ status.Done = sym bad ∙ done in absurd cc
        | inr (inl fault) ↦ let wrong : status.BadWords ≡ status.WriteFault = sym bad ∙ fault in absurd cc
        | inr (inr memory) ↦ let wrong : status.BadWords ≡ status.OutOfMemory = sym bad ∙ memory in absurd cc
      ];
      stopped = λ not_done not_fault. elim shown.either [
        | inl done ↦ absurd (not_done done)
        | inr (inl fault) ↦ absurd (not_fault fault)
        | inr (inr memory) ↦
            ends_short IsReplayHistory caps source sink read value ended has is (record { memory = memory; unwritten = shown.unwritten memory })
      ];
    }

-- the input was not played
ends_unshown : {S K T : Type 0} (caps : List ℕ) (source : Used S) (sink : Used K) (read : Result T Stop) (stop : Stop) →
    HasRead caps source read → read ≡ Err stop → sink.after ≡ sink.before → EndsAsShown caps source sink (status_of stop)
ends_unshown caps source sink read stop has is same =
    record {
      done = λ e. absurd (stop_not_done stop e);
      write_fault = λ e. absurd (stop_not_write stop e);
      good_words = λ e. absurd (stop_not_words stop e);
      stopped = λ _ _. ends_stopped IsReplayHistory caps source sink read stop has is same;
    }

-- ---- how a command ends that writes a form

-- the input was played
pub ends_in_form : {S K T : Type 0} (form : Form) (caps : List ℕ) (source : Used S) (sink : Used K) (read : Result T Stop) (value : T) (scenario : Scenario) (opening : Opening) (steps : List Step) (ended : Status) →
    HasRead caps source read → read ≡ Ok value → IsOpened caps source scenario opening → steps ≡ scenario.steps → sink.faults sink.before < 2 ^ 64 - 1 →
    MayWriteForm form opening steps sink ended → EndsInForm form caps source sink ended
ends_in_form Table caps source sink read value scenario opening steps ended has is opened all few writes =
    ends_told AreSegmentsOf segments_text caps source sink read value scenario opening steps ended has is opened all few writes
ends_in_form Json caps source sink read value scenario opening steps ended has is opened all few writes =
    ends_told AreSegmentsOf segments_json_text caps source sink read value scenario opening steps ended has is opened all few writes
ends_in_form Picture caps source sink read value scenario opening steps ended has is opened all few writes =
    ends_shown caps source sink read value scenario opening ended has is opened few writes

-- the input was not played
pub ends_in_no_form : {S K T : Type 0} (form : Form) (caps : List ℕ) (source : Used S) (sink : Used K) (read : Result T Stop) (stop : Stop) →
    HasRead caps source read → read ≡ Err stop → sink.after ≡ sink.before → EndsInForm form caps source sink (status_of stop)
ends_in_no_form Table caps source sink read stop has is same = ends_refused AreSegmentsOf segments_text caps source sink read stop has is same
ends_in_no_form Json caps source sink read stop has is same = ends_refused AreSegmentsOf segments_json_text caps source sink read stop has is same
ends_in_no_form Picture caps source sink read stop has is same = ends_unshown caps source sink read stop has is same

-- these segments of the run were written in a form, or the sink failed
pub written_in_form : {K : Type 0} (form : Form) (opening : Opening) (steps : List Step) (sink : Used K) (ended : Status) (run : History) (segments : List Segment) →
    IsDrained opening (history_of opening steps) run → AreSegmentsOf opening run segments → IsFormWritten form segments sink ended → MayWriteForm form opening steps sink ended
written_in_form Table opening steps sink ended run segments drained of_run written = inl (record { run = run; drained = drained; told = segments; of_run = of_run; written = written })
written_in_form Json opening steps sink ended run segments drained of_run written = inl (record { run = run; drained = drained; told = segments; of_run = of_run; written = written })
written_in_form Picture opening steps sink ended run segments drained of_run shown = shown

-- ---- how a command ends that tells the summary in a form

-- the input was played
pub ends_telling : {S K T : Type 0} (form : SummaryForm) (caps : List ℕ) (source : Used S) (sink : Used K) (read : Result T Stop) (value : T) (scenario : Scenario) (opening : Opening) (steps : List Step) (ended : Status) →
    HasRead caps source read → read ≡ Ok value → IsOpened caps source scenario opening → steps ≡ scenario.steps → sink.faults sink.before < 2 ^ 64 - 1 →
    MayTell form opening steps sink ended → EndsTelling form caps source sink ended
ends_telling summary_form.Lines caps source sink read value scenario opening steps ended has is opened all few writes =
    ends_told IsSummaryOf summary_text caps source sink read value scenario opening steps ended has is opened all few writes
ends_telling summary_form.Table caps source sink read value scenario opening steps ended has is opened all few writes =
    ends_shown caps source sink read value scenario opening ended has is opened few writes

-- the input was not played
pub ends_not_telling : {S K T : Type 0} (form : SummaryForm) (caps : List ℕ) (source : Used S) (sink : Used K) (read : Result T Stop) (stop : Stop) →
    HasRead caps source read → read ≡ Err stop → sink.after ≡ sink.before → EndsTelling form caps source sink (status_of stop)
ends_not_telling summary_form.Lines caps source sink read stop has is same = ends_refused IsSummaryOf summary_text caps source sink read stop has is same
ends_not_telling summary_form.Table caps source sink read stop has is same = ends_unshown caps source sink read stop has is same

-- this summary of the run was told in a form, or the sink failed
pub told_in_form : {K : Type 0} (form : SummaryForm) (opening : Opening) (steps : List Step) (sink : Used K) (ended : Status) (run : History) (told : Summary) →
    IsDrained opening (history_of opening steps) run → IsSummaryOf opening run told → IsTellingOf form told sink ended → MayTell form opening steps sink ended
told_in_form summary_form.Lines opening steps sink ended run told drained of_run written = inl (record { run = run; drained = drained; told = told; of_run = of_run; written = written })
told_in_form summary_form.Table opening steps sink ended run told drained of_run shown = shown

-- there was no memory for it
pub told_short : {K : Type 0} (form : SummaryForm) (opening : Opening) (steps : List Step) (sink : Used K) → sink.after ≡ sink.before → MayTell form opening steps sink status.OutOfMemory
told_short summary_form.Lines opening steps sink same = inr (record { memory = refl; unwritten = same })
told_short summary_form.Table opening steps sink same =
    record {
      either = inr (inr refl);
      faultless = λ done. let wrong : status.OutOfMemory ≡ status.Done = done in absurd cc;
      failed = λ fault. let wrong : status.OutOfMemory ≡ status.WriteFault = fault in absurd cc;
      unwritten = λ _. same;
    }
