-- Endings: what holds of a run, status by status.
use Rattle.std.proofs.Common.{◌≡◌, ◌≢◌, ℕ, ◌+◌, ◌-◌, ◌^◌, ◌<◌, ◌≤◌, List, ◌++◌, length, refl, sym, inl, inr, ap, ◌∙◌, subst, arith}
use Rattle.std.specs.Prelude.{◌⊎◌, ◌↔◌, Option, Some, None, IfSome, Result, Ok, Err, All}
use Rattle.cs_types.specs.declared.scenario.Scenario.{Scenario}
use Rattle.cs_outside.specs.Device.{Rose}
use Rattle.room_report.specs.Report.{output_text}
use Rattle.scenario_text.specs.declared.fault.BadKind.{BadKind}
use Rattle.scenario_input.specs.declared.stop.Stop.{Stop}
use Rattle.scenario_input.specs.declared.stop.Stop.TheVariants.{ReadFault, TooLong, BadScenario, BadGuard, OutOfMemory}
use Rattle.scenario_input.specs.declared.stop.GuardKind.{GuardKind}
use Rattle.scenario_input.specs.Teaching.{BadTeach, first_bad}
use Rattle.cs_types.specs.Scenario.{IsValid}
use Rattle.scenario_text.specs.Text.{scenario_text}
use Rattle.scenario_text.specs.Faults.{lines_in, IsFirstBad}
use Rattle.scenario_text.proofs.Scenarios.{none_of}
use Rattle.scenario_text.specs.Entry.{IsMade, IsEntry}
use Rattle.std.proofs.lemmas.List.{append-nil}
use Rattle.scenario_input.specs.declared.status.Status.{Status}
use Rattle.scenario_input.specs.declared.status.Status.TheVariants as status
use Rattle.scenario_input.specs.Input.{Reads, IsBad, input_limit, count_read}
use Rattle.scenario_input.specs.Stop.{status_of}
use Rattle.scenario_input.proofs.Inputs.{read_bytes}
use Rattle.scenario_input.proofs.Stops.{stop_not_done, stop_not_words, stop_not_write, stop_read, stop_long, stop_bad, stop_guard}
use Rattle.scenario_input.proofs.Completes.{stop_complete}
use Rattle.cs_types.specs.Room.{Opening}
use Rattle.cs_types.specs.History.{History}
use Rattle.scenario_runner.specs.Outcomes.{opened_with, Outputs, BreaksOff}
use Rattle.scenario_runner.specs.Written.{WritesOutput, IsShort}
use Rattle.scenario_runner.specs.Ends.{Used, FaultsRose, IsFaultless, ReadsAndWrites, IsBadGuard, EndsAs}

-- ---- what is known once the input was read, or was not

pub record HasReadInput {S T : Type 0} (limit : ℕ) (source : Used S) (read : Result T Stop) : Type 0 where
  pub faultless : read ≢ Err ReadFault → IsFaultless source
  pub failed : read ≡ Err ReadFault → Rose (source.faults source.before) (source.faults source.after)
  pub few : source.faults source.before < 2 ^ 64 - 1
  pub too_long : IfSome (source.bytes source.before) (λ _.
      (read ≡ Err TooLong) ↔ (limit < count_read (source.bytes source.before) (source.bytes source.after)))
  pub most : IfSome (source.bytes source.before) (λ _.
      count_read (source.bytes source.before) (source.bytes source.after) ≤ limit + 1)

pub record HasRead {S T : Type 0} (caps : List ℕ) (source : Used S) (read : Result T Stop) : Type 0 where
  pub devices : HasReadInput input_limit source read
  pub bad : (line : ℕ) (kind : BadKind) → read ≡ Err (BadScenario line kind) →
      IsBad line kind (source.bytes source.before) (source.bytes source.after)
  pub first : (bytes : List ℕ) (line : ℕ) (kind : BadKind) → source.bytes source.before ≡ Some bytes → length bytes ≤ input_limit →
      IsFirstBad (lines_in bytes) line kind → read ≢ Err ReadFault → (read ≡ Err (BadScenario line kind)) ⊎ (read ≡ Err OutOfMemory)
  pub bad_guard : (line : ℕ) (kind : GuardKind) → read ≡ Err (BadGuard line kind) →
      IsBadGuard caps line kind (source.bytes source.before) (source.bytes source.after)

-- the step of each entry is one that is made
abbrev pub AreMade : History → Type 0
AreMade run = All (λ entry. IsMade entry.actor entry.event) run

pub not_both : {T E : Type 0} (read : Result T E) (value : T) (error : E) → read ≡ Ok value → read ≡ Err error → ⊥
not_both read value error is other = cc

-- ---- clauses on a source that tells its bytes

pub same_where_told : (told : Option (List ℕ)) {A B : Type 0} (C : Type 0) → (A → B) → (B → A) → IfSome told (λ _. A ↔ C) → IfSome told (λ _. B ↔ C)
same_where_told None C to back is = tt
same_where_told (Some left) C to back is = (λ b. is.0 (back b), λ c. to (is.1 c))

pub same_error : {T E : Type 0} (read : Result T E) (one other : E) → read ≡ Err one → read ≡ Err other → one ≡ other
same_error read one other is too = cc

-- ---- the one scenario of an input

-- An input that is the text of one scenario, and was read as another's, is that of one.
same_scenario : (scenario other : Scenario) (input left : Option (List ℕ)) → input ≡ Some (scenario_text scenario) → IsValid scenario → Reads other input left → scenario ≡ other
same_scenario scenario other input None text valid reads = let wrong : Some (scenario_text scenario) ≡ None = sym text ∙ reads.read.0 in absurd cc
same_scenario scenario other input (Some left) text valid reads =
    let is : Some (scenario_text scenario) ≡ Some (scenario_text other ++ left) = sym text ∙ reads.read.0 in
    let told : scenario_text scenario ≡ scenario_text other ++ left = cc in
    reads.alone scenario valid (told ∙ ap (λ (rest : List ℕ). scenario_text other ++ rest) reads.read.1 ∙ append-nil (scenario_text other))

-- An input with a bad line was not read as a scenario's.
pub not_bad : (other : Scenario) (bytes : List ℕ) (line : ℕ) (kind : BadKind) (input left : Option (List ℕ)) → input ≡ Some bytes → IsFirstBad (lines_in bytes) line kind → ¬ (Reads other input left)
not_bad other bytes line kind input left told bad reads =
    none_of bytes line kind bad other (record { valid = reads.valid; text = sym (read_bytes input left bytes (scenario_text other) told reads.read) })

-- So one of whose lines the first is bad was not taught.
not_taught : (caps : List ℕ) (scenario other : Scenario) (bad : BadTeach) (input left : Option (List ℕ)) → input ≡ Some (scenario_text scenario) → IsValid scenario → Reads other input left →
    first_bad caps scenario.teaches ≡ Some bad → first_bad caps other.teaches ≡ None → ⊥
not_taught caps scenario other bad input left text valid reads one all =
    let wrong : Some bad ≡ None = sym one ∙ ap (λ (s : Scenario). first_bad caps s.teaches) (same_scenario scenario other input left text valid reads) ∙ all in absurd cc

-- The first bad line that is told is the one.
first_told : (caps : List ℕ) (scenario : Scenario) (line : ℕ) (kind : GuardKind) (input left : Option (List ℕ)) → input ≡ Some (scenario_text scenario) → IsValid scenario →
    IsBadGuard caps line kind input left → first_bad caps scenario.teaches ≡ Some (record { line = line; kind = kind })
first_told caps scenario line kind input left text valid bad =
    ap (λ (s : Scenario). first_bad caps s.teaches) (same_scenario scenario bad.scenario input left text valid bad.reads) ∙ bad.first

pub both_none : (bad : Option BadTeach) (one : BadTeach) → bad ≡ Some one → bad ≡ None → ⊥
both_none bad one some none = let wrong : Some one ≡ None = sym some ∙ none in absurd cc

as_told : (line : ℕ) (kind : GuardKind) (bad : BadTeach) → Some (record { line = line; kind = kind }) ≡ Some bad → status.BadGuard line kind ≡ status.BadGuard bad.line bad.kind
as_told line kind bad same = let is : record { line = line; kind = kind } ≡ bad = cc in ap (λ (b : BadTeach). status.BadGuard b.line b.kind) is

-- ---- how the devices are used

module _ {S K T : Type 0} (limit : ℕ) (source : Used S) (sink : Used K) (read : Result T Stop) where
  pub devices_done : (value : T) → HasReadInput limit source read → read ≡ Ok value → IsFaultless sink → ReadsAndWrites limit source sink status.Done
  devices_done value has is calm =
      record {
        faultless = (λ _. has.faultless (not_both read value ReadFault is), λ _. calm);
        good_words = λ e. absurd cc;
        read_fault = λ e. absurd cc;
        too_long = same_where_told (source.bytes source.before) _ (λ e. absurd (not_both read value TooLong is e)) (λ e. absurd cc) has.too_long;
        most = has.most;
        write_fault = λ e. absurd cc;
        unwritten = λ other _. absurd (other refl);
      }

  pub devices_failed : (value : T) → HasReadInput limit source read → read ≡ Ok value → FaultsRose sink → ReadsAndWrites limit source sink status.WriteFault
  devices_failed value has is failed =
      record {
        faultless = (λ _. has.faultless (not_both read value ReadFault is), λ other. absurd (other refl));
        good_words = λ e. absurd cc;
        read_fault = λ e. absurd cc;
        too_long = same_where_told (source.bytes source.before) _ (λ e. absurd (not_both read value TooLong is e)) (λ e. absurd cc) has.too_long;
        most = has.most;
        write_fault = λ _. failed;
        unwritten = λ _ other. absurd (other refl);
      }

  pub devices_stopped : (stop : Stop) → HasReadInput limit source read → read ≡ Err stop → sink.after ≡ sink.before → ReadsAndWrites limit source sink (status_of stop)
  devices_stopped stop has is same =
      record {
        faultless = (λ other. has.faultless (λ e. other (ap status_of (same_error read stop ReadFault is e))), λ _. ap sink.faults same);
        good_words = λ e. absurd (stop_not_words stop e);
        read_fault = λ e. omega (arith, has.failed (is ∙ ap Err (stop_read stop e)), has.few);
        too_long =
            same_where_told (source.bytes source.before) _ (λ e. ap status_of (same_error read stop TooLong is e)) (λ e. is ∙ ap Err (stop_long stop e)) has.too_long;
        most = has.most;
        write_fault = λ e. absurd (stop_not_write stop e);
        unwritten = λ _ _. same;
      }

-- ---- how it ends

pub ends_done : {S K T : Type 0} (IsOutcome : Opening → History → Type 0) (caps : List ℕ) (source : Used S) (sink : Used K) (read : Result T Stop) (value : T) →
    HasRead caps source read → read ≡ Ok value → IsFaultless sink → (scenario : Scenario) →
    Outputs IsOutcome (opened_with caps scenario) (source.bytes source.before) (source.bytes source.after) (sink.bytes sink.before) (sink.bytes sink.after) →
    first_bad caps scenario.teaches ≡ None →
    EndsAs IsOutcome caps source sink status.Done
ends_done IsOutcome caps source sink read value has is calm scenario outputs taught =
    record {
      done = λ _. (scenario, outputs);
      devices = devices_done input_limit source sink read value has.devices is calm;
      bad_scenario = λ line kind e. absurd cc;
      bad_guard = λ line kind e. absurd cc;
      write_fault = λ e. absurd cc;
      complete = λ told valid text fits all calm_source calm_sink. inl refl;
      told_line = λ bytes line kind told fits bad calm_source. absurd (not_bad scenario bytes line kind _ _ told bad outputs.reads);
      told = λ told bad valid text fits one calm_source.
          absurd (not_taught caps told scenario bad _ _ text valid outputs.reads one taught);
    }

pub ends_write_fault : {S K T : Type 0} (IsOutcome : Opening → History → Type 0) (caps : List ℕ) (source : Used S) (sink : Used K) (read : Result T Stop) (value : T) →
    HasRead caps source read → read ≡ Ok value → FaultsRose sink → (scenario : Scenario) →
    BreaksOff IsOutcome (opened_with caps scenario) (source.bytes source.before) (source.bytes source.after) (sink.bytes sink.before) (sink.bytes sink.after) →
    first_bad caps scenario.teaches ≡ None →
    EndsAs IsOutcome caps source sink status.WriteFault
ends_write_fault IsOutcome caps source sink read value has is failed scenario breaks taught =
    record {
      done = λ e. absurd cc;
      devices = devices_failed input_limit source sink read value has.devices is failed;
      bad_scenario = λ line kind e. absurd cc;
      bad_guard = λ line kind e. absurd cc;
      write_fault = λ _. (scenario, breaks);
      complete = λ told valid text fits all calm_source calm_sink. absurd (omega (arith, failed, calm_sink));
      told_line = λ bytes line kind told fits bad calm_source. absurd (not_bad scenario bytes line kind _ _ told bad breaks.reads);
      told = λ told bad valid text fits one calm_source.
          absurd (not_taught caps told scenario bad _ _ text valid breaks.reads one taught);
    }

-- The run was written, or the sink failed.
pub ends_written : {S K T : Type 0} (IsOutcome : Opening → History → Type 0) (caps : List ℕ) (source : Used S) (sink : Used K) (read : Result T Stop) (value : T) (ended : Status) →
    HasRead caps source read → read ≡ Ok value → (scenario : Scenario) → first_bad caps scenario.teaches ≡ None →
    Reads scenario (source.bytes source.before) (source.bytes source.after) → (run : History) → IsOutcome (opened_with caps scenario) run →
    AreMade run → sink.faults sink.before < 2 ^ 64 - 1 → WritesOutput sink (opened_with caps scenario) run ended →
    EndsAs IsOutcome caps source sink ended
ends_written IsOutcome caps source sink read value ended has is scenario taught reads run outcome made few output =
    elim output.written.either [
      | inl done ↦
          rw done
          (ends_done IsOutcome caps source sink read value has is (output.written.faultless done) scenario
          (record { reads = reads; run = run; outcome = outcome; writes = output.written.whole done; entries = entries done; spelled = spelled done }) taught)
      | inr fault ↦
          rw fault
          (ends_write_fault IsOutcome caps source sink read value has is (omega (arith, output.written.failed fault, few)) scenario
          (record { reads = reads; run = run; outcome = outcome; writes = output.written.prefix }) taught)
    ] where
      entries : ended ≡ status.Done → All IsEntry run
      entries done k d lt = record { made = made k d lt; reply = output.numbers done k d lt }

      spelled : ended ≡ status.Done → (begun : Opening) (other : History) → All IsEntry other →
          output_text begun other ≡ output_text (opened_with caps scenario) run → other ≡ run
      spelled done begun other is same =
          output.one begun other is (entries done) same

pub ends_stopped : {S K T : Type 0} (IsOutcome : Opening → History → Type 0) (caps : List ℕ) (source : Used S) (sink : Used K) (read : Result T Stop) (stop : Stop) →
    HasRead caps source read → read ≡ Err stop → sink.after ≡ sink.before →
    EndsAs IsOutcome caps source sink (status_of stop)
ends_stopped IsOutcome caps source sink read stop has is same =
    record {
      done = λ e. absurd (stop_not_done stop e);
      devices = devices_stopped input_limit source sink read stop has.devices is same;
      bad_scenario = λ line kind e. has.bad line kind (is ∙ ap Err (stop_bad stop line kind e));
      bad_guard = λ line kind e. has.bad_guard line kind (is ∙ ap Err (stop_guard stop line kind e));
      write_fault = λ e. absurd (stop_not_write stop e);
      complete = λ scenario valid text fits all calm_source calm_sink. elim (why scenario valid text fits calm_source) [
        | inl memory ↦ inr memory
        | inr guard ↦
            let bad = has.bad_guard guard.0 guard.1 (is ∙ ap Err guard.2) in
            absurd (both_none _ _ (first_told caps scenario guard.0 guard.1 _ _ text valid bad) all)
      ];
      told_line = λ bytes line kind told fits bad calm_source.
          let calm = λ (e : read ≡ Err ReadFault). let rose = has.devices.failed e in let few = has.devices.few in absurd (omega (arith, calm_source)) in
          elim (has.first bytes line kind told fits bad calm) [
            | inl found ↦ inl (ap status_of (same_error read stop (BadScenario line kind) is found))
            | inr memory ↦ inr (ap status_of (same_error read stop OutOfMemory is memory))
          ];
      told = λ scenario bad valid text fits one calm_source. elim (why scenario valid text fits calm_source) [
        | inl memory ↦ inr memory
        | inr guard ↦
            let told = first_told caps scenario guard.0 guard.1 _ _ text valid (has.bad_guard guard.0 guard.1 (is ∙ ap Err guard.2)) in
            inl (ap status_of guard.2 ∙ as_told guard.0 guard.1 bad (sym told ∙ one))
      ];
    } where
      why : (scenario : Scenario) → IsValid scenario → source.bytes source.before ≡ Some (scenario_text scenario) → length (scenario_text scenario) ≤ input_limit → IsFaultless source →
          (status_of stop ≡ status.OutOfMemory) ⊎ ((line : ℕ) × (kind : GuardKind) × (stop ≡ BadGuard line kind))
      why scenario valid text fits calm_source =
          let long = λ (e : stop ≡ TooLong).
          (subst
          (λ (told : Option (List ℕ)). IfSome told (λ _. (read ≡ Err TooLong) ↔ (input_limit < count_read told (source.bytes source.after)))) text has.devices.too_long).0
          (is ∙ ap Err e) in
          let bad = λ (line : ℕ) (kind : BadKind) (e : stop ≡ BadScenario line kind).
          subst (λ (told : Option (List ℕ)). IsBad line kind told (source.bytes source.after)) text (has.bad line kind (is ∙ ap Err e)) in
          let failed = λ (e : stop ≡ ReadFault). has.devices.failed (is ∙ ap Err e) in
          stop_complete stop (source.bytes source.after) (source.faults source.before) (source.faults source.after) scenario long bad failed has.devices.few valid fits calm_source

-- An input that was read, and then not played, is as one that was not read for that.
pub stopped_later : {S T : Type 0} (limit : ℕ) (source : Used S) (read : Result T Stop) (value : T) (stop : Stop) → HasReadInput limit source read → read ≡ Ok value → stop ≢ ReadFault → stop ≢ TooLong →
    HasReadInput {T = T} limit source (Err stop)
stopped_later limit source read value stop has is not_fault not_long =
    record {
      faultless = λ _. has.faultless (not_both read value ReadFault is);
      failed = λ e. absurd (not_fault (same_error _ stop ReadFault refl e));
      few = has.few;
      too_long = same_where_told (source.bytes source.before) _ (λ e. absurd (not_both read value TooLong is e)) (λ e. absurd (not_long (same_error _ stop TooLong refl e))) has.too_long;
      most = has.most;
    }

-- So it is for lack of memory.
pub short_of_memory : {S T : Type 0} (caps : List ℕ) (source : Used S) (read : Result T Stop) (value : T) → HasRead caps source read → read ≡ Ok value → HasRead {T = T} caps source (Err OutOfMemory)
short_of_memory caps source read value has is =
    record {
      devices = stopped_later input_limit source read value OutOfMemory has.devices is (λ e. cc) (λ e. cc);
      bad = λ line kind e. absurd cc;
      first = λ bytes line kind told fits bad calm. inr refl;
      bad_guard = λ line kind e. absurd cc;
    }

-- So it ends.
pub ends_short : {S K T : Type 0} (IsOutcome : Opening → History → Type 0) (caps : List ℕ) (source : Used S) (sink : Used K) (read : Result T Stop) (value : T) (ended : Status) →
    HasRead caps source read → read ≡ Ok value → IsShort sink ended → EndsAs IsOutcome caps source sink ended
ends_short IsOutcome caps source sink read value ended has is short =
    rw short.memory
    (ends_stopped IsOutcome caps source sink (Err OutOfMemory) OutOfMemory (short_of_memory caps source read value has is) refl short.unwritten)
