-- Checking: how a check ends.
use Rattle.std.proofs.Common.{◌≡◌, ◌≢◌, ℕ, ◌+◌, ◌-◌, ◌^◌, ◌<◌, ◌≤◌, Bool, List, ◌++◌, length, refl, sym, inl, inr, ap, ◌∙◌, subst, arith}
use Rattle.std.proofs.lemmas.List.{length-append}
use Rattle.std.specs.Prelude.{◌⊎◌, ◌↔◌, Option, Some, IfSome, Result, Ok, Err}
use Rattle.cs_types.specs.declared.scenario.Scenario.{Scenario}
use Rattle.cs_types.specs.Scenario.{IsValid}
use Rattle.scenario_text.specs.declared.fault.BadKind.{BadKind}
use Rattle.scenario_text.specs.Text.{scenario_text}
use Rattle.scenario_text.specs.Faults.{lines_in, IsFirstBad}
use Rattle.scenario_text.specs.Reader.{IsTextOf, HasOneScenario}
use Rattle.scenario_text.proofs.Scenarios.{none_of}
use Rattle.scenario_text.proofs.Firsts.{one_first}
use Rattle.scenario_input.specs.declared.stop.GuardKind.{GuardKind}
use Rattle.scenario_input.specs.declared.stop.Stop.{Stop}
use Rattle.scenario_input.specs.declared.stop.Stop.TheVariants.{ReadFault, TooLong, BadScenario, BadGuard, OutOfMemory}
use Rattle.scenario_input.specs.declared.status.Status.{Status}
use Rattle.scenario_input.specs.declared.status.Status.TheVariants as status
use Rattle.scenario_input.specs.Input.{IsReadAs, judged_limit, count_read}
use Rattle.scenario_input.specs.Stop.{status_of}
use Rattle.scenario_input.specs.Teaching.{BadTeach, first_bad, IsTeachStop}
use Rattle.scenario_input.proofs.Inputs.{read_bytes, count_read-le}
use Rattle.scenario_input.proofs.Stops.{stop_not_done, stop_not_write, stop_bad, stop_guard}
use Rattle.trace_check.specs.Lines.{lines_of}
use Rattle.trace_check.specs.Parts.{scenario_part, run_part}
use Rattle.trace_check.proofs.Splits.{parts-append, scenario_part-text, run_part-text}
use Rattle.trace_check.proofs.Texts.{lines-few}
use Rattle.scenario_runner.specs.Checks.{IsParted, IsJudged, IsUnjudged}
use Rattle.scenario_runner.specs.Ends.{Used, IsFaultless, FaultsRose, EndsAsCheck}
use Rattle.scenario_runner.specs.Written.{IsWritten}
use Rattle.scenario_runner.proofs.Endings.{HasReadInput, both_none, devices_done, devices_failed, devices_stopped, stopped_later}

-- ---- the parts of an input

-- what a scenario's text begins, begins with that scenario
pub part_is : (scenario : Scenario) (run input : List ℕ) → IsValid scenario → input ≡ scenario_text scenario ++ run → scenario_part input ≡ scenario_text scenario
part_is scenario run input valid is = ap scenario_part is ∙ scenario_part-text scenario run valid

-- the parts of an input of which the first is a scenario's text
pub parted : (scenario : Scenario) (part run input : List ℕ) → IsTextOf part scenario → HasOneScenario part → part ≡ scenario_part input → run ≡ run_part input → IsParted scenario run input
parted scenario part run input of one first behind =
    record {
      valid = of.valid;
      parts = sym (parts-append input) ∙ (λ i. (sym first ∙ of.text) i ++ sym behind i);
      alone = λ other its_run valid is. (
        one other scenario (record { valid = valid; text = first ∙ part_is other its_run input valid is }) of,
        sym (run_part-text other its_run valid) ∙ sym (ap run_part is) ∙ sym behind,
      );
    }

-- an input has more bytes than its scenario has lines and its run has bytes
pub part_few : (part run input : List ℕ) → part ≡ scenario_part input → run ≡ run_part input → length (lines_of part) + length run ≤ length input
part_few part run input first behind =
    let whole : length part + length run ≡ length input = sym (length-append part run) ∙ ap length ((λ i. first i ++ behind i) ∙ parts-append input) in
    omega (arith, whole, lines-few part)

-- why one is not judged for its teach lines
pub untaught_run : (caps : List ℕ) (scenario : Scenario) (run input : List ℕ) (stop : Stop) → IsParted scenario run input → IsTeachStop (first_bad caps scenario.teaches) stop → IsUnjudged caps input stop
untaught_run caps scenario run input ReadFault parts why = absurd why
untaught_run caps scenario run input TooLong parts why = absurd why
untaught_run caps scenario run input (BadScenario line kind) parts why = absurd why
untaught_run caps scenario run input (BadGuard line kind) parts why = record { scenario = scenario; run = run; parted = parts; first = why }
untaught_run caps scenario run input OutOfMemory parts why = tt

-- a scenario's part has no bad line
not_bad_part : (scenario : Scenario) (run input : List ℕ) (line : ℕ) (kind : BadKind) → IsParted scenario run input → IsFirstBad (lines_in (scenario_part input)) line kind → ⊥
not_bad_part scenario run input line kind parted bad =
    none_of (scenario_part input) line kind bad scenario (record { valid = parted.valid; text = part_is scenario run input parted.valid parted.parts })

-- an input that is not judged for its scenario has a bad teach line, or there was no memory
record HasBadTeach (caps : List ℕ) (scenario : Scenario) (stop : Stop) : Type 0 where
  pub bad : BadTeach
  pub first : first_bad caps scenario.teaches ≡ Some bad
  pub told : status_of stop ≡ status.BadGuard bad.line bad.kind

of_scenario : (caps input : List ℕ) (stop : Stop) (scenario : Scenario) (run : List ℕ) → IsUnjudged caps input stop → IsValid scenario → input ≡ scenario_text scenario ++ run →
    (status_of stop ≡ status.OutOfMemory) ⊎ HasBadTeach caps scenario stop
of_scenario caps input ReadFault scenario run why valid is = absurd why
of_scenario caps input TooLong scenario run why valid is = absurd why
of_scenario caps input (BadScenario line kind) scenario run why valid is =
    absurd (why.text scenario (record { valid = valid; text = part_is scenario run input valid is }))
of_scenario caps input (BadGuard line kind) scenario run why valid is =
    let same = why.parted.alone scenario run valid is in
    inr (record { bad = record { line = line; kind = kind }; first = ap (λ (s : Scenario). first_bad caps s.teaches) same.0 ∙ why.first; told = refl })
of_scenario caps input OutOfMemory scenario run why valid is = inl refl

-- one whose scenario has a bad line tells that, or there was no memory
of_bad_line : (caps input : List ℕ) (stop : Stop) (line : ℕ) (kind : BadKind) → IsUnjudged caps input stop → IsFirstBad (lines_in (scenario_part input)) line kind →
    (status_of stop ≡ status.BadScenario line kind) ⊎ (status_of stop ≡ status.OutOfMemory)
of_bad_line caps input ReadFault line kind why bad = absurd why
of_bad_line caps input TooLong line kind why bad = absurd why
of_bad_line caps input (BadScenario other its_kind) line kind why bad =
    let same = one_first (lines_in (scenario_part input)) other line its_kind kind why.first bad in
    inl (λ i. status.BadScenario (same.0 i) (same.1 i))
of_bad_line caps input (BadGuard at what) line kind why bad = absurd (not_bad_part why.scenario why.run input line kind why.parted bad)
of_bad_line caps input OutOfMemory line kind why bad = inr refl

same_teach : (one other : BadTeach) → Some one ≡ Some other → one ≡ other
same_teach one other is = cc

-- an input that was read has not failed, nor is it too long
pub unjudged_fault : (caps input : List ℕ) (stop : Stop) → IsUnjudged caps input stop → stop ≢ ReadFault
unjudged_fault caps input stop why is = subst (IsUnjudged caps input) is why

pub unjudged_long : (caps input : List ℕ) (stop : Stop) → IsUnjudged caps input stop → stop ≢ TooLong
unjudged_long caps input stop why is = subst (IsUnjudged caps input) is why

-- ---- how it ends

module _ {S K T : Type 0} (json : Bool) (caps : List ℕ) (source : Used S) (sink : Used K) (read : Result T Stop) (has : HasReadInput judged_limit source read) where
  -- why reading alone stops: the source failed, its bytes were too many, or there was no memory
  no_memory : (stop : Stop) (input : List ℕ) → read ≡ Err stop → ((line : ℕ) (kind : BadKind) → read ≢ Err (BadScenario line kind)) → ((line : ℕ) (kind : GuardKind) → read ≢ Err (BadGuard line kind)) →
      source.bytes source.before ≡ Some input → length input ≤ judged_limit → IsFaultless source → status_of stop ≡ status.OutOfMemory
  no_memory ReadFault input is no_line no_guard text fits calm = let rose = has.failed is in let few = has.few in absurd (omega (arith, calm))
  no_memory TooLong input is no_line no_guard text fits calm =
      let long = (subst (λ (told : Option (List ℕ)). IfSome told (λ _. (read ≡ Err TooLong) ↔ (judged_limit < count_read told (source.bytes source.after)))) text has.too_long).0 is in
      absurd (omega (arith, long, count_read-le input (source.bytes source.after)))
  no_memory (BadScenario line kind) input is no_line no_guard text fits calm = absurd (no_line line kind is)
  no_memory (BadGuard line kind) input is no_line no_guard text fits calm = absurd (no_guard line kind is)
  no_memory OutOfMemory input is no_line no_guard text fits calm = refl

  pub check_unread : (stop : Stop) → read ≡ Err stop → ((line : ℕ) (kind : BadKind) → read ≢ Err (BadScenario line kind)) → ((line : ℕ) (kind : GuardKind) → read ≢ Err (BadGuard line kind)) →
      sink.after ≡ sink.before → EndsAsCheck json caps source sink (status_of stop)
  check_unread stop is no_line no_guard same =
      record {
        done = λ e. absurd (stop_not_done stop e);
        devices = devices_stopped judged_limit source sink read stop has is same;
        bad_scenario = λ line kind e. absurd (no_line line kind (is ∙ ap Err (stop_bad stop line kind e)));
        bad_guard = λ line kind e. absurd (no_guard line kind (is ∙ ap Err (stop_guard stop line kind e)));
        write_fault = λ e. absurd (stop_not_write stop e);
        complete = λ scenario run valid text fits all calm_source calm_sink. inr (no_memory stop _ is no_line no_guard text fits calm_source);
        told_line = λ input line kind text fits bad calm_source. inr (no_memory stop input is no_line no_guard text fits calm_source);
        told = λ scenario run bad valid text fits one calm_source. inr (no_memory stop _ is no_line no_guard text fits calm_source);
      }

  -- the input was read, but not judged
  module _ (value : T) (input : List ℕ) (is : read ≡ Ok value) (whole : IsReadAs (source.bytes source.before) input (source.bytes source.after)) where
    -- it is the one that the source had
    input_is : (bytes : List ℕ) → source.bytes source.before ≡ Some bytes → input ≡ bytes
    input_is bytes text = read_bytes (source.bytes source.before) (source.bytes source.after) bytes input text whole

    pub check_unjudged : (stop : Stop) → IsUnjudged caps input stop → stop ≢ ReadFault → stop ≢ TooLong → sink.after ≡ sink.before → EndsAsCheck json caps source sink (status_of stop)
    check_unjudged stop why not_fault not_long same =
        record {
          done = λ e. absurd (stop_not_done stop e);
          devices = devices_stopped judged_limit source sink (Err stop) stop (stopped_later judged_limit source read value stop has is not_fault not_long) refl same;
          bad_scenario = λ line kind e. (input, whole, subst (IsUnjudged caps input) (stop_bad stop line kind e) why);
          bad_guard = λ line kind e. (input, whole, subst (IsUnjudged caps input) (stop_guard stop line kind e) why);
          write_fault = λ e. absurd (stop_not_write stop e);
          complete = λ scenario run valid text fits all calm_source calm_sink. elim (of_scenario caps input stop scenario run why valid (input_is _ text)) [
            | inl memory ↦ inr memory
            | inr teach ↦ absurd (both_none _ _ teach.first all)
          ];
          told_line = λ bytes line kind text fits bad calm_source.
              of_bad_line caps input stop line kind why (subst (λ (b : List ℕ). IsFirstBad (lines_in (scenario_part b)) line kind) (sym (input_is bytes text)) bad);
          told = λ scenario run bad valid text fits one calm_source. elim (of_scenario caps input stop scenario run why valid (input_is _ text)) [
            | inl memory ↦ inr memory
            | inr teach ↦ inl (teach.told ∙ ap (λ (b : BadTeach). status.BadGuard b.line b.kind) (same_teach teach.bad bad (sym teach.first ∙ one)))
          ];
        }

    -- it was judged, and the verdict was written, or the sink failed
    pub check_judged : (text : List ℕ) (ended : Status) → IsJudged json caps input text → sink.faults sink.before < 2 ^ 64 - 1 → IsWritten sink text ended → EndsAsCheck json caps source sink ended
    check_judged text ended judged few written =
        elim written.either [
          | inl done ↦
              rw done
              (record {
                done = λ _. record { input = input; read = whole; text = text; judged = judged; writes = written.whole done };
                devices = devices_done judged_limit source sink read value has is (written.faultless done);
                bad_scenario = λ line kind e. absurd cc;
                bad_guard = λ line kind e. absurd cc;
                write_fault = λ e. absurd cc;
                complete = λ scenario run valid told fits all calm_source calm_sink. inl refl;
                told_line = λ bytes line kind told fits bad calm_source. absurd (bad_line bytes line kind told bad);
                told = λ scenario run bad valid told fits one calm_source. absurd (bad_teach scenario run bad valid told one);
              })
          | inr fault ↦
              rw fault
              (record {
                done = λ e. absurd cc;
                devices = devices_failed judged_limit source sink read value has is (rose fault);
                bad_scenario = λ line kind e. absurd cc;
                bad_guard = λ line kind e. absurd cc;
                write_fault = λ _. record { input = input; read = whole; text = text; judged = judged; writes = written.prefix };
                complete = λ scenario run valid told fits all calm_source calm_sink. let failed = rose fault in absurd (omega (arith, failed, calm_sink));
                told_line = λ bytes line kind told fits bad calm_source. absurd (bad_line bytes line kind told bad);
                told = λ scenario run bad valid told fits one calm_source. absurd (bad_teach scenario run bad valid told one);
              })
        ] where
          rose : ended ≡ status.WriteFault → FaultsRose sink
          rose fault = omega (arith, written.failed fault, few)

          bad_line : (bytes : List ℕ) (line : ℕ) (kind : BadKind) → source.bytes source.before ≡ Some bytes → IsFirstBad (lines_in (scenario_part bytes)) line kind → ⊥
          bad_line bytes line kind told bad =
              not_bad_part judged.scenario judged.run input line kind judged.parted
              (subst (λ (b : List ℕ). IsFirstBad (lines_in (scenario_part b)) line kind) (sym (input_is bytes told)) bad)

          bad_teach : (scenario : Scenario) (run : List ℕ) (bad : BadTeach) → IsValid scenario → source.bytes source.before ≡ Some (scenario_text scenario ++ run) →
              first_bad caps scenario.teaches ≡ Some bad → ⊥
          bad_teach scenario run bad valid told one =
              let same = judged.parted.alone scenario run valid (input_is _ told) in
              both_none _ bad one (ap (λ (s : Scenario). first_bad caps s.teaches) same.0 ∙ judged.taught)
