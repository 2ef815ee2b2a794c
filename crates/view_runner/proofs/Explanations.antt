-- Explanations: how the command ends that explains an input, status by status.
use Rattle.std.proofs.Common.{◌≡◌, ◌∙◌, sym, refl, ℕ, ◌-◌, ◌^◌, ◌<◌, List, inl, inr, arith}
use Rattle.std.specs.Prelude.{Option, Some, None, Result, Ok, Err}
use Rattle.cs_types.specs.declared.scenario.Scenario.{Scenario}
use Rattle.scenario_input.specs.declared.stop.Stop.{Stop}
use Rattle.scenario_input.specs.Input.{Reads}
use Rattle.scenario_input.specs.Teaching.{first_bad}
use Rattle.scenario_input.specs.declared.status.Status.{Status}
use Rattle.scenario_input.specs.Stop.{status_of}
use Rattle.scenario_input.proofs.Stops.{stop_not_done, stop_not_words, stop_not_write}
use Rattle.fault_text.specs.Counts.{counts_text}
use Rattle.fault_text.specs.Faults.{fault_line, BeginsWith}
use Rattle.scenario_runner.specs.Outcomes.{opened_with, IsReplayHistory}
use Rattle.scenario_runner.specs.Ends.{Used}
use Rattle.scenario_runner.specs.Written.{IsWritten}
use Rattle.scenario_runner.proofs.Endings.{HasRead, ends_stopped}
use Rattle.view_runner.specs.Ends.{IsTaken, unwritten, IsExplained, EndsAsExplained}
use Rattle.view_runner.specs.Written.{Says, said, broken_off, nothing}
use Rattle.view_runner.proofs.Endings.{is_taken}

-- What the scenario has was written, or the sink failed.
pub ends_counted : {S K : Type 0} (caps : List ℕ) (source : Used S) (sink : Used K) (read : Result Scenario Stop) (scenario : Scenario) (ended : Status) →
    HasRead caps source read → read ≡ Ok scenario → Reads scenario (source.bytes source.before) (source.bytes source.after) → first_bad caps scenario.teaches ≡ None →
    sink.faults sink.before < 2 ^ 64 - 1 → IsWritten sink (counts_text scenario) ended → EndsAsExplained caps source sink ended
ends_counted caps source sink read scenario ended has is reads taught few written =
    elim written.either [
      | inl done ↦
          rw done
          (record {
            done = λ _. (written.faultless done, (scenario, taken, written.whole done));
            told = λ line e. absurd cc;
            write_fault = λ e. absurd cc;
            good_words = λ e. absurd cc;
            stopped = λ not_done _ _. absurd (not_done refl);
          })
      | inr fault ↦
          rw fault
          (record {
            done = λ e. absurd cc;
            told = λ line e. absurd cc;
            write_fault = λ _. (omega (arith, written.failed fault, few), inl (scenario, taken, written.prefix));
            good_words = λ e. absurd cc;
            stopped = λ _ not_fault _. absurd (not_fault refl);
          })
    ] where
      taken : IsTaken caps source scenario
      taken = is_taken caps source read scenario scenario (opened_with caps scenario) has is (record { reads = reads; taught = taught; begins = refl })

no_line : (told : Option (List ℕ)) (line : List ℕ) → told ≡ None → told ≡ Some line → ⊥
no_line told line none some = let wrong : None ≡ Some line = sym none ∙ some in absurd cc

-- what is said of it
explains : {S K : Type 0} (caps : List ℕ) (source : Used S) (sink : Used K) (read : Result Scenario Stop) (stop : Stop) → HasRead caps source read → read ≡ Err stop →
    (line text : List ℕ) → fault_line (status_of stop) ≡ Some line → BeginsWith line text → IsExplained caps source sink (status_of stop) text
explains caps source sink read stop has is line text tells begins =
    record { replay = ends_stopped IsReplayHistory caps source (unwritten sink) read stop has is refl; line = line; tells = tells; begins = begins }

-- The input is not played. What is said of it was written, or the sink failed, or nothing is said of it.
pub ends_said : {S K : Type 0} (caps : List ℕ) (source : Used S) (sink : Used K) (read : Result Scenario Stop) (stop : Stop) (ended : Status) →
    HasRead caps source read → read ≡ Err stop → sink.faults sink.before < 2 ^ 64 - 1 → Says sink (status_of stop) ended → EndsAsExplained caps source sink ended
ends_said caps source sink read stop ended has is few (said line text tells begins written calm) =
    record {
      done = λ e. absurd (stop_not_done stop e);
      told = λ _ _. (calm, (text, explains caps source sink read stop has is line text tells begins, written));
      write_fault = λ e. absurd (stop_not_write stop e);
      good_words = λ e. absurd (stop_not_words stop e);
      stopped = λ _ _ none. absurd (no_line _ line none tells);
    }
ends_said caps source sink read stop ended has is few (broken_off line text tells begins prefix rose) =
    record {
      done = λ e. absurd cc;
      told = λ other e. absurd cc;
      write_fault = λ _. (omega (arith, rose, few), inr (status_of stop, text, explains caps source sink read stop has is line text tells begins, prefix));
      good_words = λ e. absurd cc;
      stopped = λ _ not_fault _. absurd (not_fault refl);
    }
ends_said caps source sink read stop ended has is few (nothing none same) =
    record {
      done = λ e. absurd (stop_not_done stop e);
      told = λ line e. absurd (no_line _ line none e);
      write_fault = λ e. absurd (stop_not_write stop e);
      good_words = λ e. absurd (stop_not_words stop e);
      stopped = λ _ _ _. ends_stopped IsReplayHistory caps source sink read stop has is same;
    }
