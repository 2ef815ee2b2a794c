-- Drills: how a drill ends.
use Rattle.std.proofs.Common.{◌≡◌, ◌∙◌, sym, ℕ, ◌-◌, ◌^◌, ◌<◌, List, refl, inl, inr, ap, subst, arith}
use Rattle.cs_types.specs.declared.event.Step.{Step}
use Rattle.cs_types.specs.Scenario.{IsValid}
use Rattle.cs_types.specs.Room.{Opening}
use Rattle.cs_types.specs.History.{history_of}
use Rattle.cs_types.specs.Drain.{IsDrained}
use Rattle.room_drill.specs.Drill.{drill_scenario}
use Rattle.scenario_input.specs.declared.status.Status.{Status}
use Rattle.scenario_input.specs.declared.status.Status.TheVariants as status
use Rattle.scenario_runner.specs.Outcomes.{IsReplayHistory, drill_opening}
use Rattle.scenario_runner.specs.Ends.{Used, EndsAsDrill}
use Rattle.scenario_runner.specs.Written.{WritesDrill}
use Rattle.scenario_runner.proofs.Playable.{valid_playable}
use Rattle.scenario_runner.proofs.Runs.{replay_history}

-- its steps were made
pub ends_drilled : {K : Type 0} (seed : ℕ) (sink : Used K) (opening : Opening) (steps : List Step) (ended : Status) → opening ≡ drill_opening seed → IsValid (drill_scenario seed) →
    steps ≡ (drill_scenario seed).steps → sink.faults sink.before < 2 ^ 64 - 1 → WritesDrill seed opening steps sink ended → EndsAsDrill seed sink ended
ends_drilled seed sink opening steps ended is valid all few writes =
    record {
      either = elim drill.written.either [
        | inl done ↦ inl done
        | inr fault ↦ inr (inl fault)
      ];
      done = λ e. record { run = drill.run; outcome = outcome; writes = drill.written.whole e };
      write_fault = λ e. (omega (arith, drill.written.failed e, few), record { run = drill.run; outcome = outcome; writes = drill.written.prefix });
      faultless = λ other. elim drill.written.either [
        | inl done ↦ drill.written.faultless done
        | inr fault ↦ absurd (other fault)
      ];
      unwritten = λ e. elim drill.written.either [
        | inl done ↦ let wrong : status.OutOfMemory ≡ status.Done = sym e ∙ done in absurd cc
        | inr fault ↦ let wrong : status.OutOfMemory ≡ status.WriteFault = sym e ∙ fault in absurd cc
      ];
    } where
      drill : WritesDrill seed (drill_opening seed) steps sink ended
      drill = subst (λ (o : Opening). WritesDrill seed o steps sink ended) is writes

      outcome : IsReplayHistory (drill_opening seed) drill.run
      outcome =
          replay_history (drill_opening seed) drill.run (valid_playable (drill_scenario seed) valid)
          (subst (λ (s : List Step). IsDrained (drill_opening seed) (history_of (drill_opening seed) s) drill.run) all drill.drained)

-- there was no memory for it
pub ends_undrilled : {K : Type 0} (seed : ℕ) (sink : Used K) → sink.after ≡ sink.before → EndsAsDrill seed sink status.OutOfMemory
ends_undrilled seed sink same =
    record {
      either = inr (inr refl);
      done = λ e. absurd cc;
      write_fault = λ e. absurd cc;
      faultless = λ _. ap sink.faults same;
      unwritten = λ _. same;
    }
