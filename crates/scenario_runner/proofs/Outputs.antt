-- Outputs: how a command ends that played an input, by what it wrote.
use Rattle.std.proofs.Common.{◌≡◌, ℕ, ◌-◌, ◌^◌, ◌<◌, List, inl, inr, subst}
use Rattle.std.specs.Prelude.{None, Result, Ok}
use Rattle.cs_types.specs.declared.event.Step.{Step}
use Rattle.cs_types.specs.declared.scenario.Scenario.{Scenario}
use Rattle.cs_types.specs.Room.{Opening}
use Rattle.cs_types.specs.History.{history_of}
use Rattle.cs_types.specs.Drain.{IsDrained}
use Rattle.scenario_input.specs.declared.stop.Stop.{Stop}
use Rattle.scenario_input.specs.declared.status.Status.{Status}
use Rattle.scenario_input.specs.Input.{Reads}
use Rattle.scenario_input.specs.Teaching.{first_bad}
use Rattle.scenario_runner.specs.Outcomes.{opened_with, IsReplayHistory, IsRaceHistory}
use Rattle.scenario_runner.specs.Ends.{Used, EndsAsReplay, EndsAsRace}
use Rattle.scenario_runner.specs.Written.{WritesReplay, WritesRace, MayWriteRace}
use Rattle.scenario_runner.proofs.Playable.{valid_playable}
use Rattle.scenario_runner.proofs.Runs.{replay_history, replay_made, race_history, race_made}
use Rattle.scenario_runner.proofs.Endings.{HasRead, ends_written, ends_short}

-- what is known of the scenario that was read, and of what a room of it begins with
pub record IsOpened {S : Type 0} (caps : List ℕ) (source : Used S) (scenario : Scenario) (opening : Opening) : Type 0 where
  pub reads : Reads scenario (source.bytes source.before) (source.bytes source.after)
  pub taught : first_bad caps scenario.teaches ≡ None
  pub begins : opening ≡ opened_with caps scenario

-- its steps were made
pub ends_replayed : {S K T : Type 0} (caps : List ℕ) (source : Used S) (sink : Used K) (read : Result T Stop) (value : T) (scenario : Scenario) (opening : Opening) (steps : List Step) (ended : Status) →
    HasRead caps source read → read ≡ Ok value → IsOpened caps source scenario opening → steps ≡ scenario.steps → sink.faults sink.before < 2 ^ 64 - 1 →
    WritesReplay opening steps sink ended → EndsAsReplay caps source sink ended
ends_replayed caps source sink read value scenario opening steps ended has is opened all few writes =
    let of = opened_with caps scenario in
    let played = subst (λ (o : Opening). WritesReplay o steps sink ended) opened.begins writes in
    let drained = subst (λ (s : List Step). IsDrained of (history_of of s) played.run) all played.drained in
    let playable = valid_playable scenario opened.reads.valid in
    ends_written IsReplayHistory caps source sink read value ended has is scenario opened.taught opened.reads played.run (replay_history of played.run playable drained)
    (replay_made of played.run playable drained) few played.output

-- its actors made their scripts beside each other, or there was no memory for that
pub ends_raced : {S K T : Type 0} (caps : List ℕ) (source : Used S) (sink : Used K) (read : Result T Stop) (value : T) (scenario : Scenario) (opening : Opening) (ended : Status) →
    HasRead caps source read → read ≡ Ok value → IsOpened caps source scenario opening → sink.faults sink.before < 2 ^ 64 - 1 →
    MayWriteRace opening sink ended → EndsAsRace caps source sink ended
ends_raced caps source sink read value scenario opening ended has is opened few (inr short) = ends_short IsRaceHistory caps source sink read value ended has is short
ends_raced caps source sink read value scenario opening ended has is opened few (inl writes) =
    let of = opened_with caps scenario in
    let raced = subst (λ (o : Opening). WritesRace o sink ended) opened.begins writes in
    let playable = valid_playable scenario opened.reads.valid in
    ends_written IsRaceHistory caps source sink read value ended has is scenario opened.taught opened.reads raced.run (race_history of raced.run playable raced.raced)
    (race_made of raced.run playable raced.raced) few raced.output
