-- Upgrading: how an upgrade ends.
use Rattle.std.proofs.Common.{◌≡◌, ◌≢◌, ℕ, ◌+◌, eqb, [], ◌∷◌, ◌++◌, map, ◌-◌, ◌^◌, ◌<◌, ◌≤◌, List, length, refl, inl, inr, ap, ◌∙◌, arith}
use Rattle.std.specs.Prelude.{◌⊎◌, Option, Some, None, Result, Ok, Err}
use Rattle.cs_types.specs.declared.scenario.Scenario.{Scenario}
use Rattle.cs_types.specs.Scenario.{user_lines, IsValid}
use Rattle.std.specs.List.{flat_map, range_with_len}
use Rattle.std.proofs.lemmas.Bool.{cases_Bool}
use Rattle.cs_types.specs.declared.scenario.Teach.{Teach}
use Rattle.cs_types.specs.declared.view.GuardPlace.TheVariants.{Bench}
use Rattle.cs_types.specs.Guards.{GuardList, taught}
use Rattle.cs_types.specs.History.{History, Moment, beginning, after}
use Rattle.scenario_text.specs.Text.{entry_text}
use Rattle.scenario_text.specs.Text.{scenario_text}
use Rattle.scenario_text.specs.Upgrade.{renumbered, upgraded}
use Rattle.scenario_writer.proofs.Upgrades.{valid_upgraded}
use Rattle.room_report.specs.Report.{report_text, output_text}
use Rattle.scenario_input.specs.declared.stop.Stop.{Stop}
use Rattle.scenario_input.specs.declared.stop.Stop.TheVariants.{BadGuard}
use Rattle.scenario_input.specs.declared.stop.GuardKind.{GuardKind}
use Rattle.scenario_input.specs.declared.status.Status.{Status}
use Rattle.scenario_input.specs.declared.status.Status.TheVariants as status
use Rattle.scenario_input.specs.Input.{Reads, input_limit}
use Rattle.scenario_input.specs.Stop.{status_of}
use Rattle.scenario_input.specs.Teaching.{BadTeach, first_bad}
use Rattle.scenario_input.proofs.Stops.{stop_guard}
use Rattle.cs_types.specs.Room.{RoomState, Opening, start}
use Rattle.scenario_runner.specs.Ends.{Used, FaultsRose, IsFaultless, EndsAs, EndsAsUpgrade}
use Rattle.scenario_runner.specs.Written.{IsWritten}
use Rattle.scenario_runner.proofs.Endings.{HasRead, not_bad, devices_done, devices_failed, ends_stopped}

-- guards are taught the same by lines of other numbers
taught_same : (first : ℕ) (teaches : List Teach) (index : ℕ) → taught (renumbered first teaches) index ≡ taught teaches index
taught_same first [] index = refl
taught_same first (teach ∷ teaches) index =
    elim (cases_Bool (eqb teach.guard index)) [
      | inl is ↦ rw is (ap (λ (pairs : List (ℕ × ℕ)). (teach.from, teach.to) ∷ pairs) (taught_same (first + 1) teaches index))
      | inr other ↦ rw other (taught_same (first + 1) teaches index)
    ]

-- no room looks at the version of its scenario, nor at the numbers of the lines of its teaches
same_beginning : (s : Scenario) (guards : ℕ) → beginning (record { scenario = upgraded s; guards = guards }) ≡ beginning (record { scenario = s; guards = guards })
same_beginning s guards =
    let first = user_lines 2 s.tasks + length s.tasks + 4 in
    let begun : RoomState = start (record { scenario = s; guards = guards }) in
    λ i.
    let bench : GuardList = record { all = map (λ index. record { place = Bench; pairs = taught_same first s.teaches index i; asked = 0 }) (range_with_len 0 guards); active = [] } in
    let room : RoomState = record begun { guards = bench } in
    record { room = room; ledger = [] }

-- so a run has the same output
same_output : (s : Scenario) (guards : ℕ) (run : History) → output_text (record { scenario = upgraded s; guards = guards }) run ≡ output_text (record { scenario = s; guards = guards }) run
same_output s guards run = ap (λ (begun : Moment). flat_map entry_text run ++ report_text (after begun run)) (same_beginning s guards)

-- of nothing that could be a run
abbrev never : Opening → History → Type 0
never opening run = ⊥

pub ends_upgraded : {S K : Type 0} (source : Used S) (sink : Used K) (read : Result Scenario Stop) (scenario : Scenario) (ended : Status) →
    HasRead [] source read → read ≡ Ok scenario → Reads scenario (source.bytes source.before) (source.bytes source.after) → sink.faults sink.before < 2 ^ 64 - 1 →
    IsWritten sink (scenario_text (upgraded scenario)) ended → EndsAsUpgrade source sink ended
ends_upgraded source sink read scenario ended has is reads few written =
    elim written.either [
      | inl done ↦
          rw done
          (record {
            done = λ _. (scenario, record { reads = reads; writes = written.whole done; valid = valid_upgraded scenario reads.valid; same_output = same_output scenario });
            devices = devices_done input_limit source sink read scenario has.devices is (written.faultless done);
            bad_scenario = λ line kind e. absurd cc;
            no_guard = λ line kind e. absurd cc;
            write_fault = λ e. absurd cc;
            complete = λ told valid text fits calm_source calm_sink. inl refl;
            told_line = λ bytes line kind told fits bad calm_source. absurd (not_bad scenario bytes line kind _ _ told bad reads);
          })
      | inr fault ↦
          rw fault
          (record {
            done = λ e. absurd cc;
            devices = devices_failed input_limit source sink read scenario has.devices is (rose fault);
            bad_scenario = λ line kind e. absurd cc;
            no_guard = λ line kind e. absurd cc;
            write_fault = λ _. (scenario, record { reads = reads; writes = written.prefix });
            complete = λ told valid text fits calm_source calm_sink. let failed = rose fault in absurd (omega (arith, failed, calm_sink));
            told_line = λ bytes line kind told fits bad calm_source. absurd (not_bad scenario bytes line kind _ _ told bad reads);
          })
    ] where
      rose : ended ≡ status.WriteFault → FaultsRose sink
      rose fault = omega (arith, written.failed fault, few)

-- the input was not read as a scenario
pub ends_unread : {S K : Type 0} (source : Used S) (sink : Used K) (read : Result Scenario Stop) (stop : Stop) →
    HasRead [] source read → read ≡ Err stop → ((line : ℕ) (kind : GuardKind) → read ≢ Err (BadGuard line kind)) → sink.after ≡ sink.before → EndsAsUpgrade source sink (status_of stop)
ends_unread source sink read stop has is no_guard same =
    record {
      done = λ e. absurd (ends.done e).1.outcome;
      devices = ends.devices;
      bad_scenario = ends.bad_scenario;
      no_guard = none;
      write_fault = λ e. absurd (ends.write_fault e).1.outcome;
      complete = λ scenario valid text fits calm_source calm_sink. by_teaches scenario (first_bad [] scenario.teaches) refl valid text fits calm_source calm_sink;
      told_line = ends.told_line;
    } where
      ends : EndsAs never [] source sink (status_of stop)
      ends = ends_stopped never [] source sink read stop has is same

      none : (line : ℕ) (kind : GuardKind) → status_of stop ≢ status.BadGuard line kind
      none line kind e = no_guard line kind (is ∙ ap Err (stop_guard stop line kind e))

      by_teaches : (scenario : Scenario) (bad : Option BadTeach) → first_bad [] scenario.teaches ≡ bad → IsValid scenario →
          source.bytes source.before ≡ Some (scenario_text scenario) → length (scenario_text scenario) ≤ input_limit → IsFaultless source → IsFaultless sink →
          (status_of stop ≡ status.Done) ⊎ (status_of stop ≡ status.OutOfMemory)
      by_teaches scenario None all valid text fits calm_source calm_sink = ends.complete scenario valid text fits all calm_source calm_sink
      by_teaches scenario (Some bad) one valid text fits calm_source calm_sink = elim (ends.told scenario bad valid text fits one calm_source) [
        | inl guard ↦ absurd (none bad.line bad.kind guard)
        | inr memory ↦ inr memory
      ]
