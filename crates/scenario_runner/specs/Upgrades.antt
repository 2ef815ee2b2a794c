-- Upgrades: what the command `upgrade` writes.
use Rattle.std.specs.Prelude.{◌≡◌, ℕ, List, Option}
use Rattle.cs_types.specs.declared.scenario.Scenario.{Scenario}
use Rattle.cs_types.specs.Scenario.{IsValid}
use Rattle.cs_types.specs.History.{History}
use Rattle.cs_outside.specs.Device.{appended, WritesPrefix}
use Rattle.scenario_text.specs.Text.{scenario_text}
use Rattle.scenario_text.specs.Upgrade.{upgraded}
use Rattle.scenario_input.specs.Input.{Reads}
use Rattle.room_report.specs.Report.{output_text}

-- The input was read as this scenario, and what was written is its text in version 2.
pub record Upgrades (scenario : Scenario) (input left written now : Option (List ℕ)) : Type 0 where
  pub reads : Reads scenario input left
  pub writes : now ≡ appended written (scenario_text (upgraded scenario))
  -- that is the text of a valid scenario
  pub valid : IsValid (upgraded scenario)
  -- and with as many guards, each run of either has the output of the same run of the other
  pub same_output : (guards : ℕ) (run : History) →
      output_text (record { scenario = upgraded scenario; guards = guards }) run ≡ output_text (record { scenario = scenario; guards = guards }) run

-- Or a prefix of that text was written.
pub record UpgradeBreaksOff (scenario : Scenario) (input left written now : Option (List ℕ)) : Type 0 where
  pub reads : Reads scenario input left
  pub writes : WritesPrefix written (scenario_text (upgraded scenario)) now
