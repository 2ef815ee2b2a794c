-- Own: the text of a scenario is its own.
use Rattle.std.proofs.Common.{◌≡◌, refl}
use Rattle.cs_types.specs.declared.scenario.Scenario.{Scenario}
use Rattle.cs_types.specs.Scenario.{IsValid}
use Rattle.scenario_text.specs.Text.{scenario_text}
use Rattle.scenario_text.specs.Reader.{IsTextOf}
use Rattle.scenario_text.proofs.Scenarios.{one_scenario}

-- the text of a valid scenario is that of no other
pub text_is_its_own : (scenario : Scenario) → IsValid scenario → (other : Scenario) → IsTextOf (scenario_text scenario) other → other ≡ scenario
text_is_its_own scenario valid other is =
    one_scenario (scenario_text scenario) other scenario is (record { valid = valid; text = refl })
