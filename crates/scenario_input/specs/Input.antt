-- The input: what was read of it, and how much.
use Rattle.std.specs.Prelude.{◌≡◌, ℕ, ◌-◌, List, [], length, Option, Some, IfSome}
use Rattle.std.specs.Option.{option_map_or}
use Rattle.cs_types.specs.declared.scenario.Scenario.{Scenario}
use Rattle.cs_types.specs.Scenario.{IsValid}
use Rattle.cs_outside.specs.Device.{prepended}
use Rattle.scenario_text.specs.declared.fault.BadKind.{BadKind}
use Rattle.scenario_text.specs.Text.{scenario_text}
use Rattle.scenario_text.specs.Faults.{lines_in, IsFirstBad}
use Rattle.scenario_text.specs.Reader.{HasNoScenario}

-- the most bytes that an input may have (this project's rule)
abbrev pub input_limit : ℕ
input_limit = 16777216

-- the most bytes that a scenario and a printed run behind it may have together (this project's rule)
abbrev pub judged_limit : ℕ
judged_limit = 33554432

-- how many bytes were read, where the source tells them
abbrev pub count_read : Option (List ℕ) → Option (List ℕ) → ℕ
count_read before now = option_map_or length before 0 - option_map_or length now 0

-- the input was these bytes and was read to its end, where the source tells it
abbrev pub IsReadAs : Option (List ℕ) → List ℕ → Option (List ℕ) → Type 0
IsReadAs before bytes now = (before ≡ prepended bytes now) × IfSome now (λ left. left ≡ [])

-- the input is the text of a valid scenario, and of no other, and was read to its end
pub record Reads (scenario : Scenario) (input left : Option (List ℕ)) : Type 0 where
  pub valid : IsValid scenario
  pub read : IsReadAs input (scenario_text scenario) left
  pub alone : (other : Scenario) → IsValid other → scenario_text other ≡ scenario_text scenario → other ≡ scenario

-- the input was read to its end, is the text of no valid scenario, and this is its first bad line, with the first kind that holds
pub record IsBad (line : ℕ) (kind : BadKind) (before now : Option (List ℕ)) : Type 0 where
  pub first : IfSome before (λ bytes. IsFirstBad (lines_in bytes) line kind)
  pub ended : IfSome before (λ _. now ≡ Some [])
  pub text : IfSome before HasNoScenario
