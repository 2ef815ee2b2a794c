-- The reader: which scenario a text has, and which texts have none.
use Rattle.std.specs.Prelude.{◌≡◌, ℕ, List}
use Rattle.cs_types.specs.declared.scenario.Scenario.{Scenario}
use Rattle.cs_types.specs.Scenario.{IsValid}
use Rattle.scenario_text.specs.declared.fault.ReadFault.{ReadFault}
use Rattle.scenario_text.specs.declared.fault.ReadFault.TheVariants.{Bad, OutOfMemory}
use Rattle.scenario_text.specs.Words.{Word}
use Rattle.scenario_text.specs.Text.{scenario_text}
use Rattle.scenario_text.specs.Faults.{IsFirstBad}

-- the bytes are the text of the valid scenario
pub record IsTextOf (bytes : List ℕ) (scenario : Scenario) : Type 0 where
  pub valid : IsValid scenario
  pub text : bytes ≡ scenario_text scenario

-- the bytes are the text of no valid scenario
abbrev pub HasNoScenario : List ℕ → Type 0
HasNoScenario bytes = (scenario : Scenario) → ¬ (IsTextOf bytes scenario)

-- the bytes are the text of one scenario at most
abbrev pub HasOneScenario : List ℕ → Type 0
HasOneScenario bytes = (scenario other : Scenario) → IsTextOf bytes scenario → IsTextOf bytes other → scenario ≡ other

-- the fault names the first bad line and its first kind, or says that memory ran out
abbrev pub Tells : List (List Word) → ReadFault → Type 0
Tells lines (Bad line kind) = IsFirstBad lines line kind
Tells lines OutOfMemory = Unit {0}
