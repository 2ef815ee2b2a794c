-- Checks: what the command `check` writes of an input, and why it does not judge another (this project's rules).
use Rattle.std.specs.Prelude.{◌≡◌, ◌↔◌, ℕ, ◌+◌, Bool, List, ◌++◌, length, Option, Some, None}
use Rattle.cs_types.specs.declared.scenario.Scenario.{Scenario}
use Rattle.cs_types.specs.Scenario.{IsValid}
use Rattle.cs_outside.specs.Device.{appended, WritesPrefix}
use Rattle.scenario_text.specs.declared.fault.BadKind.{BadKind}
use Rattle.scenario_text.specs.Text.{scenario_text}
use Rattle.scenario_text.specs.Faults.{lines_in, IsFirstBad}
use Rattle.scenario_text.specs.Reader.{HasNoScenario}
use Rattle.scenario_input.specs.declared.stop.GuardKind.{GuardKind}
use Rattle.scenario_input.specs.declared.stop.Stop.{Stop}
use Rattle.scenario_input.specs.declared.stop.Stop.TheVariants.{BadScenario, BadGuard, OutOfMemory}
use Rattle.scenario_input.specs.Input.{IsReadAs}
use Rattle.scenario_input.specs.Teaching.{first_bad}
use Rattle.trace_check.specs.declared.verdict.Verdict.{Verdict}
use Rattle.trace_check.specs.declared.verdict.Verdict.TheVariants.{Yes}
use Rattle.trace_check.specs.Lines.{lines_of}
use Rattle.trace_check.specs.Parts.{scenario_part}
use Rattle.trace_check.specs.Verdicts.{IsPrinted, IsVerdict}
use Rattle.trace_check.specs.VerdictTexts.{verdict_output}
use Rattle.scenario_runner.specs.Outcomes.{opened_with}

-- The input is the text of this valid scenario and a text behind it, its run, and of no other two.
pub record IsParted (scenario : Scenario) (run input : List ℕ) : Type 0 where
  pub valid : IsValid scenario
  pub parts : input ≡ scenario_text scenario ++ run
  pub alone : (other : Scenario) (behind : List ℕ) → IsValid other → input ≡ scenario_text other ++ behind → (other ≡ scenario) × (behind ≡ run)

-- The input is the text of a scenario, whose teach lines can be carried out with guards that can be taught this many
-- pairs each, and a run behind it. The text is the verdict on that run, whose first line stands behind the scenario's.
pub record IsJudged (json : Bool) (caps input text : List ℕ) : Type 0 where
  pub scenario : Scenario
  pub run : List ℕ
  pub parted : IsParted scenario run input
  pub taught : first_bad caps scenario.teaches ≡ None
  pub verdict : Verdict
  pub judged : IsVerdict (opened_with caps scenario) (length (lines_of (scenario_text scenario)) + 1) run verdict
  -- it is yes exactly if the run is printed
  pub exact : (verdict ≡ Yes) ↔ IsPrinted (opened_with caps scenario) run
  pub spelled : text ≡ verdict_output json verdict

-- The input was read to its end, and what was written is the verdict on its run.
pub record Checks (json : Bool) (caps : List ℕ) (before left written now : Option (List ℕ)) : Type 0 where
  pub input : List ℕ
  pub read : IsReadAs before input left
  pub text : List ℕ
  pub judged : IsJudged json caps input text
  pub writes : now ≡ appended written text

-- Or a prefix of that was written.
pub record CheckBreaksOff (json : Bool) (caps : List ℕ) (before left written now : Option (List ℕ)) : Type 0 where
  pub input : List ℕ
  pub read : IsReadAs before input left
  pub text : List ℕ
  pub judged : IsJudged json caps input text
  pub writes : WritesPrefix written text now

-- ---- why an input is not judged

-- The scenario that the input begins with, up to and with its first line `end`, is the text of no valid scenario, and
-- this is its first bad line, with the first kind that holds.
pub record IsBadPart (line : ℕ) (kind : BadKind) (input : List ℕ) : Type 0 where
  pub first : IsFirstBad (lines_in (scenario_part input)) line kind
  pub text : HasNoScenario (scenario_part input)

-- The input begins with a scenario, and this is its first teach line that cannot be carried out.
pub record IsBadTeach (caps : List ℕ) (at : ℕ) (what : GuardKind) (input : List ℕ) : Type 0 where
  pub scenario : Scenario
  pub run : List ℕ
  pub parted : IsParted scenario run input
  pub first : first_bad caps scenario.teaches ≡ Some (record { line = at; kind = what })

-- why an input that was read is not judged: its scenario is bad, or a teach line, or there was no memory
abbrev pub IsUnjudged : List ℕ → List ℕ → Stop → Type 0
IsUnjudged caps input (BadScenario line kind) = IsBadPart line kind input
IsUnjudged caps input (BadGuard line kind) = IsBadTeach caps line kind input
IsUnjudged caps input OutOfMemory = Unit {0}
IsUnjudged caps input stop = ⊥
