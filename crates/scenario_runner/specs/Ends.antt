-- Ends: how a command ends with its own words. When each status comes, what was read for it, and what was written.
use Rattle.std.specs.Prelude.{◌≡◌, ◌≢◌, ◌⊎◌, ◌↔◌, ℕ, ◌+◌, ◌<◌, ◌≤◌, Bool, List, ◌++◌, length, Option, Some, None, IfSome}
use Rattle.cs_types.specs.declared.scenario.Scenario.{Scenario}
use Rattle.cs_types.specs.Scenario.{IsValid}
use Rattle.scenario_text.specs.declared.fault.BadKind.{BadKind}
use Rattle.scenario_text.specs.Text.{scenario_text}
use Rattle.scenario_text.specs.Faults.{lines_in, IsFirstBad}
use Rattle.scenario_input.specs.declared.status.Status.{Status}
use Rattle.scenario_input.specs.declared.status.Status.TheVariants.{Done, BadWords, BadScenario, BadGuard, TooLong, ReadFault, WriteFault, OutOfMemory}
use Rattle.scenario_input.specs.declared.stop.GuardKind.{GuardKind}
use Rattle.scenario_input.specs.Input.{IsReadAs, Reads, IsBad, input_limit, judged_limit, count_read}
use Rattle.scenario_input.specs.Teaching.{BadTeach, first_bad}
use Rattle.cs_types.specs.Room.{Opening}
use Rattle.cs_types.specs.History.{History}
use Rattle.command_words.specs.declared.command.Command.{Command}
use Rattle.command_words.specs.declared.command.Command.TheVariants.{Replay, Race, Upgrade, Check, Drill}
use Rattle.trace_check.specs.Parts.{scenario_part}
use Rattle.scenario_runner.specs.Checks.{Checks, CheckBreaksOff, IsBadPart, IsBadTeach}
use Rattle.scenario_runner.specs.Upgrades.{Upgrades, UpgradeBreaksOff}
use Rattle.scenario_runner.specs.Outcomes.{opened_with, IsReplayHistory, IsRaceHistory, Outputs, BreaksOff, DrillOutputs, DrillBreaksOff}

-- a device before and after a call: what is known of its bytes, and the count of its faults
pub record Used (D : Type 0) : Type 0 where
  pub bytes : D → Option (List ℕ)
  pub faults : D → ℕ
  pub before : D
  pub after : D

-- the count of the device's faults rose in the call
abbrev pub FaultsRose : {D : Type 0} → Used D → Type 0
FaultsRose device = device.faults device.before < device.faults device.after

-- that count stands as it stood at the call
abbrev pub IsFaultless : {D : Type 0} → Used D → Type 0
IsFaultless device = device.faults device.after ≡ device.faults device.before

-- How a command uses its devices that reads an input of at most so many bytes to its end and then writes a text. When
-- memory runs out is left open.
pub record ReadsAndWrites {S K : Type 0} (limit : ℕ) (source : Used S) (sink : Used K) (status : Status) : Type 0 where
  -- no fault of the source was counted, unless a read fault is the answer, and none of the sink, unless a write fault
  -- is
  pub faultless : (status ≢ ReadFault → IsFaultless source) × (status ≢ WriteFault → IsFaultless sink)
  -- its own words are never bad
  pub good_words : status ≢ BadWords
  -- only if the source failed
  pub read_fault : status ≡ ReadFault → FaultsRose source
  -- exactly if more bytes were read than an input may have, of a source whose bytes are known
  pub too_long : IfSome (source.bytes source.before) (λ _.
      (status ≡ TooLong) ↔ (limit < count_read (source.bytes source.before) (source.bytes source.after)))
  -- no more is read than one byte beyond that
  pub most : IfSome (source.bytes source.before) (λ _.
      count_read (source.bytes source.before) (source.bytes source.after) ≤ limit + 1)
  -- only if the sink failed
  pub write_fault : status ≡ WriteFault → FaultsRose sink
  -- nothing was written unless it is done or the sink failed
  pub unwritten : status ≢ Done → status ≢ WriteFault → sink.after ≡ sink.before

-- The input is a scenario, and this is its first teach line that cannot be carried out, by how many pairs each guard
-- can be taught.
pub record IsBadGuard (caps : List ℕ) (at : ℕ) (what : GuardKind) (input left : Option (List ℕ)) : Type 0 where
  pub scenario : Scenario
  pub reads : Reads scenario input left
  pub first : first_bad caps scenario.teaches ≡ Some (record { line = at; kind = what })

-- How a command ends that plays an input, over a source and a sink, with guards that can be taught this many pairs
-- each. What the history of a run may be is given. When memory runs out is left open.
pub record EndsAs {S K : Type 0} (IsOutcome : Opening → History → Type 0) (caps : List ℕ) (source : Used S) (sink : Used K) (status : Status) : Type 0 where
  -- if it is done, what was read is the text of a scenario, and what was written is the history of its run and its
  -- report
  pub done : status ≡ Done → (scenario : Scenario) ×
      Outputs IsOutcome (opened_with caps scenario) (source.bytes source.before) (source.bytes source.after) (sink.bytes sink.before) (sink.bytes sink.after)
  -- its devices are used as by each command that reads and writes
  pub devices : ReadsAndWrites input_limit source sink status
  -- only if the input was read to its end and no valid scenario has that text, with its first bad line and kind
  pub bad_scenario : (line : ℕ) (kind : BadKind) → status ≡ BadScenario line kind →
      IsBad line kind (source.bytes source.before) (source.bytes source.after)
  -- only if the input is a scenario, and this is its first teach line that cannot be carried out
  pub bad_guard : (line : ℕ) (kind : GuardKind) → status ≡ BadGuard line kind →
      IsBadGuard caps line kind (source.bytes source.before) (source.bytes source.after)
  -- at a write fault a prefix of the output was written
  pub write_fault : status ≡ WriteFault → (scenario : Scenario) ×
      BreaksOff IsOutcome (opened_with caps scenario) (source.bytes source.before) (source.bytes source.after) (sink.bytes sink.before) (sink.bytes sink.after)
  -- it gives up on no valid scenario all of whose teach lines can be carried out, if nothing failed
  pub complete : (scenario : Scenario) → IsValid scenario →
      source.bytes source.before ≡ Some (scenario_text scenario) → length (scenario_text scenario) ≤ input_limit →
      first_bad caps scenario.teaches ≡ None → IsFaultless source → IsFaultless sink →
      (status ≡ Done) ⊎ (status ≡ OutOfMemory)
  -- if the input has a first bad line, the status names that and its first kind
  pub told_line : (bytes : List ℕ) (line : ℕ) (kind : BadKind) →
      source.bytes source.before ≡ Some bytes → length bytes ≤ input_limit → IsFirstBad (lines_in bytes) line kind → IsFaultless source →
      (status ≡ BadScenario line kind) ⊎ (status ≡ OutOfMemory)
  -- and if a teach line cannot be carried out, the status names the first
  pub told : (scenario : Scenario) (bad : BadTeach) → IsValid scenario →
      source.bytes source.before ≡ Some (scenario_text scenario) → length (scenario_text scenario) ≤ input_limit →
      first_bad caps scenario.teaches ≡ Some bad → IsFaultless source →
      (status ≡ BadGuard bad.line bad.kind) ⊎ (status ≡ OutOfMemory)

-- how the command `replay` ends
abbrev pub EndsAsReplay : {S K : Type 0} → List ℕ → Used S → Used K → Status → Type 0
EndsAsReplay = EndsAs IsReplayHistory

-- how the command `race` ends
abbrev pub EndsAsRace : {S K : Type 0} → List ℕ → Used S → Used K → Status → Type 0
EndsAsRace = EndsAs IsRaceHistory

-- How the command `drill` ends, by its seed. It has no input. When memory runs out is left open.
pub record EndsAsDrill {K : Type 0} (seed : ℕ) (sink : Used K) (status : Status) : Type 0 where
  -- there is no other end
  pub either : (status ≡ Done) ⊎ ((status ≡ WriteFault) ⊎ (status ≡ OutOfMemory))
  -- if it is done, what was written is the output of the drill
  pub done : status ≡ Done → DrillOutputs seed (sink.bytes sink.before) (sink.bytes sink.after)
  -- only if the sink failed, and then a prefix of that was written
  pub write_fault : status ≡ WriteFault → FaultsRose sink × DrillBreaksOff seed (sink.bytes sink.before) (sink.bytes sink.after)
  -- no fault of the sink was counted, unless a write fault is the answer
  pub faultless : status ≢ WriteFault → IsFaultless sink
  -- without memory nothing was written
  pub unwritten : status ≡ OutOfMemory → sink.after ≡ sink.before

-- How the command `upgrade` ends, over a source and a sink. When memory runs out is left open.
pub record EndsAsUpgrade {S K : Type 0} (source : Used S) (sink : Used K) (status : Status) : Type 0 where
  -- if it is done, what was read is the text of a scenario, and what was written is its text in version 2
  pub done : status ≡ Done → (scenario : Scenario) ×
      Upgrades scenario (source.bytes source.before) (source.bytes source.after) (sink.bytes sink.before) (sink.bytes sink.after)
  -- its devices are used as by each command that reads and writes
  pub devices : ReadsAndWrites input_limit source sink status
  -- only if the input was read to its end and no valid scenario has that text, with its first bad line and kind
  pub bad_scenario : (line : ℕ) (kind : BadKind) → status ≡ BadScenario line kind →
      IsBad line kind (source.bytes source.before) (source.bytes source.after)
  -- no guard is handed in, and none is missed
  pub no_guard : (line : ℕ) (kind : GuardKind) → status ≢ BadGuard line kind
  -- at a write fault a prefix of the text was written
  pub write_fault : status ≡ WriteFault → (scenario : Scenario) ×
      UpgradeBreaksOff scenario (source.bytes source.before) (source.bytes source.after) (sink.bytes sink.before) (sink.bytes sink.after)
  -- it gives up on no valid scenario, if nothing failed
  pub complete : (scenario : Scenario) → IsValid scenario →
      source.bytes source.before ≡ Some (scenario_text scenario) → length (scenario_text scenario) ≤ input_limit →
      IsFaultless source → IsFaultless sink → (status ≡ Done) ⊎ (status ≡ OutOfMemory)
  -- if the input has a first bad line, the status names that and its first kind
  pub told_line : (bytes : List ℕ) (line : ℕ) (kind : BadKind) →
      source.bytes source.before ≡ Some bytes → length bytes ≤ input_limit → IsFirstBad (lines_in bytes) line kind → IsFaultless source →
      (status ≡ BadScenario line kind) ⊎ (status ≡ OutOfMemory)

-- How the command `check` ends, over a source and a sink, with guards that can be taught this many pairs each. When memory
-- runs out is left open.
pub record EndsAsCheck {S K : Type 0} (json : Bool) (caps : List ℕ) (source : Used S) (sink : Used K) (status : Status) : Type 0 where
  -- if it is done, what was read is the text of a scenario and a run behind it, and what was written is the verdict on
  -- that run
  pub done : status ≡ Done →
      Checks json caps (source.bytes source.before) (source.bytes source.after) (sink.bytes sink.before) (sink.bytes sink.after)
  -- its devices are used as by each command that reads and writes
  pub devices : ReadsAndWrites judged_limit source sink status
  -- only if the input was read to its end and no valid scenario has the text that it begins with, with the first bad
  -- line and kind of that
  pub bad_scenario : (line : ℕ) (kind : BadKind) → status ≡ BadScenario line kind → (input : List ℕ) ×
      IsReadAs (source.bytes source.before) input (source.bytes source.after) × IsBadPart line kind input
  -- only if it begins with a scenario, and this is the first teach line of that which cannot be carried out
  pub bad_guard : (line : ℕ) (kind : GuardKind) → status ≡ BadGuard line kind → (input : List ℕ) ×
      IsReadAs (source.bytes source.before) input (source.bytes source.after) × IsBadTeach caps line kind input
  -- at a write fault a prefix of the verdict was written
  pub write_fault : status ≡ WriteFault →
      CheckBreaksOff json caps (source.bytes source.before) (source.bytes source.after) (sink.bytes sink.before) (sink.bytes sink.after)
  -- it judges any text behind a valid scenario all of whose teach lines can be carried out, if nothing failed
  pub complete : (scenario : Scenario) (run : List ℕ) → IsValid scenario →
      source.bytes source.before ≡ Some (scenario_text scenario ++ run) → length (scenario_text scenario ++ run) ≤ judged_limit →
      first_bad caps scenario.teaches ≡ None → IsFaultless source → IsFaultless sink →
      (status ≡ Done) ⊎ (status ≡ OutOfMemory)
  -- if the scenario that the input begins with has a first bad line, the status names that and its first kind
  pub told_line : (input : List ℕ) (line : ℕ) (kind : BadKind) →
      source.bytes source.before ≡ Some input → length input ≤ judged_limit → IsFirstBad (lines_in (scenario_part input)) line kind →
      IsFaultless source → (status ≡ BadScenario line kind) ⊎ (status ≡ OutOfMemory)
  -- and if a teach line cannot be carried out, the status names the first
  pub told : (scenario : Scenario) (run : List ℕ) (bad : BadTeach) → IsValid scenario →
      source.bytes source.before ≡ Some (scenario_text scenario ++ run) → length (scenario_text scenario ++ run) ≤ judged_limit →
      first_bad caps scenario.teaches ≡ Some bad → IsFaultless source →
      (status ≡ BadGuard bad.line bad.kind) ⊎ (status ≡ OutOfMemory)

-- how each command ends
abbrev pub EndsBy : {S K : Type 0} → Command → List ℕ → Used S → Used K → Status → Type 0
EndsBy Replay caps source sink status = EndsAsReplay caps source sink status
EndsBy Race caps source sink status = EndsAsRace caps source sink status
EndsBy Upgrade caps source sink status = EndsAsUpgrade source sink status
EndsBy (Check json) caps source sink status = EndsAsCheck json caps source sink status
-- a drill reads nothing
EndsBy (Drill seed) caps source sink status = EndsAsDrill seed sink status × (source.after ≡ source.before)
