-- Why an input that is a scenario's text is given up for lack of memory or for a guard alone, where the source does not fail.
use Rattle.std.proofs.Common.{◌≡◌, ℕ, ◌-◌, ◌^◌, ◌<◌, ◌≤◌, List, length, refl, inl, inr, arith}
use Rattle.std.specs.Prelude.{◌⊎◌, Option, Some}
use Rattle.cs_types.specs.declared.scenario.Scenario.{Scenario}
use Rattle.cs_types.specs.Scenario.{IsValid}
use Rattle.cs_outside.specs.Device.{Rose}
use Rattle.scenario_text.specs.declared.fault.BadKind.{BadKind}
use Rattle.scenario_text.specs.Text.{scenario_text}
use Rattle.scenario_input.specs.declared.stop.GuardKind.{GuardKind}
use Rattle.scenario_input.specs.declared.stop.Stop.{Stop}
use Rattle.scenario_input.specs.declared.stop.Stop.TheVariants.{ReadFault, TooLong, BadScenario, BadGuard, OutOfMemory}
use Rattle.scenario_input.specs.declared.status.Status.TheVariants as status
use Rattle.scenario_input.specs.Input.{IsBad, input_limit, count_read}
use Rattle.scenario_input.specs.Stop.{status_of}
use Rattle.scenario_input.proofs.Inputs.{count_read-le}

pub stop_complete : (stop : Stop) (now : Option (List ℕ)) (faults then : ℕ) (scenario : Scenario) →
    (stop ≡ TooLong → input_limit < count_read (Some (scenario_text scenario)) now) →
    ((line : ℕ) (kind : BadKind) → stop ≡ BadScenario line kind → IsBad line kind (Some (scenario_text scenario)) now) →
    (stop ≡ ReadFault → Rose faults then) →
    faults < 2 ^ 64 - 1 → IsValid scenario → length (scenario_text scenario) ≤ input_limit → then ≡ faults →
    (status_of stop ≡ status.OutOfMemory) ⊎ ((line : ℕ) × (kind : GuardKind) × (stop ≡ BadGuard line kind))
stop_complete ReadFault now faults then scenario long bad failed few valid fits same = absurd (omega (arith, failed refl))
stop_complete TooLong now faults then scenario long bad failed few valid fits same =
    absurd (omega (arith, long refl, count_read-le (scenario_text scenario) now))
stop_complete (BadScenario line kind) now faults then scenario long bad failed few valid fits same =
    absurd ((bad line kind refl).text scenario (record { valid = valid; text = refl }))
stop_complete (BadGuard line kind) now faults then scenario long bad failed few valid fits same = inr (line, kind, refl)
stop_complete OutOfMemory now faults then scenario long bad failed few valid fits same = inl refl
