-- Faults: the line that tells why an input is no scenario, or cannot be played. The fault line of a program is its name, a
-- colon, a space and this line.
use Rattle.std.specs.Prelude.{◌≡◌, ℕ, List, [], ◌∷◌, ◌++◌, codes, decimal, Option, Some, None}
use Rattle.scenario_text.specs.declared.fault.BadKind.{BadKind}
use Rattle.scenario_text.specs.declared.fault.BadKind.TheVariants.{After, Cut, Shape, Number, Twice, Leader, Full, User}
use Rattle.scenario_input.specs.declared.stop.GuardKind.{GuardKind}
use Rattle.scenario_input.specs.declared.stop.GuardKind.TheVariants as guard
use Rattle.scenario_input.specs.declared.status.Status.{Status}
use Rattle.scenario_input.specs.declared.status.Status.TheVariants.{BadScenario, BadGuard, TooLong}

abbrev pub kind_text : BadKind → List ℕ
kind_text After = codes "After"
kind_text Cut = codes "Cut"
kind_text Shape = codes "Shape"
kind_text Number = codes "Number"
kind_text Twice = codes "Twice"
kind_text Leader = codes "Leader"
kind_text Full = codes "Full"
kind_text User = codes "User"

abbrev pub guard_text : GuardKind → List ℕ
guard_text guard.NoGuard = codes "guard NoGuard"
guard_text guard.Full = codes "guard Full"

-- `line L: ` and what is wrong with that line
abbrev pub numbered : ℕ → List ℕ → List ℕ
numbered line what = codes "line " ++ decimal line ++ codes ": " ++ what ++ 10 ∷ []

abbrev pub too_long_line : List ℕ
too_long_line = codes "input too long" ++ 10 ∷ []

-- the line of a status whose reason lies in the text of the input
abbrev pub fault_line : Status → Option (List ℕ)
fault_line (BadScenario line kind) = Some (numbered line (kind_text kind))
fault_line (BadGuard line kind) = Some (numbered line (guard_text kind))
fault_line TooLong = Some too_long_line
fault_line status = None

-- the text begins with this line; what comes after that is not said here
abbrev pub BeginsWith : List ℕ → List ℕ → Type 0
BeginsWith line text = (rest : List ℕ) × (text ≡ line ++ rest)

-- What is said of an input that ends in this status begins with the line of that. Nothing is said if it has none.
abbrev pub Explains : Status → Option (List ℕ) → Type 0
Explains status None = fault_line status ≡ None
Explains status (Some text) = (line : List ℕ) × (fault_line status ≡ Some line) × BeginsWith line text
