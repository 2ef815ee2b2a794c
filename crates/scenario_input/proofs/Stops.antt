-- Which status comes of what stops an input.
use Rattle.std.proofs.Common.{◌≡◌, ℕ, refl}
use Rattle.scenario_text.specs.declared.fault.BadKind.{BadKind}
use Rattle.scenario_input.specs.declared.stop.GuardKind.{GuardKind}
use Rattle.scenario_input.specs.declared.stop.Stop.{Stop}
use Rattle.scenario_input.specs.declared.stop.Stop.TheVariants.{ReadFault, TooLong, BadScenario, BadGuard, OutOfMemory}
use Rattle.scenario_input.specs.declared.status.Status.TheVariants as status
use Rattle.scenario_input.specs.Stop.{status_of}

pub stop_not_done : (stop : Stop) → status_of stop ≡ status.Done → ⊥
stop_not_done ReadFault e = cc
stop_not_done TooLong e = cc
stop_not_done (BadScenario line kind) e = cc
stop_not_done (BadGuard at what) e = cc
stop_not_done OutOfMemory e = cc

pub stop_not_words : (stop : Stop) → status_of stop ≡ status.BadWords → ⊥
stop_not_words ReadFault e = cc
stop_not_words TooLong e = cc
stop_not_words (BadScenario line kind) e = cc
stop_not_words (BadGuard at what) e = cc
stop_not_words OutOfMemory e = cc

pub stop_not_write : (stop : Stop) → status_of stop ≡ status.WriteFault → ⊥
stop_not_write ReadFault e = cc
stop_not_write TooLong e = cc
stop_not_write (BadScenario line kind) e = cc
stop_not_write (BadGuard at what) e = cc
stop_not_write OutOfMemory e = cc

pub stop_read : (stop : Stop) → status_of stop ≡ status.ReadFault → stop ≡ ReadFault
stop_read ReadFault e = refl
stop_read TooLong e = cc
stop_read (BadScenario line kind) e = cc
stop_read (BadGuard at what) e = cc
stop_read OutOfMemory e = cc

pub stop_long : (stop : Stop) → status_of stop ≡ status.TooLong → stop ≡ TooLong
stop_long ReadFault e = cc
stop_long TooLong e = refl
stop_long (BadScenario line kind) e = cc
stop_long (BadGuard at what) e = cc
stop_long OutOfMemory e = cc

pub stop_bad : (stop : Stop) (line : ℕ) (kind : BadKind) → status_of stop ≡ status.BadScenario line kind → stop ≡ BadScenario line kind
stop_bad ReadFault line kind e = cc
stop_bad TooLong line kind e = cc
stop_bad (BadScenario at what) line kind e = cc
stop_bad (BadGuard at what) line kind e = cc
stop_bad OutOfMemory line kind e = cc

pub stop_guard : (stop : Stop) (line : ℕ) (kind : GuardKind) → status_of stop ≡ status.BadGuard line kind → stop ≡ BadGuard line kind
stop_guard ReadFault line kind e = cc
stop_guard TooLong line kind e = cc
stop_guard (BadScenario at what) line kind e = cc
stop_guard (BadGuard at what) line kind e = cc
stop_guard OutOfMemory line kind e = cc
