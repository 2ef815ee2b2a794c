-- Exit: the exit status of a program, by how its command ended (this project's rule).
use Rattle.std.specs.Prelude.{ℕ}
use Rattle.scenario_input.specs.declared.status.Status.{Status}
use Rattle.scenario_input.specs.declared.status.Status.TheVariants.{Done, BadWords, BadScenario, BadGuard, TooLong, ReadFault, WriteFault, OutOfMemory}

abbrev pub exit_code : Status → ℕ
exit_code Done = 0
exit_code BadWords = 1
exit_code (BadScenario line kind) = 2
exit_code (BadGuard line kind) = 2
exit_code TooLong = 2
exit_code ReadFault = 3
exit_code WriteFault = 4
exit_code OutOfMemory = 5
