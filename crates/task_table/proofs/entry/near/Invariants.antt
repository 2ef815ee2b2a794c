use Rattle.std.proofs.Common.{◌≤◌, length}
use Rattle.task_table.proofs.entry.near.Given as goal

abbrev pub invariant-loop-position : goal.invariant-loop-position
invariant-loop-position l = l.end ≤ length l.entries
