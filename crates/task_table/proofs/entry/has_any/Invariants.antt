use Rattle.std.proofs.Common.{◌≡◌, take}
use Rattle.std.specs.List.{list_any}
use Rattle.task_table.specs.Inside.{tells_group}
use Rattle.task_table.proofs.entry.has_any.Given as goal

abbrev pub invariant-loop-entry : goal.invariant-loop-entry
invariant-loop-entry l = l.any ≡ list_any (tells_group l.group) (take l.entry-index l.entries)
