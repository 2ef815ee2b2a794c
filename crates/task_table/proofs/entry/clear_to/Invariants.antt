use Rattle.std.proofs.Common.{◌≡◌, ◌+◌, ◌*◌, drop}
use Rattle.std.specs.List.{position_from}
use Rattle.task_table.specs.Inside.{tells_group}
use Rattle.task_table.proofs.entry.clear_to.Given as goal

abbrev pub invariant-loop : goal.invariant-loop
invariant-loop l = record {
  at : l.clear ≡ l.from + 16 * l.counter;
  first : position_from (tells_group l.group) l.from (drop l.from l.entries) ≡ position_from (tells_group l.group) l.clear (drop l.clear l.entries);
}
