use Rattle.std.proofs.Common.{◌*◌}
use Rattle.core_lanes.specs.Changes.{Changes}
use Rattle.core_lanes.specs.Comparisons.{ComparesFor}
use Rattle.core_clock.proofs.Growth.{grown_with_first}
use Rattle.core_clock.proofs.time.grow_tasks.Given as goal

abbrev pub invariant-loop-cpu : goal.invariant-loop-cpu
invariant-loop-cpu g l = record {
  changes : Changes (l.initial.core, l.initial.table) (l.core, l.table) (grown_with_first l.delta l.cpu);
  counted : ComparesFor (2 * l.cpu) (l.initial.core, l.initial.table) l.fn.comparisons l.comparisons;
}
