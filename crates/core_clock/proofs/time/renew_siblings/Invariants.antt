use Rattle.core_lanes.specs.Changes.{Changes}
use Rattle.core_lanes.specs.Comparisons.{ComparesFor}
use Rattle.core_clock.proofs.Clocks.{renewed_first}
use Rattle.core_clock.proofs.time.renew_siblings.Given as goal

abbrev pub invariant-loop-cpu : goal.invariant-loop-cpu
invariant-loop-cpu g l = record {
  changes : Changes (l.initial.core, l.table) (l.core, l.table) (renewed_first l.delta l.cpu);
  counted : ComparesFor l.cpu (l.initial.core, l.table) l.fn.comparisons l.comparisons;
}
