use Rattle.std.proofs.Common.{◌++◌, map, take, drop}
use Rattle.std.specs.List.{enumerate_from}
use Rattle.cs_types.specs.Hotplug.{left}
use Rattle.core_lanes.specs.Changes.{ChangesLanes}
use Rattle.cpu_hotplug.proofs.away.set_one_away.Given as goal

abbrev pub invariant-loop-other : goal.invariant-loop-other
invariant-loop-other g l = ChangesLanes l.initial.lanes l.lanes (λ siblings. map (left l.cpu) (enumerate_from 0 (take l.other siblings)) ++ drop l.other siblings)
