use Rattle.std.proofs.Common.{◌+◌, ◌-◌}
use Rattle.room_drill.specs.Drill.{drawn_task}
use Rattle.room_drill.proofs.Drawn.{SoFar}
use Rattle.room_drill.proofs.scenario.tasks.Given as goal

abbrev pub invariant-loop-index : goal.invariant-loop-index
invariant-loop-index l = SoFar drawn_task 1 l.fn.count l.fn.generator l.tasks.items (l.index + 1) (l.count - l.index) l.generator
