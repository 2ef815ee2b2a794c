use Rattle.std.proofs.Common.{◌+◌, ◌-◌}
use Rattle.room_drill.specs.Drill.{drawn_step}
use Rattle.room_drill.proofs.Drawn.{SoFar}
use Rattle.room_drill.proofs.scenario.steps.Given as goal

abbrev pub invariant-loop : goal.invariant-loop
invariant-loop l = SoFar (λ number. drawn_step) 1 l.fn.count l.fn.generator l.steps.items (l.counter + 1) (l.count - l.counter) l.generator
