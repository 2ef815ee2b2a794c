use Rattle.std.proofs.Common.{eqb, rules, tests}
use Rattle.std.specs.Prelude.{◌&&◌}
use Rattle.std.proofs.lemmas.Bool.{ne_eqb}
use Rattle.std.proofs.lemmas.Iterator.{YieldsList-from_slice}
use Rattle.std.proofs.lemmas.Iterator.Search.{any_from_yields_List}
use Rattle.cs_types.specs.declared.task.TaskSpec.{TaskSpec}
use Rattle.scenario_text.specs.Reading.{has_leader}
use Rattle.scenario_text.proofs.plan.has_leader.Goals as goal

pub returns-else-task : goal.returns-else-task
unfolding has_leader
returns-else-task c =
    let task = c.args.task.now in
    rw (ne_eqb task.tgid task.pid c.if-task.false)
    (any_from_yields_List (λ (leader : TaskSpec). eqb leader.pid task.tgid && eqb leader.tgid leader.pid && eqb leader.pgid task.pgid) _ _ c.any.result c.any.ensures.ran (YieldsList-from_slice c.args.tasks.now cc) (λ x b q k. search (rules, tests)))
