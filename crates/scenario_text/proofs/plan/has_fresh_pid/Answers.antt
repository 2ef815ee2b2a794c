use Rattle.std.proofs.Common.{eqb, ap, rules, tests}
use Rattle.std.specs.Prelude.{not}
use Rattle.std.proofs.lemmas.Iterator.{YieldsList-from_slice}
use Rattle.std.proofs.lemmas.Iterator.Search.{any_from_yields_List}
use Rattle.cs_types.specs.declared.task.TaskSpec.{TaskSpec}
use Rattle.scenario_text.specs.Reading.{has_fresh_pid}
use Rattle.scenario_text.proofs.plan.has_fresh_pid.Goals as goal

pub returns : goal.returns
unfolding has_fresh_pid
returns c =
    ap not (any_from_yields_List (λ (other : TaskSpec). eqb other.pid c.args.task.now.pid) _ _ c.any.result c.any.ensures.ran (YieldsList-from_slice c.args.tasks.now cc) (λ x b q k. search (rules, tests)))
