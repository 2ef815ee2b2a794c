use Rattle.std.proofs.Common.{◌≡◌, max, arith, rules, tests}
use Rattle.std.specs.Prelude.{fold}
use Rattle.std.proofs.lemmas.Iterator.{YieldsList-from_slice}
use Rattle.std.proofs.lemmas.Iterator.Consumers.{fold_from_yields_List}
use Rattle.cs_types.specs.declared.task.TaskSpec.{TaskSpec}
use Rattle.cs_laws.proofs.Tasks.{first_pid-le}
use Rattle.core_tasks.proofs.start.first_pid.Goals as goal

pub overflow_add-result : goal.overflow_add-result
overflow_add-result c =
    let greatest : c.fold.result ≡ fold (λ pid spec. max pid spec.pid) 0 c.args.specs.now =
    fold_from_yields_List _ (λ pid (spec : TaskSpec). max pid spec.pid) 0 c.fold.result c.fold.ensures.ran (YieldsList-from_slice c.args.specs.now cc) (λ a x b q k. search (rules, tests)) in
    omega (arith, greatest, first_pid-le 9999 c.args.specs.now c.requires)
