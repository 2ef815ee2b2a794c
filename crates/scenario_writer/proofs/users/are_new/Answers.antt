use Rattle.std.proofs.Common.{ap, ◌∙◌, sym, rules, tests}
use Rattle.std.specs.Prelude.{not}
use Rattle.std.proofs.lemmas.Iterator.{YieldsList-from_slice}
use Rattle.std.proofs.lemmas.Iterator.Search.{any_from_yields_List}
use Rattle.cs_types.specs.declared.task.TaskSpec.{TaskSpec}
use Rattle.cs_types.specs.Scenario.{is_user}
use Rattle.scenario_writer.proofs.Counted.{any_creds}
use Rattle.scenario_writer.proofs.users.are_new.Goals as goal

pub returns : goal.returns
returns c =
    let creds = c.args.creds.now in
    ap not (any_from_yields_List (λ (task : TaskSpec). is_user creds task.creds) _ _ c.any.result c.any.ensures.ran (YieldsList-from_slice c.args.earlier.now cc) (λ x b q k. search (rules, tests))
    ∙ sym (any_creds creds c.args.earlier.now))
