use Rattle.std.proofs.Common.{ap, rules, tests}
use Rattle.std.specs.Prelude.{not}
use Rattle.std.proofs.lemmas.Bool.{eq-eqb}
use Rattle.std.proofs.lemmas.Iterator.{YieldsList-from_slice}
use Rattle.std.proofs.lemmas.Iterator.Search.{any_from_yields_List}
use Rattle.cs_types.specs.declared.task.Creds.{Creds}
use Rattle.cs_types.specs.Scenario.{is_user}
use Rattle.scenario_text.specs.Reading.{is_next_user}
use Rattle.scenario_text.proofs.plan.is_next_user.Goals as goal

pub returns-then-user-users : goal.returns-then-user-users
unfolding is_next_user
returns-then-user-users c =
    let user = c.args.user.now in
    let users = c.args.users.now in
    rw (eq-eqb user.number _ c.if-user-users.true)
    (ap not (any_from_yields_List (λ (other : Creds). is_user user.creds other) _ _ c.any.result c.any.ensures.ran (YieldsList-from_slice users cc) (λ x b q k. search (rules, tests))))
