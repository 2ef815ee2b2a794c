use Rattle.std.proofs.Common.{◌∙◌, sym, subst}
use Rattle.cs_types.specs.Scenario.{IsValid}
use Rattle.room_drill.proofs.Valid.{valid_scenario, drill_drawn}
use Rattle.room_drill.proofs.scenario.generate.Goals as goal

pub returns-clause-scenario : goal.returns-clause-scenario
returns-clause-scenario c =
    (λ i. record {
      version = 1;
      siblings = 4;
      task_limit = 64;
      cookie_limit = 16;
      user_top = 1048576;
      tasks = c.of.ensures i;
      teaches = (c.of-2.ensures ∙ c.new.ensures.items) i;
      steps = c.of-3.ensures i;
    })
    ∙ drill_drawn c.args.seed _ _ _ _ _ c.of-generator.ensures c.in_ok-tasks.ensures c.in_ok-steps.ensures

pub returns-clause-valid : goal.returns-clause-valid
returns-clause-valid c = subst IsValid (sym (returns-clause-scenario c)) (valid_scenario c.args.seed)
