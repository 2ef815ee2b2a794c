use Rattle.std.proofs.Common.{◌∙◌, ap, subst, refl}
use Rattle.cs_types.specs.declared.scenario.Scenario.{Scenario}
use Rattle.cs_types.specs.Scenario.{IsValid}
use Rattle.scenario_runner.proofs.Drills.{ends_drilled, ends_undrilled}
use Rattle.scenario_runner.proofs.drilled.drilled.Goals as goal

pub returns-in-Ok : goal.returns-in-Ok
returns-in-Ok g c =
    ends_drilled c.args.seed _ (g.R.Room.opening c.in-Ok.room) c.items.result.now c.write_drill.result c.in-Ok.ensures.opening
    (subst IsValid c.in-Ok.ensures.scenario c.in-Ok.ensures.valid) (c.items.ensures ∙ ap (λ (s : Scenario). s.steps) c.in-Ok.ensures.scenario)
    c.requires.sink c.write_drill.ensures

pub returns-in-Err : goal.returns-in-Err
returns-in-Err g c = ends_undrilled c.args.seed _ refl
