use Rattle.std.proofs.Common.{List, ℕ, sym, subst, arith}
use Rattle.cs_types.specs.declared.event.Step.{Step}
use Rattle.scenario_text.specs.Faults.{lines_in}
use Rattle.scenario_text.specs.Reading.{TakesSteps, taken_none, taken_more}
use Rattle.scenario_text.proofs.UsualLines.{step_line_is}
use Rattle.scenario_text.proofs.lines.Lines.take_narrow_steps.Goals as goal

pub loop-steps-init : goal.loop-steps-init
loop-steps-init c =
    let before = c.args.steps.now.items in
    let start = c.args.self.now in
    subst (λ (lines : List (List (List ℕ))). TakesSteps c.args.siblings c.args.named before start before lines) (sym c.self.view_is) taken_none

pub loop-steps-preserved : goal.loop-steps-preserved
loop-steps-preserved c =
    let before = c.args.steps.now.items in
    let start = c.args.self.now in
    let rest = c.in-Some.behind.now in
    let step : Step = record { actor = c.in-Some.actor; event = c.in-Some.event } in
    let found = c.in-Some.ensures in
    subst (λ (steps : List Step). TakesSteps c.args.siblings c.args.named before start steps (lines_in rest)) (sym c.in_ok-push_step.ensures)
    (taken_more step c.loop-steps.invariant c.loop-steps-test.true (omega arith) found.is (step_line_is c.args.siblings c.loop-steps.rest.now rest step (omega arith) found))
