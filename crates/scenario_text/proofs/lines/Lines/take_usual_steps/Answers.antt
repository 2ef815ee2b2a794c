use Rattle.std.proofs.Common.{◌≡◌, ℕ, List, Ok, sym, subst, arith}
use Rattle.std.proofs.lemmas.List.{length_push}
use Rattle.cs_types.specs.declared.event.Step.{Step}
use Rattle.scenario_text.specs.Text.{step_words}
use Rattle.scenario_text.specs.Faults.{lines_in}
use Rattle.scenario_text.specs.Reading.{line_at, TakesSteps, taken_none, taken_more}
use Rattle.scenario_text.proofs.UsualLines.{step_line_is}
use Rattle.scenario_text.proofs.UsualSteps.{taken_then, kept_all}
use Rattle.scenario_text.proofs.lines.Lines.take_usual_steps.Goals as goal

pub loop-steps-init : goal.loop-steps-init
loop-steps-init c = taken_none

pub returns-then-not-named : goal.returns-then-not-named
returns-then-not-named c =
    let taken = c.take_narrow_steps.new in
    taken_then c.args.siblings c.args.named c.args.steps.now.items c.args.self.now c.loop-steps.steps.items c.loop-steps.self c.loop-steps.invariant taken.steps.items taken.self c.in_ok-take_narrow_steps.ensures

pub returns-in_default : goal.returns-in_default
returns-in_default c =
    let taken = c.take_narrow_steps.new in
    taken_then c.args.siblings c.args.named c.args.steps.now.items c.args.self.now c.loop-steps.steps.items c.loop-steps.self c.loop-steps.invariant taken.steps.items taken.self c.in_ok-take_narrow_steps.ensures

pub loop-steps-smaller : goal.loop-steps-smaller
loop-steps-smaller c =
    let taken = c.take_narrow_steps.new in
    let kept = kept_all c.args.siblings c.args.named c.loop-steps.steps.items c.loop-steps.self taken.steps.items taken.self c.in_ok-take_narrow_steps.ensures in
    let step : Step = record { actor = c.in-Some.actor; event = c.in-Some.event } in
    rw c.in_ok-push_step.ensures (omega (arith, kept, length_push taken.steps.items step))

pub loop-steps-preserved : goal.loop-steps-preserved
loop-steps-preserved c =
    let before = c.args.steps.now.items in
    let start = c.args.self.now in
    let taken = c.take_narrow_steps.new in
    let rest = c.in-Some.behind.now in
    let step : Step = record { actor = c.in-Some.actor; event = c.in-Some.event } in
    let found = c.in-Some.ensures in
    let all = taken_then c.args.siblings c.args.named before start c.loop-steps.steps.items c.loop-steps.self c.loop-steps.invariant taken.steps.items taken.self c.in_ok-take_narrow_steps.ensures in
    subst (λ (steps : List Step). TakesSteps c.args.siblings c.args.named before start steps (lines_in rest)) (sym c.in_ok-push_step.ensures)
    (taken_more step all c.if-not-named.false (omega arith) found.is
    (subst (λ lines. line_at lines ≡ Ok (step_words step, lines_in rest)) c.self.view_is (step_line_is c.args.siblings c.self.inside.rest.now rest step (omega arith) found)))
