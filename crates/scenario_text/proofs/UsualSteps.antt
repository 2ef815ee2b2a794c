-- UsualSteps: the steps of lines that are taken one by one are those of a plan that grows, line by line.
use Rattle.std.proofs.Common.{◌≡◌, ℕ, ◌<◌, ◌≤◌, Bool, true, List, length, Ok, refl, sym, ◌∙◌, arith}
use Rattle.std.proofs.lemmas.Bool.{lt-ltb}
use Rattle.std.proofs.lemmas.List.{length_push}
use Rattle.cs_types.specs.declared.event.Step.{Step}
use Rattle.scenario_text.specs.declared.head.Head.{Head}
use Rattle.scenario_text.specs.declared.line.ScenarioLine.TheVariants as forms
use Rattle.scenario_text.specs.Words.{Word}
use Rattle.scenario_text.specs.Reading.{Contents, are_named, line_check, IsHead, TakesSteps, taken_none, taken_more}
use Rattle.scenario_text.proofs.Drafts.{next_good, is_shorter}
use Rattle.scenario_text.proofs.Building.{ReadSoFar, with_step, step_grows, grown}
use Rattle.scenario_text.proofs.UsualLines.{next_checked}

-- a step that is not one too many may follow, if each user is named
step_checked : (version limit : ℕ) (step : Step) (plan : Contents) → are_named version plan ≡ true → length plan.steps < 100000 → Ok tt ≡ line_check version limit (forms.Step step) plan
unfolding line_check
step_checked version limit step plan named few = rw (lt-ltb _ _ few, named) refl

-- what is read so far, where steps were taken
abbrev pub with_steps : List Step → Contents → Contents
with_steps steps plan = record plan { steps = steps }

named_still : (version : ℕ) (steps : List Step) (plan : Contents) → are_named version (with_steps steps plan) ≡ are_named version plan
unfolding are_named
named_still version steps plan = refl

pub so_far_taken : (head : Head) → IsHead head → (start : List (List Word)) (plan : Contents) (lines : List (List Word)) → ReadSoFar head start plan lines → (named : Bool) → named ≡ are_named head.version plan →
    (steps : List Step) (rest : List (List Word)) → TakesSteps head.siblings named plan.steps lines steps rest → ReadSoFar head start (with_steps steps plan) rest × (length rest ≤ length lines)
so_far_taken head is start plan lines so_far named same steps rest taken_none = (so_far, omega arith)
so_far_taken head is start plan lines so_far named same _ rest (taken_more {steps} {left} step taken is_named few fits line) =
    let before = so_far_taken head is start plan lines so_far named same steps left taken in
    let here = with_steps steps plan in
    let checked = step_checked head.version head.task_limit step here (named_still head.version steps plan ∙ sym same ∙ is_named) few in
    let next = next_good head is here before.0.is left (forms.Step step) rest (next_checked head is here left rest step fits line (Ok tt) checked) in
    let grows = step_grows head.version head.siblings head.task_limit here step before.0.is fits (sym checked) in
    let shorter = is_shorter _ _ _ _ _ next.lines_are next.rest_is in
    (grown head is start here left before.0 (forms.Step step) rest (with_step step here) next grows, omega (arith, before.1, shorter))

-- steps that are taken, and then more
pub taken_then : (siblings : ℕ) (named : Bool) (before : List Step) (lines : List (List Word)) (steps : List Step) (left : List (List Word)) → TakesSteps siblings named before lines steps left →
    (more : List Step) (rest : List (List Word)) → TakesSteps siblings named steps left more rest → TakesSteps siblings named before lines more rest
taken_then siblings named before lines steps left taken more rest taken_none = taken
taken_then siblings named before lines steps left taken _ rest (taken_more {steps = some} {left = between} step later is_named few fits line) =
    taken_more step (taken_then siblings named before lines steps left taken some between later) is_named few fits line

-- no step is lost
pub kept_all : (siblings : ℕ) (named : Bool) (before : List Step) (lines : List (List Word)) (steps : List Step) (rest : List (List Word)) → TakesSteps siblings named before lines steps rest → length before ≤ length steps
kept_all siblings named before lines steps rest taken_none = omega arith
kept_all siblings named before lines _ rest (taken_more {steps = some} {left} step taken is_named few fits line) =
    let fewer = kept_all siblings named before lines some left taken in
    omega (arith, fewer, length_push some step)
