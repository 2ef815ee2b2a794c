use Rattle.std.proofs.Common.{get_or, ◌≡◌, ◌∙◌, ◌++◌, ◌∷◌, [], List, ap, refl}
use Rattle.cs_types.specs.declared.event.Event.{Event}
use Rattle.scripted_room.specs.Scripts.{steps_from}
use Rattle.scripted_room.proofs.Steps.{pushed_at, events_in-pushed, length-pushed, events_in-new, length-new}
use Rattle.scripted_room.proofs.scripts.add.Goals as goal

-- the script has the step at its end
grown : (c : goal.In_ok-push-in-Some) →
    steps_from c.push.new.self ≡ steps_from (get_or c.args.scripts.now.items c.in-Some.place c.index_mut.result.now) ++ c.args.step ∷ []
grown c =
    pushed_at c.args.scripts.now.items c.as_slice.result.now c.in-Some.place c.index_mut.result.now c.push.new.self c.args.step c.as_slice.ensures.value
    c.in-Some.ensures.within c.index_mut.ensures.value c.in-Some.ensures.same c.in_ok-push-in-Some.ensures.steps

pub returns-in_ok-push-in-Some-clause-steps : goal.returns-in_ok-push-in-Some-clause-steps
returns-in_ok-push-in-Some-clause-steps c =
    events_in-pushed c.args.scripts.now.items c.in-Some.place c.index_mut.result.now c.push.new.self c.args.step (rw c.as_slice.ensures.value at c.in-Some.ensures.within)
    (grown c) (rw c.as_slice.ensures.value at c.in-Some.ensures.last)

pub returns-in_ok-push-in-Some-clause-count : goal.returns-in_ok-push-in-Some-clause-count
returns-in_ok-push-in-Some-clause-count c =
    length-pushed c.args.scripts.now.items c.in-Some.place c.index_mut.result.now c.push.new.self c.args.step (rw c.as_slice.ensures.value at c.in-Some.ensures.within) (grown c)

pub returns-in_ok-push-in-None-2-clause-steps : goal.returns-in_ok-push-in-None-2-clause-steps
returns-in_ok-push-in-None-2-clause-steps c =
    let events = c.in_ok-push-in-None.ensures.items ∙ ap (λ (es : List Event). es ++ c.args.step.event ∷ []) c.new-events.ensures.items in
    events_in-new c.args.scripts.now.items _ _ c.args.step c.in_ok-push-in-None-2.ensures.items refl refl events

pub returns-in_ok-push-in-None-2-clause-count : goal.returns-in_ok-push-in-None-2-clause-count
returns-in_ok-push-in-None-2-clause-count c =
    let events = c.in_ok-push-in-None.ensures.items ∙ ap (λ (es : List Event). es ++ c.args.step.event ∷ []) c.new-events.ensures.items in
    length-new c.args.scripts.now.items _ _ c.args.step c.in_ok-push-in-None-2.ensures.items refl refl events
