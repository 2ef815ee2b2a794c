use Rattle.std.proofs.Common.{◌≡◌, ◌<◌, [], true, length, subst}
use Rattle.std.proofs.lemmas.Option.{slice_get-get_or}
use Rattle.cs_types.specs.Scenario.{is_actor}
use Rattle.scripted_room.specs.declared.script.Script.{Script}
use Rattle.sibling_workers.specs.Race.{events_in}
use Rattle.scripted_room.specs.Scripts.{steps_from}
use Rattle.scripted_room.proofs.Steps.{none_to}
use Rattle.scripted_room.proofs.scripts.next_of.Goals as goal

pub loop-place-preserved : goal.loop-place-preserved
loop-place-preserved c =
    let found = c.index-scripts-place.result in
    let none : events_in c.args.actor (steps_from found) ≡ [] = rw c.if-has_next.false at c.has_next.ensures in
    none_to c.args.scripts.now c.loop-place.place found c.args.actor c.loop-place-test.true
    (subst (λ (s : Script). events_in c.args.actor (steps_from s) ≡ []) c.index-scripts-place.is none) c.loop-place.invariant

pub returns-then-has_next-clause-same : goal.returns-then-has_next-clause-same
returns-then-has_next-clause-same c =
    rw (slice_get-get_or c.args.scripts.now c.loop-place.place c.index-scripts-place.result c.loop-place-test.true)
    (subst (λ (s : Script). (is_actor s.actor c.args.actor ≡ true) × (s.place < length s.events.items)) c.index-scripts-place.is c.if-has_next.ensures)
