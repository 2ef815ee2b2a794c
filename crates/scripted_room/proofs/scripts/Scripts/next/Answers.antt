use Rattle.std.proofs.Common.{◌≡◌, ◌<◌, ◌∷◌, [], List, get_or, length, take, subst}
use Rattle.scripted_room.specs.declared.script.Script.{Script}
use Rattle.sibling_workers.specs.Race.{events_in}
use Rattle.scripted_room.specs.Scripts.{step_of, steps_from, steps_left}
use Rattle.scripted_room.proofs.Steps.{taken_at, events_in-taken, length-taken}
use Rattle.scripted_room.proofs.scripts.Scripts.next.Goals as goal

-- the script has one step less
shrunk : (c : goal.After-self-1) →
    steps_from (get_or c.self.inside.scripts.items c.in_ok-place.place c.index_mut.result.now) ≡ step_of c.args.actor c.next.result ∷ steps_from c.next.new.self
shrunk c =
    taken_at c.self.inside.scripts.items c.as_slice.result.now c.in_ok-place.place c.index_mut.result.now c.next.new.self c.args.actor c.next.result c.as_slice.ensures.value
    c.in_ok-place.ensures.within c.index_mut.ensures.value c.in_ok-place.ensures.same c.next.ensures

pub returns-clause-some : goal.returns-clause-some
returns-clause-some c a =
    rw (← c.self.view_is)
    (events_in-taken c.self.inside.scripts.items c.in_ok-place.place c.index_mut.result.now c.next.new.self (step_of c.args.actor c.next.result)
    (subst (λ (ss : List Script). c.in_ok-place.place < length ss) c.as_slice.ensures.value c.in_ok-place.ensures.within) (shrunk c)
    (subst (λ (ss : List Script). events_in c.args.actor (steps_left (take c.in_ok-place.place ss)) ≡ []) c.as_slice.ensures.value c.in_ok-place.ensures.first) a)

pub returns-clause-count : goal.returns-clause-count
returns-clause-count c =
    rw (← c.self.view_is)
    (length-taken c.self.inside.scripts.items c.in_ok-place.place c.index_mut.result.now c.next.new.self (step_of c.args.actor c.next.result)
    (subst (λ (ss : List Script). c.in_ok-place.place < length ss) c.as_slice.ensures.value c.in_ok-place.ensures.within) (shrunk c))
