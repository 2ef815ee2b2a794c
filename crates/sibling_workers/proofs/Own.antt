-- Own: when two actors are one, and the events of an actor's steps.
use Rattle.std.proofs.Common.{◌≡◌, true, List, [], ◌∷◌, ◌++◌, refl, inl, inr, arith}
use Rattle.std.proofs.lemmas.Bool.{cases_Bool}
use Rattle.cs_types.specs.declared.event.Actor.{Actor}
use Rattle.cs_types.specs.declared.event.Actor.TheVariants.{Sibling, Caller, End}
use Rattle.cs_types.specs.declared.event.Step.{Step}
use Rattle.cs_types.specs.Scenario.{is_actor}
use Rattle.sibling_workers.specs.Race.{events_in}

-- an actor is itself
pub is_actor-same : (actor : Actor) → is_actor actor actor ≡ true
is_actor-same (Sibling i) = grind arith
is_actor-same (Caller j) = grind arith
is_actor-same End = refl

-- actors that pass the test are one
pub same_actor : (one other : Actor) → is_actor one other ≡ true → one ≡ other
same_actor (Sibling i) (Sibling j) e = grind arith
same_actor (Caller i) (Caller j) e = grind arith
same_actor End End e = refl
same_actor (Sibling i) (Caller j) e = absurd cc
same_actor (Caller i) (Sibling j) e = absurd cc
same_actor End (Sibling j) e = absurd cc
same_actor End (Caller j) e = absurd cc
same_actor (Sibling i) End e = absurd cc
same_actor (Caller i) End e = absurd cc

pub events_in-append : (actor : Actor) (xs ys : List Step) → events_in actor (xs ++ ys) ≡ events_in actor xs ++ events_in actor ys
events_in-append actor [] ys = refl
events_in-append actor (x ∷ xs) ys =
    let rest = events_in-append actor xs ys in
    elim (cases_Bool (is_actor x.actor actor)) [
      | inl same ↦ simp (same, rest)
      | inr other ↦ simp (other, rest)
    ]
