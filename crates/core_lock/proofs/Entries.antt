-- Entries: what one entry more does to the entries of an actor.
use Rattle.std.proofs.Common.{◌≡◌, ℕ, ◌+◌, ◌≤◌, true, false, List, [], ◌∷◌, ◌++◌, map, take, length, get_or, refl, sym, ap, ◌∙◌, subst, inl, inr, arith, append_assoc, Some, length-append}
use Rattle.std.specs.Prelude.{slice_get, All}
use Rattle.std.proofs.lemmas.Bool.{cases_Bool}
use Rattle.std.proofs.lemmas.List.{map-append, take_more}
use Rattle.std.proofs.lemmas.Option.{slice_get_within, get_or_from_slice_get}
use Rattle.std.proofs.lemmas.List.Elements.{All-get_or}
use mathlib.Core.List.{IsPrefix}
use Rattle.cs_types.specs.declared.event.Actor.{Actor}
use Rattle.cs_types.specs.declared.event.Actor.TheVariants.{Sibling, Caller, End}
use Rattle.cs_types.specs.declared.event.Step.{Step}
use Rattle.cs_types.specs.declared.reply.Entry.{Entry}
use Rattle.cs_types.specs.Scenario.{is_actor}
use Rattle.cs_types.specs.History.{History, events_by}
use Rattle.core_lock.specs.Lists.{actor_of, events_first}

-- an actor is itself
pub is_actor-same : (actor : Actor) → is_actor actor actor ≡ true
is_actor-same (Sibling i) = grind arith
is_actor-same (Caller j) = grind arith
is_actor-same End = refl

-- an entry of the actor is one more of its events, and another's is none
pub events_by-own : (actor : Actor) (past : History) (entry : Entry) → is_actor entry.actor actor ≡ true →
    events_by actor (past ++ entry ∷ []) ≡ events_by actor past ++ entry.event ∷ []
events_by-own actor [] entry own = simp own
events_by-own actor (x ∷ xs) entry own =
    let rest = events_by-own actor xs entry own in
    elim (cases_Bool (is_actor x.actor actor)) [
      | inl same ↦ simp (same, rest)
      | inr other ↦ simp (other, rest)
    ]

pub events_by-else : (actor : Actor) (past : History) (entry : Entry) → is_actor entry.actor actor ≡ false →
    events_by actor (past ++ entry ∷ []) ≡ events_by actor past
events_by-else actor [] entry else = simp else
events_by-else actor (x ∷ xs) entry else =
    let rest = events_by-else actor xs entry else in
    elim (cases_Bool (is_actor x.actor actor)) [
      | inl same ↦ simp (same, rest)
      | inr other ↦ simp (other, rest)
    ]

-- the events of the first steps, with the next one's
pub events_first-more : (count : ℕ) (steps : List Step) (made : Step) → slice_get steps count ≡ Some made →
    events_first (count + 1) steps ≡ events_first count steps ++ made.event ∷ []
events_first-more count steps made is =
    let lt = slice_get_within steps count made is in
    ap (map (λ (s : Step). s.event)) (take_more steps count made lt)
    ∙ map-append (λ (s : Step). s.event) (take count steps) (get_or steps count made ∷ [])
    ∙ ap (λ (s : Step). events_first count steps ++ s.event ∷ []) (get_or_from_slice_get steps count made made is)

-- a step of a list of one actor is that actor's
pub actor_at-is : (steps : List Step) (count : ℕ) (made : Step) → All (λ (s : Step). s.actor ≡ actor_of steps) steps → slice_get steps count ≡ Some made →
    made.actor ≡ actor_of steps
actor_at-is steps count made each is =
    let lt = slice_get_within steps count made is in
    subst (λ (s : Step). s.actor ≡ actor_of steps) (get_or_from_slice_get steps count made made is) (All-get_or (λ (s : Step). s.actor ≡ actor_of steps) steps count made lt each)

-- what begins a history begins a longer one
pub prefix-more : (seen past : History) (more : List Entry) → IsPrefix seen past → IsPrefix seen (past ++ more)
prefix-more seen past more begins =
    (begins.0 ++ more, sym (append_assoc seen begins.0 more) ∙ ap (λ (h : History). h ++ more) begins.1)

pub prefix-length : (seen past : History) → IsPrefix seen past → length seen ≤ length past
prefix-length seen past begins = omega (arith, length-append seen begins.0, ap (λ (h : History). length h) begins.1)
