-- Known: which actors and which events stand in the steps of a scenario that can be played.
use Rattle.std.proofs.Common.{◌≡◌, ℕ, ◌+◌, ◌<◌, ◌≤◌, cond, List, [], ◌∷◌, ◌++◌, sym, ◌∙◌, subst, arith, inl, inr, All}
use Rattle.std.specs.List.{AllByRecursion}
use Rattle.std.proofs.lemmas.Bool.{cases_Bool, lt-ltb}
use Rattle.std.proofs.lemmas.List.Elements.{All-drop, recursion_from_All}
use Rattle.cs_types.specs.declared.event.Actor.{Actor}
use Rattle.cs_types.specs.declared.event.Actor.TheVariants.{Sibling, Caller, End}
use Rattle.cs_types.specs.declared.event.Event.{Event}
use Rattle.cs_types.specs.declared.event.Event.TheVariants.{Turn, Resched, Block, Exit, Tick, Wake, Advance, Fork, Prctl, SetSched, Offline, Online, Load, Unload}
use Rattle.cs_types.specs.declared.event.Step.{Step}
use Rattle.cs_types.specs.declared.scenario.Scenario.{Scenario}
use Rattle.cs_types.specs.Scenario.{is_actor, IsEvent, IsStep, IsPlayable}
use Rattle.scenario_text.specs.Entry.{IsMade}
use Rattle.scenario_text.proofs.Steps.{sibling_within, caller_within}
use Rattle.sibling_workers.specs.Race.{events_in}
use Rattle.sibling_workers.proofs.Own.{same_actor}
use Rattle.trace_check.specs.Scripts.{rank, left_to}
use Rattle.trace_check.proofs.Advances.{events_own, events_other}

-- what holds of each of an actor's steps holds of the first of its events
pub first_event : (P : Step → Type 0) (actor : Actor) (steps : List Step) (event : Event) (more : List Event) → AllByRecursion P steps →
    events_in actor steps ≡ event ∷ more → P (record { actor = actor; event = event })
first_event P actor [] event more each is = absurd cc
first_event P actor (step ∷ steps) event more each is = elim (cases_Bool (is_actor step.actor actor)) [
  | inl own ↦
      let same : step.event ∷ events_in actor steps ≡ event ∷ more = sym (events_own actor step steps own) ∙ is in
      let its : step.event ≡ event = cc in
      subst (λ (e : Event). P (record { actor = actor; event = e })) its
      (subst (λ (a : Actor). P (record { actor = a; event = step.event })) (same_actor step.actor actor own) each.0)
  | inr other ↦ first_event P actor steps event more each.1 (sym (events_other actor step steps other) ∙ is)
]

-- and of each of its events
pub in_script : (P : Step → Type 0) (actor : Actor) (steps : List Step) (event : Event) (before after : List Event) → AllByRecursion P steps →
    events_in actor steps ≡ before ++ event ∷ after → P (record { actor = actor; event = event })
in_script P actor steps event [] after each is = first_event P actor steps event after each is
in_script P actor [] event (first ∷ before) after each is = absurd cc
in_script P actor (step ∷ steps) event (first ∷ before) after each is = elim (cases_Bool (is_actor step.actor actor)) [
  | inl own ↦
      let both : step.event ∷ events_in actor steps ≡ first ∷ (before ++ event ∷ after) = sym (events_own actor step steps own) ∙ is in
      let later : events_in actor steps ≡ before ++ event ∷ after = cc in
      in_script P actor steps event before after each.1 later
  | inr other ↦ in_script P actor steps event (first ∷ before) after each.1 (sym (events_other actor step steps other) ∙ is)
]

-- the next event of an actor keeps its limits
pub next_event : (siblings : ℕ) (steps : List Step) (places : List ℕ) (actor : Actor) (event : Event) (more : List Event) →
    All (λ step. IsEvent siblings step.event) steps → left_to steps places actor ≡ event ∷ more → IsEvent siblings event
next_event siblings steps places actor event more each is =
    first_event (λ step. IsEvent siblings step.event) actor _ event more
    (recursion_from_All (λ (step : Step). IsEvent siblings step.event) _ (All-drop (λ (step : Step). IsEvent siblings step.event) _ steps each)) is

pub next_step : (siblings : ℕ) (steps : List Step) (places : List ℕ) (actor : Actor) (event : Event) (more : List Event) →
    All (IsStep siblings) steps → left_to steps places actor ≡ event ∷ more → IsStep siblings (record { actor = actor; event = event })
next_step siblings steps places actor event more each is =
    first_event (IsStep siblings) actor _ event more (recursion_from_All (IsStep siblings) _ (All-drop (IsStep siblings) _ steps each)) is

-- an actor with a step is one that a scenario can have
pub known_step : (siblings : ℕ) (actor : Actor) (event : Event) → siblings ≤ 16 → IsStep siblings (record { actor = actor; event = event }) → rank actor < 24
known_step siblings (Sibling i) event few is =
    let inside : i < 16 = (let below = sibling_within siblings i event is in omega (arith, below, few)) in
    subst (λ b. cond b i 24 < 24) (sym (lt-ltb i 16 inside)) (omega (arith, inside))
known_step siblings (Caller j) event few is =
    let inside : j < 8 = caller_within siblings j event is in
    subst (λ b. cond b (16 + j) 24 < 24) (sym (lt-ltb j 8 inside)) (omega (arith, inside))
known_step siblings End event few is = absurd is.actor

pub known_actor : (scenario : Scenario) (actor : Actor) (event : Event) (more : List Event) → IsPlayable scenario →
    events_in actor scenario.steps ≡ event ∷ more → rank actor < 24
known_actor scenario actor event more playable is =
    known_step scenario.siblings actor event playable.siblings.1
    (first_event (IsStep scenario.siblings) actor scenario.steps event more (recursion_from_All (IsStep scenario.siblings) scenario.steps playable.steps) is)

-- ---- what is made in a core of up to 16 siblings

event_wider : (n m : ℕ) (event : Event) → n ≤ m → IsEvent n event → IsEvent m event
event_wider n m (Turn cpu) few is = omega (arith, few, is)
event_wider n m (Resched cpu) few is = omega (arith, few, is)
event_wider n m (Block cpu) few is = omega (arith, few, is)
event_wider n m (Exit cpu) few is = omega (arith, few, is)
event_wider n m (Tick cpu) few is = omega (arith, few, is)
event_wider n m (Offline cpu) few is = omega (arith, few, is)
event_wider n m (Online cpu) few is = omega (arith, few, is)
event_wider n m (Wake pid) few is = is
event_wider n m (Advance delta) few is = is
event_wider n m (Fork caller thread) few is = is
event_wider n m (Prctl caller ask) few is = is
event_wider n m (SetSched pid policy) few is = is
event_wider n m (Load index) few is = is
event_wider n m (Unload index) few is = is

pub made_step : (siblings : ℕ) (actor : Actor) (event : Event) → siblings ≤ 16 → IsStep siblings (record { actor = actor; event = event }) → IsMade actor event
made_step siblings (Sibling i) event few is = record { event = event_wider siblings 16 event few is.event; actor = is.actor }
made_step siblings (Caller j) event few is = record { event = event_wider siblings 16 event few is.event; actor = is.actor }
made_step siblings End event few is = absurd is.actor
