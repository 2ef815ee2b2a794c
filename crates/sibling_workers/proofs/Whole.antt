-- Whole: each actor that a scenario can have stands in the order of the actors, at one place.
use Rattle.std.proofs.Common.{◌≡◌, ℕ, ◌+◌, ◌-◌, ◌<◌, ◌≤◌, false, eqb, List, [], ◌∷◌, refl, ap, ◌∙◌, inl, inr, ◌⊎◌, arith}
use Rattle.std.specs.Prelude.{All}
use Rattle.std.proofs.lemmas.Bool.{cases_Bool, cases_lt, eqb-true, lt-ltb, le-ltb}
use Rattle.std.proofs.lemmas.List.Elements.{All-head, All-tail}
use Rattle.cs_types.specs.declared.event.Actor.{Actor}
use Rattle.cs_types.specs.declared.event.Actor.TheVariants.{Sibling, Caller, End}
use Rattle.cs_types.specs.declared.event.Event.{Event}
use Rattle.cs_types.specs.declared.event.Event.TheVariants.{Turn, Resched, Block, Exit, Tick, Wake, Advance, Fork, Prctl, SetSched, Offline, Online, Load, Unload}
use Rattle.cs_types.specs.declared.event.Step.{Step}
use Rattle.cs_types.specs.declared.scenario.Scenario.{Scenario}
use Rattle.cs_types.specs.Scenario.{is_actor, script, IsEvent, IsMadeBy, IsStep, IsPlayable}
use Rattle.sibling_workers.specs.Race.{events_in}
use Rattle.sibling_workers.specs.Race.{actor_at}

-- a sibling that makes an event is one of the core
sibling_below : (i n : ℕ) (event : Event) → IsEvent n event → IsMadeBy (Sibling i) event → i < n
sibling_below i n (Turn cpu) lt by = omega (arith, lt, by)
sibling_below i n (Resched cpu) lt by = omega (arith, lt, by)
sibling_below i n (Block cpu) lt by = omega (arith, lt, by)
sibling_below i n (Exit cpu) lt by = omega (arith, lt, by)
sibling_below i n (Tick cpu) lt by = omega (arith, lt, by)
sibling_below i n (Wake pid) lt by = absurd by
sibling_below i n (Advance delta) lt by = absurd by
sibling_below i n (Fork caller thread) lt by = absurd by
sibling_below i n (Prctl caller ask) lt by = absurd by
sibling_below i n (SetSched pid policy) lt by = absurd by
sibling_below i n (Offline cpu) lt by = absurd by
sibling_below i n (Online cpu) lt by = absurd by
sibling_below i n (Load index) lt by = absurd by
sibling_below i n (Unload index) lt by = absurd by

-- a caller that makes an event is one of the eight
caller_below : (j : ℕ) (event : Event) → IsMadeBy (Caller j) event → j < 8
caller_below j (Turn cpu) by = absurd by
caller_below j (Resched cpu) by = absurd by
caller_below j (Block cpu) by = absurd by
caller_below j (Exit cpu) by = absurd by
caller_below j (Tick cpu) by = absurd by
caller_below j (Wake pid) by = by
caller_below j (Advance delta) by = by
caller_below j (Fork caller thread) by = by
caller_below j (Prctl caller ask) by = by
caller_below j (SetSched pid policy) by = by
caller_below j (Offline cpu) by = by
caller_below j (Online cpu) by = by
caller_below j (Load index) by = by
caller_below j (Unload index) by = by

apart : (a b : ℕ) → a < b → eqb a b ≡ false
apart a b lt =
    elim (cases_Bool (eqb a b)) [
      | inl same ↦ absurd (omega (arith, eqb-true a b same))
      | inr other ↦ other
    ]

-- no step is of a sibling from 16 on, of a caller from 8 on, or of the end
not_of_sibling : (n i : ℕ) (actor : Actor) (event : Event) → n ≤ 16 → 16 ≤ i → IsEvent n event → IsMadeBy actor event → is_actor actor (Sibling i) ≡ false
not_of_sibling n i (Sibling k) event most past is by = apart k i (omega (arith, sibling_below k n event is by))
not_of_sibling n i (Caller k) event most past is by = refl
not_of_sibling n i End event most past is by = refl

not_of_caller : (j : ℕ) (actor : Actor) (event : Event) → 8 ≤ j → IsMadeBy actor event → is_actor actor (Caller j) ≡ false
not_of_caller j (Sibling k) event past by = refl
not_of_caller j (Caller k) event past by = apart k j (omega (arith, caller_below k event by))
not_of_caller j End event past by = refl

not_of_end : (actor : Actor) (event : Event) → IsMadeBy actor event → is_actor actor End ≡ false
not_of_end (Sibling k) event by = refl
not_of_end (Caller k) event by = refl
not_of_end End event by = absurd by

-- an actor that no step is of has no event among the steps
no_events : (n : ℕ) (actor : Actor) → ((step : Step) → IsStep n step → is_actor step.actor actor ≡ false) →
    (steps : List Step) → All (IsStep n) steps → events_in actor steps ≡ []
no_events n actor other [] each = refl
no_events n actor other (s ∷ ss) each =
    let rest = no_events n actor other ss (All-tail (IsStep n) s ss each) in
    simp (other s (All-head (IsStep n) s ss each), rest)

-- where a sibling and a caller stand in the order
actor_at-sibling : (i : ℕ) → i < 16 → actor_at i ≡ Sibling i
actor_at-sibling i lt = simp (lt-ltb i 16 lt)

actor_at-caller : (j : ℕ) → actor_at (j + 16) ≡ Caller j
actor_at-caller j = simp (le-ltb (j + 16) 16 (omega arith)) (ap Caller (omega arith))

-- each actor stands in the order, or has no step
pub placed : (scenario : Scenario) (actor : Actor) → IsPlayable scenario → ((place : ℕ) × (place < 24) × (actor_at place ≡ actor)) ⊎ (script scenario actor ≡ [])
placed scenario (Sibling i) playable =
    let n = scenario.siblings in
    elim (cases_lt i 16) [
      | inl lt ↦ inl (i, omega (arith, lt), actor_at-sibling i lt)
      | inr past ↦ inr (no_events n (Sibling i) (λ s step. not_of_sibling n i s.actor s.event playable.siblings.1 past step.event step.actor) scenario.steps playable.steps)
    ]
placed scenario (Caller j) playable =
    let n = scenario.siblings in
    elim (cases_lt j 8) [
      | inl lt ↦ inl (j + 16, omega (arith, lt), actor_at-caller j)
      | inr past ↦ inr (no_events n (Caller j) (λ s step. not_of_caller j s.actor s.event past step.actor) scenario.steps playable.steps)
    ]
placed scenario End playable =
    inr (no_events scenario.siblings End (λ s step. not_of_end s.actor s.event step.actor) scenario.steps playable.steps)

at_caller : (i : ℕ) → 16 ≤ i → actor_at i ≡ Caller (i - 16)
at_caller i past = simp (le-ltb i 16 past)

-- no two places have one actor
pub places_apart : (i j : ℕ) → i < j → is_actor (actor_at i) (actor_at j) ≡ false
places_apart i j lt =
    elim (cases_lt j 16) [
      | inl low ↦
          let first = actor_at-sibling i (omega (arith, lt, low)) in
          let e : is_actor (actor_at i) (actor_at j) ≡ is_actor (Sibling i) (Sibling j) = λ k. is_actor (first k) (actor_at-sibling j low k) in
          e ∙ apart i j lt
      | inr high ↦
          elim (cases_lt i 16) [
            | inl low ↦
                let e : is_actor (actor_at i) (actor_at j) ≡ false = λ k. is_actor (actor_at-sibling i low k) (at_caller j high k) in
                e
            | inr past ↦
                let e : is_actor (actor_at i) (actor_at j) ≡ is_actor (Caller (i - 16)) (Caller (j - 16)) = λ k. is_actor (at_caller i past k) (at_caller j high k) in
                e ∙ apart (i - 16) (j - 16) (omega (arith, lt, past, high))
          ]
    ]
