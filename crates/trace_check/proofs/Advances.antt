-- Advances: how the places move on, from which the next step of each actor stands.
use Rattle.std.proofs.Common.{◌≡◌, ℕ, ◌+◌, ◌<◌, true, false, cond, List, ◌∷◌, length, drop, get_or, set, refl, sym, ap, ◌∙◌, arith, inl, inr, ◌⊎◌}
use Rattle.std.specs.Prelude.{slice_index_or, slice_set}
use Rattle.std.proofs.lemmas.Bool.{cases_lt, lt-ltb, le-ltb}
use Rattle.std.proofs.lemmas.List.{drop_more, get_or-set_same, get_or-set_other}
use Rattle.cs_types.specs.declared.event.Actor.{Actor}
use Rattle.cs_types.specs.declared.event.Actor.TheVariants.{Sibling, Caller, End}
use Rattle.cs_types.specs.declared.event.Event.{Event}
use Rattle.cs_types.specs.declared.event.Step.{Step}
use Rattle.cs_types.specs.Scenario.{is_actor}
use Rattle.sibling_workers.specs.Race.{events_in}
use Rattle.sibling_workers.proofs.Own.{is_actor-same}
use Rattle.trace_check.specs.Scripts.{rank, left_to}

-- the first of these steps is the actor's, or another's
pub events_own : (actor : Actor) (step : Step) (steps : List Step) → is_actor step.actor actor ≡ true →
    events_in actor (step ∷ steps) ≡ step.event ∷ events_in actor steps
events_own actor step steps own = rw own refl

pub events_other : (actor : Actor) (step : Step) (steps : List Step) → is_actor step.actor actor ≡ false →
    events_in actor (step ∷ steps) ≡ events_in actor steps
events_other actor step steps other = rw other refl

-- a step of another is passed over
pub passed : (actor : Actor) (steps : List Step) (place : ℕ) (d : Step) (events : List Event) → place < length steps →
    events_in actor (drop place steps) ≡ events → is_actor (slice_index_or steps place d).actor actor ≡ false →
    events_in actor (drop (place + 1) steps) ≡ events
passed actor steps place d events inside left other =
    sym (ap (events_in actor) (drop_more steps place d inside) ∙ events_other actor (get_or steps place d) (drop (place + 1) steps) other) ∙ left

-- its own is made
pub taken : (actor : Actor) (steps : List Step) (places : List ℕ) (place at : ℕ) (d : Step) (events : List Event) → place < length steps →
    at ≡ rank actor → rank actor < length places → events_in actor (drop place steps) ≡ events →
    is_actor (slice_index_or steps place d).actor actor ≡ true →
    events ≡ (slice_index_or steps place d).event ∷ left_to steps (slice_set places at (place + 1)) actor
taken actor steps places place at d events inside is known left own =
    sym left ∙ ap (events_in actor) (drop_more steps place d inside) ∙ events_own actor (get_or steps place d) (drop (place + 1) steps) own
    ∙ ap (λ (n : ℕ). (get_or steps place d).event ∷ events_in actor (drop n steps))
    (sym (ap (λ (n : ℕ). get_or (set places n (place + 1)) (rank actor) 0) is ∙ get_or-set_same places (rank actor) (place + 1) 0 known))

-- the ranks of two actors that a scenario can have differ
sibling_rank : (i : ℕ) → ((i < 16) × (rank (Sibling i) ≡ i)) ⊎ (rank (Sibling i) ≡ 24)
sibling_rank i = elim (cases_lt i 16) [
  | inl below ↦ inl (below, ap (λ b. cond b i 24) (lt-ltb i 16 below))
  | inr past ↦ inr (ap (λ b. cond b i 24) (le-ltb i 16 past))
]

caller_rank : (j : ℕ) → ((j < 8) × (rank (Caller j) ≡ 16 + j)) ⊎ (rank (Caller j) ≡ 24)
caller_rank j = elim (cases_lt j 8) [
  | inl below ↦ inl (below, ap (λ b. cond b (16 + j) 24) (lt-ltb j 8 below))
  | inr past ↦ inr (ap (λ b. cond b (16 + j) 24) (le-ltb j 8 past))
]

same_rank : (one other : Actor) → rank one < 24 → rank one ≡ rank other → one ≡ other
same_rank (Sibling i) (Sibling j) known same = elim (sibling_rank i) [
  | inl a ↦ elim (sibling_rank j) [
    | inl b ↦ ap Sibling (sym a.1 ∙ same ∙ b.1)
    | inr b ↦ absurd (omega (arith, known, same, b))
  ]
  | inr a ↦ absurd (omega (arith, known, a))
]
same_rank (Sibling i) (Caller j) known same = elim (sibling_rank i) [
  | inl a ↦ elim (caller_rank j) [
    | inl b ↦ absurd (omega (arith, a.0, a.1, b.0, b.1, same))
    | inr b ↦ absurd (omega (arith, known, same, b))
  ]
  | inr a ↦ absurd (omega (arith, known, a))
]
same_rank (Caller j) (Sibling i) known same = elim (caller_rank j) [
  | inl b ↦ elim (sibling_rank i) [
    | inl a ↦ absurd (omega (arith, a.0, a.1, b.0, b.1, same))
    | inr a ↦ absurd (omega (arith, known, same, a))
  ]
  | inr b ↦ absurd (omega (arith, known, b))
]
same_rank (Caller i) (Caller j) known same = elim (caller_rank i) [
  | inl a ↦ elim (caller_rank j) [
    | inl b ↦ let one : i ≡ j = omega (arith, a.1, b.1, same) in ap Caller one
    | inr b ↦ absurd (omega (arith, known, same, b))
  ]
  | inr a ↦ absurd (omega (arith, known, a))
]
same_rank (Sibling i) End known same = absurd (omega (arith, known, same))
same_rank (Caller j) End known same = absurd (omega (arith, known, same))
same_rank End other known same = absurd (omega (arith, known))

-- what is left to another stays
pub untouched : (actor other : Actor) (steps : List Step) (places : List ℕ) (at n : ℕ) → at ≡ rank actor → rank actor < 24 → is_actor actor other ≡ false →
    left_to steps (slice_set places at n) other ≡ left_to steps places other
untouched actor other steps places at n is known differs =
    ap (λ (k : ℕ). events_in other (drop k steps))
    (get_or-set_other places at (rank other) n 0
    (λ e. let same : actor ≡ other = same_rank actor other known (sym is ∙ sym e) in
    let both : true ≡ false = sym (is_actor-same actor) ∙ ap (λ (a : Actor). is_actor actor a) same ∙ differs in absurd cc))
