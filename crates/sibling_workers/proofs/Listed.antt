-- Listed: the lists of a race fit a lock, and where all of their steps are made, the history is a shuffle of all scripts.
use Rattle.std.proofs.Common.{◌≡◌, ◌≢◌, ℕ, zero, suc, ◌+◌, ◌<◌, ◌≤◌, Bool, true, false, List, [], ◌∷◌, map, length, get_or, refl, sym, ap, ◌∙◌, subst, inl, inr, arith}
use Rattle.std.specs.Prelude.{filter, All, AllPairs}
use Rattle.std.specs.List.{range_with_len}
use mathlib.Core.Bool.{cond}
use Rattle.std.proofs.lemmas.Bool.{cases_Bool, cases_lt, false≢true}
use Rattle.std.proofs.lemmas.List.{length-map, get_or-map}
use Rattle.std.proofs.lemmas.List.Kept.{AllPairs-filter}
use Rattle.std.proofs.lemmas.List.Sums.{sum_by-cons}
use Rattle.std.proofs.lemmas.List.FromFn.{length-map-range_with_len, get_or-map-range_with_len}
use Rattle.std.proofs.lemmas.List.Elements.{All-head, All-tail, All-get_or, All-weaker, All-filter, All-map, filter_passes}
use Rattle.cs_types.specs.declared.event.Actor.{Actor}
use Rattle.cs_types.specs.declared.event.Actor.TheVariants.{End}
use Rattle.cs_types.specs.declared.event.Event.{Event}
use Rattle.cs_types.specs.declared.event.Step.{Step}
use Rattle.cs_types.specs.declared.scenario.Scenario.{Scenario}
use Rattle.cs_types.specs.Scenario.{is_actor, IsEvent, IsStep, IsPlayable}
use Rattle.cs_types.specs.History.{History, events_by}
use Rattle.cs_types.specs.Shuffles.{IsShuffle}
use Rattle.core_lock.specs.Lists.{IsList, AreLists, actor_of, list_at, steps_in}
use Rattle.sibling_workers.specs.Race.{actor_at, has_step, actors_of, steps_by, lists_of}
use Rattle.sibling_workers.specs.Working.{HasAll}
use Rattle.sibling_workers.proofs.Own.{is_actor-same, same_actor}
use Rattle.sibling_workers.proofs.Whole.{placed, places_apart}

abbrev AreApart : Actor → Actor → Type 0
AreApart one other = is_actor one other ≡ false

apart_back : (one other : Actor) → AreApart one other → AreApart other one
apart_back one other apart =
    elim (cases_Bool (is_actor other one)) [
      | inl same ↦ absurd (false≢true (sym apart ∙ subst (λ (a : Actor). is_actor one a ≡ true) (sym (same_actor other one same)) (is_actor-same one)))
      | inr else ↦ else
    ]

-- ---- the actors that have a step

order_apart : (n : ℕ) → AllPairs AreApart (map actor_at (range_with_len 0 n))
order_apart n i j d lt within =
    let long = length-map-range_with_len actor_at 0 n in
    let below : j < n = subst (λ (m : ℕ). j < m) long within in
    let one = get_or-map-range_with_len actor_at 0 n i i d (omega (arith, lt, below)) (omega arith) in
    let other = get_or-map-range_with_len actor_at 0 n j j d below (omega arith) in
    subst (λ (a : Actor). AreApart a (get_or (map actor_at (range_with_len 0 n)) j d)) (sym one) (subst (AreApart (actor_at i)) (sym other) (places_apart i j lt))

actors_apart : (steps : List Step) → AllPairs AreApart (actors_of steps)
actors_apart steps = AllPairs-filter AreApart (has_step steps) (map actor_at (range_with_len 0 24)) (order_apart 24)

all_have : (steps : List Step) → All (λ (a : Actor). has_step steps a ≡ true) (actors_of steps)
all_have steps = filter_passes (has_step steps) (map actor_at (range_with_len 0 24))

-- what passes the test is kept
kept : (p : Actor → Bool) (xs : List Actor) (i : ℕ) (d : Actor) → i < length xs → p (get_or xs i d) ≡ true →
    (k : ℕ) × (k < length (filter p xs)) × (get_or (filter p xs) k d ≡ get_or xs i d)
kept p [] i d lt passes = absurd (omega arith)
kept p (x ∷ xs) zero d lt passes =
    let rest = filter p xs in
    subst (λ (b : Bool). (k : ℕ) × (k < length (cond b (x ∷ rest) rest)) × (get_or (cond b (x ∷ rest) rest) k d ≡ x)) (sym passes) (0, omega arith, refl)
kept p (x ∷ xs) (suc i) d lt passes =
    let rest = filter p xs in
    let found = kept p xs i d (omega (arith, lt)) passes in
    elim (cases_Bool (p x)) [
      | inl own ↦
          subst (λ (b : Bool). (k : ℕ) × (k < length (cond b (x ∷ rest) rest)) × (get_or (cond b (x ∷ rest) rest) k d ≡ get_or xs i d)) (sym own)
          (suc found.0, omega (arith, found.1), found.2)
      | inr other ↦
          subst (λ (b : Bool). (k : ℕ) × (k < length (cond b (x ∷ rest) rest)) × (get_or (cond b (x ∷ rest) rest) k d ≡ get_or xs i d)) (sym other) found
    ]

-- ---- the list of an actor

abbrev if_own : Bool → Step → List Step → List Step
if_own b s own = cond b (s ∷ own) own

-- the rest has a step where the first is another's
later : (s : Step) (ss : List Step) (actor : Actor) (b : Bool) → is_actor s.actor actor ≡ false → has_step (s ∷ ss) actor ≡ b → has_step ss actor ≡ b
later s ss actor b other is = simp other at is

first_of : (steps : List Step) (actor : Actor) → has_step steps actor ≡ true → actor_of (steps_by steps actor) ≡ actor
first_of [] actor has = absurd (false≢true has)
first_of (s ∷ ss) actor has =
    elim (cases_Bool (is_actor s.actor actor)) [
      | inl same ↦ subst (λ (b : Bool). actor_of (if_own b s (steps_by ss actor)) ≡ actor) (sym same) (same_actor s.actor actor same)
      | inr other ↦ subst (λ (b : Bool). actor_of (if_own b s (steps_by ss actor)) ≡ actor) (sym other) (first_of ss actor (later s ss actor true other has))
    ]

some_step : (steps : List Step) (actor : Actor) → has_step steps actor ≡ true → 0 < length (steps_by steps actor)
some_step [] actor has = absurd (false≢true has)
some_step (s ∷ ss) actor has =
    elim (cases_Bool (is_actor s.actor actor)) [
      | inl same ↦ subst (λ (b : Bool). 0 < length (if_own b s (steps_by ss actor))) (sym same) (omega arith)
      | inr other ↦ subst (λ (b : Bool). 0 < length (if_own b s (steps_by ss actor))) (sym other) (some_step ss actor (later s ss actor true other has))
    ]

has_first : (s : Step) (ss : List Step) (actor : Actor) → is_actor s.actor actor ≡ true → has_step (s ∷ ss) actor ≡ true
has_first s ss actor same = simp same

no_step : (steps : List Step) (actor : Actor) → has_step steps actor ≡ false → steps_by steps actor ≡ []
no_step [] actor none = refl
no_step (s ∷ ss) actor none =
    elim (cases_Bool (is_actor s.actor actor)) [
      | inl same ↦ absurd (false≢true (sym none ∙ has_first s ss actor same))
      | inr other ↦ subst (λ (b : Bool). if_own b s (steps_by ss actor) ≡ []) (sym other) (no_step ss actor (later s ss actor false other none))
    ]

all_by : (steps : List Step) (actor : Actor) → All (λ (made : Step). made.actor ≡ actor) (steps_by steps actor)
all_by steps actor =
    All-weaker (λ (made : Step). is_actor made.actor actor ≡ true) (λ (made : Step). made.actor ≡ actor) (λ made same. same_actor made.actor actor same)
    (steps_by steps actor) (filter_passes (λ (made : Step). is_actor made.actor actor) steps)

is_list : (n : ℕ) (steps : List Step) (actor : Actor) → All (IsStep n) steps → has_step steps actor ≡ true → IsList n (steps_by steps actor)
is_list n steps actor each has =
    record {
      some = some_step steps actor has;
      of_one = subst (λ (a : Actor). All (λ (made : Step). made.actor ≡ a) (steps_by steps actor)) (sym (first_of steps actor has)) (all_by steps actor);
      events = All-filter (λ (made : Step). is_actor made.actor actor) (λ (made : Step). IsEvent n made.event) steps
          (All-weaker (IsStep n) (λ (made : Step). IsEvent n made.event) (λ made step. step.event) steps each);
    }

-- ---- the lists

within : (steps : List Step) (k : ℕ) → k < length (lists_of steps) → k < length (actors_of steps)
within steps k lt = subst (λ (n : ℕ). k < n) (length-map (actors_of steps) (steps_by steps)) lt

list_is : (steps : List Step) (k : ℕ) → k < length (lists_of steps) → list_at (lists_of steps) k ≡ steps_by steps (get_or (actors_of steps) k End)
list_is steps k lt = get_or-map (steps_by steps) (actors_of steps) k End [] (within steps k lt)

has_at : (steps : List Step) (k : ℕ) → k < length (lists_of steps) → has_step steps (get_or (actors_of steps) k End) ≡ true
has_at steps k lt = All-get_or (λ (a : Actor). has_step steps a ≡ true) (actors_of steps) k End (within steps k lt) (all_have steps)

owner_is : (steps : List Step) (k : ℕ) → k < length (lists_of steps) → actor_of (list_at (lists_of steps) k) ≡ get_or (actors_of steps) k End
owner_is steps k lt = ap actor_of (list_is steps k lt) ∙ first_of steps (get_or (actors_of steps) k End) (has_at steps k lt)

apart_at : (xs : List Actor) → AllPairs AreApart xs → (i j : ℕ) → i < length xs → j < length xs → i ≢ j → AreApart (get_or xs i End) (get_or xs j End)
apart_at xs pairs i j at_i at_j ne =
    elim (cases_lt i j) [
      | inl up ↦ pairs i j End up at_j
      | inr down ↦
          elim (cases_lt j i) [
            | inl lt ↦ apart_back (get_or xs j End) (get_or xs i End) (pairs j i End lt at_i)
            | inr le ↦ absurd (ne (omega (arith, down, le)))
          ]
    ]

-- the lists fit a lock
pub are_lists : (n : ℕ) (steps : List Step) → All (IsStep n) steps → 0 < length (lists_of steps) → AreLists n (lists_of steps)
are_lists n steps each some =
    record {
      some = some;
      each = All-map (IsList n) (steps_by steps) (actors_of steps)
          (All-weaker (λ (a : Actor). has_step steps a ≡ true) (λ (a : Actor). IsList n (steps_by steps a)) (λ a has. is_list n steps a each has) (actors_of steps) (all_have steps));
      apart = λ i j at_i at_j ne.
          subst (λ (a : Actor). AreApart a (actor_of (list_at (lists_of steps) j))) (sym (owner_is steps i at_i))
          (subst (AreApart (get_or (actors_of steps) i End)) (sym (owner_is steps j at_j))
          (apart_at (actors_of steps) (actors_apart steps) i j (within steps i at_i) (within steps j at_j) ne));
    }

-- ---- how many steps they have

length_if : {X : Type 0} (b : Bool) (x : X) (xs : List X) → length (cond b (x ∷ xs) xs) ≡ cond b 1 0 + length xs
length_if true x xs = omega arith
length_if false x xs = omega arith

-- how many of these actors one is
abbrev hits : Actor → List Actor → ℕ
hits by actors = length (filter (is_actor by) actors)

abbrev total : List Actor → List Step → ℕ
total actors steps = steps_in (map (steps_by steps) actors)

total_none : (actors : List Actor) → total actors [] ≡ 0
total_none [] = refl
total_none (a ∷ left) = omega (arith, sum_by-cons (length {A = Step}) [] (map (steps_by []) left), total_none left)

total_more : (actors : List Actor) (s : Step) (ss : List Step) → total actors (s ∷ ss) ≡ hits s.actor actors + total actors ss
total_more [] s ss = omega arith
total_more (a ∷ left) s ss =
    let now = sum_by-cons (length {A = Step}) (steps_by (s ∷ ss) a) (map (steps_by (s ∷ ss)) left) in
    let before = sum_by-cons (length {A = Step}) (steps_by ss a) (map (steps_by ss) left) in
    let steps : length (steps_by (s ∷ ss) a) ≡ cond (is_actor s.actor a) 1 0 + length (steps_by ss a) = length_if (is_actor s.actor a) s (steps_by ss a) in
    let hit : hits s.actor (a ∷ left) ≡ cond (is_actor s.actor a) 1 0 + hits s.actor left = length_if (is_actor s.actor a) a (filter (is_actor s.actor) left) in
    omega (arith, now, before, total_more left s ss, steps, hit)

none_hit : (by : Actor) (actors : List Actor) → All (AreApart by) actors → hits by actors ≡ 0
none_hit by [] each = refl
none_hit by (a ∷ left) each =
    let rest = filter (is_actor by) left in
    subst (λ (b : Bool). length (cond b (a ∷ rest) rest) ≡ 0) (sym (All-head (AreApart by) a left each)) (none_hit by left (All-tail (AreApart by) a left each))

one_hit : (by : Actor) (actors : List Actor) → AllPairs AreApart actors → hits by actors ≤ 1
one_hit by [] pairs = omega arith
one_hit by (a ∷ left) pairs =
    let rest = filter (is_actor by) left in
    elim (cases_Bool (is_actor by a)) [
      | inl same ↦
          let others : All (AreApart by) left =
          λ k d lt. subst (λ (x : Actor). AreApart x (get_or left k d)) (sym (same_actor by a same)) (pairs 0 (suc k) d (omega arith) (omega (arith, lt)))
          in
          subst (λ (b : Bool). length (cond b (a ∷ rest) rest) ≤ 1) (sym same) (omega (arith, none_hit by left others))
      | inr other ↦
          subst (λ (b : Bool). length (cond b (a ∷ rest) rest) ≤ 1) (sym other)
          (one_hit by left (λ i j d lt inside. pairs (suc i) (suc j) d (omega (arith, lt)) (omega (arith, inside))))
    ]

total_few : (actors : List Actor) → AllPairs AreApart actors → (steps : List Step) → total actors steps ≤ length steps
total_few actors pairs [] = omega (arith, total_none actors)
total_few actors pairs (s ∷ ss) = omega (arith, total_more actors s ss, one_hit s.actor actors pairs, total_few actors pairs ss)

-- the lists have no more steps than there are
pub few_steps : (steps : List Step) → steps_in (lists_of steps) ≤ length steps
few_steps steps = total_few (actors_of steps) (actors_apart steps) steps

-- ---- all of them are made

-- an actor with no step has no list
not_listed : (steps : List Step) (actor : Actor) → has_step steps actor ≡ false → (k : ℕ) → k < length (lists_of steps) →
    is_actor (actor_of (list_at (lists_of steps) k)) actor ≡ false
not_listed steps actor none k lt =
    let a = get_or (actors_of steps) k End in
    elim (cases_Bool (is_actor a actor)) [
      | inl same ↦ absurd (false≢true (sym none ∙ subst (λ (x : Actor). has_step steps x ≡ true) (same_actor a actor same) (has_at steps k lt)))
      | inr other ↦ ap (λ (x : Actor). is_actor x actor) (owner_is steps k lt) ∙ other
    ]

-- an actor with a step stands among the actors
listed : (scenario : Scenario) (actor : Actor) → IsPlayable scenario → has_step scenario.steps actor ≡ true →
    (k : ℕ) × (k < length (lists_of scenario.steps)) × (get_or (actors_of scenario.steps) k End ≡ actor)
listed scenario actor playable has =
    let steps = scenario.steps in
    let order = map actor_at (range_with_len 0 24) in
    elim (placed scenario actor playable) [
      | inl at ↦
          let is : get_or order at.0 End ≡ actor = get_or-map-range_with_len actor_at 0 24 at.0 at.0 End at.1 (omega arith) ∙ at.2 in
          let inside : at.0 < length order = subst (λ (n : ℕ). at.0 < n) (sym (length-map-range_with_len actor_at 0 24)) at.1 in
          let found = kept (has_step steps) order at.0 End inside (subst (λ (a : Actor). has_step steps a ≡ true) (sym is) has) in
          (found.0, subst (λ (n : ℕ). found.0 < n) (sym (length-map (actors_of steps) (steps_by steps))) found.1, found.2 ∙ is)
      | inr empty ↦
          let none : length (steps_by steps actor) ≡ 0 = sym (length-map (steps_by steps actor) (λ (made : Step). made.event)) ∙ ap (length {A = Event}) empty in
          absurd (omega (arith, some_step steps actor has, none))
    ]

-- so the history is a shuffle of all scripts
pub shuffles : (scenario : Scenario) (history : History) → IsPlayable scenario → HasAll (lists_of scenario.steps) history → IsShuffle scenario history
shuffles scenario history playable all actor =
    let steps = scenario.steps in
    elim (cases_Bool (has_step steps actor)) [
      | inl has ↦
          let found = listed scenario actor playable has in
          let whose = owner_is steps found.0 found.1 ∙ found.2 in
          let what = list_is steps found.0 found.1 ∙ ap (steps_by steps) found.2 in
          ap (λ (a : Actor). events_by a history) (sym whose) ∙ all.own found.0 found.1 ∙ ap (map (λ (made : Step). made.event)) what
      | inr none ↦ all.no_other actor (not_listed steps actor none) ∙ sym (ap (map (λ (made : Step). made.event)) (no_step steps actor none))
    ]
