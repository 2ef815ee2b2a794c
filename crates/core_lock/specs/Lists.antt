-- Lists: the steps that the passes of a lock are to make.
use Rattle.std.specs.Prelude.{◌≡◌, ◌≢◌, ℕ, ◌<◌, false, List, [], ◌∷◌, map, take, length, slice_index_or, All, sum_by}
use Rattle.cs_types.specs.declared.event.Actor.{Actor}
use Rattle.cs_types.specs.declared.event.Actor.TheVariants.{End}
use Rattle.cs_types.specs.declared.event.Event.{Event}
use Rattle.cs_types.specs.declared.event.Step.{Step}
use Rattle.cs_types.specs.Scenario.{IsEvent, is_actor}
use Rattle.cs_types.specs.History.{History, events_by}

-- the list of a number
abbrev pub list_at : List (List Step) → ℕ → List Step
list_at lists number = slice_index_or lists number []

-- whose steps a list has: the actor of its first
abbrev pub actor_of : List Step → Actor
actor_of [] = End
actor_of (made ∷ steps) = made.actor

-- None of the lists is of this actor.
abbrev pub HasNoList : List (List Step) → Actor → Type 0
HasNoList lists actor = (number : ℕ) → number < length lists → is_actor (actor_of (list_at lists number)) actor ≡ false

-- A list that a pass can be made for: it has a step, all its steps are of one actor, and what each event names keeps
-- its limits.
pub record IsList (siblings : ℕ) (steps : List Step) : Type 0 where
  pub some : 0 < length steps
  pub of_one : All (λ made. made.actor ≡ actor_of steps) steps
  pub events : All (λ made. IsEvent siblings made.event) steps

-- The lists that a lock can be made for: there is one, and no two of them share an actor.
pub record AreLists (siblings : ℕ) (lists : List (List Step)) : Type 0 where
  pub some : 0 < length lists
  pub each : All (IsList siblings) lists
  pub apart : (i j : ℕ) → i < length lists → j < length lists → i ≢ j →
      is_actor (actor_of (list_at lists i)) (actor_of (list_at lists j)) ≡ false

-- the events of the first steps of a list, in the list's order
abbrev pub events_first : ℕ → List Step → List Event
events_first count steps = map (λ made. made.event) (take count steps)

-- A history has the first steps of each list, each once and in order, and nothing else.
pub record HasFirstSteps (lists : List (List Step)) (history : History) : Type 0 where
  pub each : (number : ℕ) → number < length lists →
      (count : ℕ) × (events_by (actor_of (list_at lists number)) history ≡ events_first count (list_at lists number))
  pub no_other : (actor : Actor) → HasNoList lists actor → events_by actor history ≡ []

-- how many steps the lists have in all
abbrev pub steps_in : List (List Step) → ℕ
steps_in lists = sum_by length lists
