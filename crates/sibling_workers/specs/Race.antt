-- Race: the order of the actors, and what a race leaves.
use Rattle.std.specs.List.{list_any, range_with_len}
use Rattle.cs_types.specs.declared.event.Event.{Event}
use Rattle.cs_types.specs.declared.event.Step.{Step}
use Rattle.cs_types.specs.Scenario.{is_actor}
use Rattle.std.specs.Prelude.{Bool, List, map, filter, ℕ, ◌-◌, nat_lt, if◌then◌else◌}
use Rattle.cs_types.specs.declared.event.Actor.{Actor}
use Rattle.cs_types.specs.declared.event.Actor.TheVariants.{Sibling, Caller}
use Rattle.cs_types.specs.Room.{Opening}
use Rattle.cs_types.specs.History.{History, IsLegal}
use Rattle.cs_types.specs.Shuffles.{IsShuffle}
use Rattle.cs_types.specs.Drain.{IsDrained}

-- the actors in their order: the 16 siblings that a core may have, then the 8 callers
abbrev pub actor_at : ℕ → Actor
actor_at place = if nat_lt place 16 then Sibling place else Caller (place - 16)

-- whether one of the steps is the actor's
abbrev pub has_step : List Step → Actor → Bool
has_step steps actor = list_any (λ made. is_actor made.actor actor) steps

-- the actors of these steps, in their order
abbrev pub actors_of : List Step → List Actor
actors_of steps = filter (has_step steps) (map actor_at (range_with_len 0 24))

-- the steps of an actor, in their order
abbrev pub steps_by : List Step → Actor → List Step
steps_by steps actor = filter (λ made. is_actor made.actor actor) steps

-- and their events
abbrev pub events_in : Actor → List Step → List Event
events_in actor steps = map (λ made. made.event) (steps_by steps actor)

-- a list for each actor that has a step, in the order of the actors
abbrev pub lists_of : List Step → List (List Step)
lists_of steps = map (steps_by steps) (actors_of steps)

-- The history is a shuffle of all scripts that is legal, and then has the entries of the final drain.
pub record IsRaced (opening : Opening) (history : History) : Type 0 where
  pub played : History
  pub legal : IsLegal opening played
  pub shuffle : IsShuffle opening.scenario played
  pub drained : IsDrained opening played history
