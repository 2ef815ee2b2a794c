-- Scripted: what a room under a lock keeps, with the steps that are left to its actors.
use Rattle.std.specs.Prelude.{◌≡◌, ℕ, ◌+◌, ◌*◌, ◌≤◌, List, ◌++◌, length}
use Rattle.cs_types.specs.declared.event.Actor.{Actor}
use Rattle.cs_types.specs.declared.event.Step.{Step}
use Rattle.cs_types.specs.Scenario.{IsPlayable, script}
use Rattle.cs_types.specs.Room.{Opening}
use Rattle.cs_types.specs.History.{History, events_by}
use Rattle.sibling_workers.specs.Race.{events_in}

-- Of a room that was named, its own opening, its history and how many entries it can take; and the steps that are left.
pub record IsScripted (name own : Opening) (history : History) (count : ℕ) (left : List Step) : Type 0 where
  pub playable : IsPlayable name.scenario
  -- the room has the opening that its type names
  pub named : own ≡ name
  -- what an actor has made, and then what is left to it, are its script
  pub scripts : (actor : Actor) → events_by actor history ++ events_in actor left ≡ script name.scenario actor
  -- the entries that are made and the steps that are left are as many as the scenario's steps
  pub counted : length history + length left ≡ length name.scenario.steps
  -- the room can take what is left, and the entries of the final drain
  pub spare : length left + name.scenario.siblings * name.scenario.siblings ≤ count
