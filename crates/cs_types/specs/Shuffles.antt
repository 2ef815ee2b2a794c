-- Shuffles: histories in which each actor's steps keep the order of its script. An actor with no step line has an empty
-- script, so these histories have no entry of it, nor of the final drain.
use Rattle.std.specs.Prelude.{◌≡◌}
use mathlib.Core.List.{IsPrefix}
use Rattle.cs_types.specs.declared.event.Actor.{Actor}
use Rattle.cs_types.specs.declared.scenario.Scenario.{Scenario}
use Rattle.cs_types.specs.Scenario.{script}
use Rattle.cs_types.specs.History.{History, events_by}

-- the events of each actor's entries are the first of its script, in the script's order
abbrev pub KeepsScripts : Scenario → History → Type 0
KeepsScripts scenario history = (actor : Actor) → IsPrefix (events_by actor history) (script scenario actor)

-- each actor has made its whole script, in the script's order
abbrev pub IsShuffle : Scenario → History → Type 0
IsShuffle scenario history = (actor : Actor) → events_by actor history ≡ script scenario actor
