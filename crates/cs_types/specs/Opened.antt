-- Opened: what is asked of a scenario and guards on which a machine is started, and what it begins with.
use Rattle.std.specs.Prelude.{◌≡◌, ℕ, ◌+◌, ◌*◌, [], length}
use Rattle.cs_types.specs.declared.scenario.Scenario.{Scenario}
use Rattle.cs_types.specs.Scenario.{IsPlayable}
use Rattle.cs_types.specs.Guards.{GuardList, guards_on_bench}
use Rattle.cs_types.specs.Room.{Opening}
use Rattle.cs_types.specs.History.{History}

-- what a machine begins with that is handed a scenario and these guards
abbrev pub opened : Scenario → GuardList → Opening
opened scenario guards = record { scenario = scenario; guards = length guards.all }

-- a machine may be started on them: the scenario can be played, and the guards stand on the bench, with what its lines
-- teach them
pub record MayStart (scenario : Scenario) (guards : GuardList) : Type 0 where
  pub playable : IsPlayable scenario
  pub on_bench : guards ≡ guards_on_bench scenario.teaches (length guards.all)

-- it has started on them: it has their opening and no entry, and can take one for each step and, for the final drain,
-- the square of the siblings
pub record HasStarted (scenario : Scenario) (guards : GuardList) (own : Opening) (history : History) (most : ℕ) : Type 0 where
  pub opening : own ≡ opened scenario guards
  pub empty : history ≡ []
  pub spare : most ≡ length scenario.steps + scenario.siblings * scenario.siblings
