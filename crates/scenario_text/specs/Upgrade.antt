-- Upgrade: a scenario of either version, in version 2.
use Rattle.std.specs.Prelude.{ℕ, ◌+◌, List, length, map}
use Rattle.std.specs.List.{enumerate_from}
use Rattle.cs_types.specs.declared.scenario.Teach.{Teach}
use Rattle.cs_types.specs.declared.scenario.Scenario.{Scenario}
use Rattle.cs_types.specs.Scenario.{user_lines}

-- these teaches, of which the first has the line of this number
abbrev pub renumbered : ℕ → List Teach → List Teach
renumbered first teaches = map (λ numbered. record numbered.1 { line = numbered.0 }) (enumerate_from first teaches)

-- the scenario in version 2: each teach has the number that its line has there, and all else stays
abbrev pub upgraded : Scenario → Scenario
upgraded scenario =
    record scenario {
      version = 2;
      teaches = renumbered (user_lines 2 scenario.tasks + length scenario.tasks + 4) scenario.teaches;
    }
