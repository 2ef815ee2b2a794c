-- Counts: what is said of a text that is a scenario.
use Rattle.std.specs.Prelude.{ℕ, List, [], ◌∷◌, ◌++◌, length, codes, decimal}
use Rattle.cs_types.specs.declared.scenario.Scenario.{Scenario}

-- how many siblings, tasks, teach lines and steps it has
abbrev pub counts_text : Scenario → List ℕ
counts_text scenario =
    codes "a scenario: siblings " ++ decimal scenario.siblings ++ codes ", tasks " ++ decimal (length scenario.tasks)
    ++ codes ", teach lines " ++ decimal (length scenario.teaches) ++ codes ", steps " ++ decimal (length scenario.steps)
    ++ 10 ∷ []
