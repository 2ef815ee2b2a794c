-- Machine: what a machine stands for.
use Rattle.std.specs.Prelude.{ℕ, List}
use Rattle.cs_types.specs.declared.event.Step.{Step}
use Rattle.cs_types.specs.Room.{Opening}

-- what it began with, the steps that were made, the oldest first, and how many more entries it can take
pub record Machine : Type 0 where
  pub opening : Opening
  pub steps : List Step
  pub spare : ℕ
