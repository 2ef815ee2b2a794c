-- Anew: tasks with cookies that get other ranks and stamps.
use Rattle.std.specs.Prelude.{ℕ}
use Rattle.cs_types.specs.Queue.{Key, Spot}

-- a task at its spot, once its pid has another rank and another stamp
abbrev pub respotted : (ℕ → Key → Key) → Spot × ℕ → Spot × ℕ
respotted at entry = ((entry.0.0, (entry.0.1.0, at entry.1 entry.0.1.1)), entry.1)
