-- Anew: tasks of all classes that get other ranks and stamps.
use Rattle.std.specs.Prelude.{ℕ}
use Rattle.cs_types.specs.Queue.{Key, Seat}

-- a task at its seat, once its pid has another rank and another stamp
abbrev pub reseated : (ℕ → Key → Key) → Seat × ℕ → Seat × ℕ
reseated at entry = ((entry.0.0, at entry.1 entry.0.1), entry.1)
