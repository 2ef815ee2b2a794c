-- Fair: the first task of a class, as a run queue is asked for it.
use Rattle.std.specs.Prelude.{ℕ, ◌==◌, Option, find}
use Rattle.std.specs.Option.{option_map}
use Rattle.std.specs.FinMap.{entries}
use Rattle.cs_types.specs.Queue.{Seats}

-- the pid of the first task of a class: the seats of a class stand together, the highest first
abbrev pub first_in : ℕ → Seats → Option ℕ
first_in class tasks = option_map (λ entry. entry.1) (find (λ entry. entry.0.0 == class) (entries tasks))

-- and the rank of that task
abbrev pub least_rank_in : ℕ → Seats → Option ℕ
least_rank_in class tasks = option_map (λ entry. entry.0.1.0) (find (λ entry. entry.0.0 == class) (entries tasks))
