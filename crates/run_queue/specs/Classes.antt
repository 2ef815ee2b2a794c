-- Classes: how the tasks of all classes are stored, and what always holds of them.
use Rattle.std.specs.Prelude.{ℕ, ◌+◌, ◌-◌, ◌^◌, ◌<◌, ◌≤◌, List, [], ◌++◌, map}
use Rattle.std.specs.FinMap.{entries, from_sorted, len}
use Rattle.cs_types.specs.Queue.{Members, Ranked, Seat, Seated}
use Rattle.run_queue.specs.declared.classes.Classes.TheInside.{Inside}

-- a task as it is handed over when all leave: the stamp of its seat, and its pid
abbrev pub stamped : Seat × ℕ → ℕ × ℕ
stamped entry = (entry.0.1.1, entry.1)

-- the tasks of a class by rising key, each at its seat
abbrev pub seats_in : ℕ → Members → List (Seat × ℕ)
seats_in class members = map (λ entry. ((class, entry.0), entry.1)) (entries members)

-- the tasks of all classes by rising seat
abbrev pub joined : Members → Members → Members → Members → List (Seat × ℕ)
joined stop deadline real_time fair = seats_in 0 stop ++ (seats_in 1 deadline ++ (seats_in 2 real_time ++ (seats_in 3 fair ++ [])))

-- how many there are
abbrev pub count : {A : Type 0} → Inside A → ℕ
count queue = len queue.stop.members + len queue.deadline.members + len queue.real_time.members + len queue.fair.members

-- what contracts see of it
abbrev pub seated_of : {A : Type 0} → Inside A → Seated
seated_of queue =
    record {
      tasks = from_sorted (joined queue.stop.members queue.deadline.members queue.real_time.members queue.fair.members);
      spare = queue.limit - count queue;
    }

-- whether a class can take this number of tasks in all
abbrev pub Holds : ℕ → Ranked → Type 0
Holds limit queue = limit ≤ len queue.members + queue.spare

-- There are at most as many tasks as the limit, each of which every class can take.
pub record IsSound {A : Type 0} (queue : Inside A) : Type 0 where
  pub few : count queue ≤ queue.limit
  pub limit_fits : queue.limit < 2 ^ 32
  pub stop : Holds queue.limit queue.stop
  pub deadline : Holds queue.limit queue.deadline
  pub real_time : Holds queue.limit queue.real_time
  pub fair : Holds queue.limit queue.fair
