-- Codes: how the model of a queue is stored, as the pair of its parts.
use Rattle.std.specs.Prelude.{ℕ, refl}
use Rattle.std.specs.FinMap.{code}
use Rattle.std.specs.Coded.{Coded, code_by, coded×, coded_ℕ}
use Rattle.cs_types.specs.Queue.{Members, Ranked, Seats, Seated, Spots, Spotted, RunQueued}

abbrev pub ranked_code : Coded Ranked
ranked_code =
    code_by (Members × ℕ) (coded× (code (coded× coded_ℕ coded_ℕ) coded_ℕ) coded_ℕ) (λ queue. (queue.members, queue.spare))
    (λ parts. record { members = parts.0; spare = parts.1 }) (λ _. refl)

abbrev pub seated_code : Coded Seated
seated_code =
    code_by (Seats × ℕ) (coded× (code (coded× coded_ℕ (coded× coded_ℕ coded_ℕ)) coded_ℕ) coded_ℕ) (λ queue. (queue.tasks, queue.spare))
    (λ parts. record { tasks = parts.0; spare = parts.1 }) (λ _. refl)

abbrev pub spotted_code : Coded Spotted
spotted_code =
    code_by (Spots × ℕ) (coded× (code (coded× coded_ℕ (coded× coded_ℕ (coded× coded_ℕ coded_ℕ))) coded_ℕ) coded_ℕ) (λ queue. (queue.tasks, queue.spare))
    (λ parts. record { tasks = parts.0; spare = parts.1 }) (λ _. refl)

abbrev pub run_queued_code : Coded RunQueued
run_queued_code =
    code_by (Seats × (Spots × ℕ))
    (coded× (code (coded× coded_ℕ (coded× coded_ℕ coded_ℕ)) coded_ℕ)
    (coded× (code (coded× coded_ℕ (coded× coded_ℕ (coded× coded_ℕ coded_ℕ))) coded_ℕ) coded_ℕ))
    (λ queue. (queue.tasks, (queue.cookies, queue.spare))) (λ parts. record { tasks = parts.0; cookies = parts.1.0; spare = parts.1.1 }) (λ _. refl)
