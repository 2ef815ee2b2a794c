-- Movers: tasks are told alike that stand in another order.
use Rattle.std.proofs.Common.{ℕ, List}
use Rattle.std.specs.List.Sorted.{IsPermutation}
use Rattle.std.proofs.lemmas.List.Sorted.{IsPermutation-trans}
use Rattle.core_lanes.specs.Queued.{AreTold}

pub told_alike : (tasks others : List (ℕ × ℕ)) (pids : List ℕ) → IsPermutation tasks others → AreTold others pids → AreTold tasks pids
told_alike tasks others pids same told =
    record { movers = told.movers; same = IsPermutation-trans tasks others told.movers same told.same; rising = told.rising; are = told.are }
