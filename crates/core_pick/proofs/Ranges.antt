-- Ranges: low times stay low where they are read.
use Rattle.std.proofs.Common.{ℕ, zero, suc, ◌^◌, ◌<◌, List, [], ◌∷◌, arith}
use Rattle.std.specs.Prelude.{All, slice_index_or}
use Rattle.std.proofs.lemmas.List.Elements.{All-head, All-tail}
use Rattle.cs_types.specs.Room.{SiblingState, absent}

-- the snapshot of each sibling, also past the last, is low
pub low_snapshots : (siblings : List SiblingState) → All (λ sibling. sibling.snapshot < 2 ^ 100) siblings → (cpu : ℕ) →
    (slice_index_or siblings cpu absent).snapshot < 2 ^ 100
low_snapshots [] all cpu = omega arith
low_snapshots (sibling ∷ siblings) all zero = All-head (λ (s : SiblingState). s.snapshot < 2 ^ 100) sibling siblings all
low_snapshots (sibling ∷ siblings) all (suc cpu) = low_snapshots siblings (All-tail (λ (s : SiblingState). s.snapshot < 2 ^ 100) sibling siblings all) cpu
