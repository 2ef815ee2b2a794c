-- Guards, as they stand between two calls, and what keeps a pair from being taught.
use Rattle.std.specs.Prelude.{◌≡◌, ◌==◌, ◌&&◌, ◌%◌, ℕ, Bool, true, false, List, [], All, slice_index_or}
use Rattle.cs_outside.specs.declared.guard.TeachFault.{TeachFault}
use Rattle.cs_outside.specs.declared.guard.TeachFault.TheVariants.{Full, OutOfMemory}

-- whether two pairs are one
abbrev pub is_pair : ℕ × ℕ → ℕ × ℕ → Bool
is_pair a b = (a.0 == b.0) && (a.1 == b.1)

-- how many pairs a guard that holds its pairs in place can be taught
abbrev pub pair_guard_cap : ℕ
pair_guard_cap = 16

-- a guard that holds its pairs in place: the pairs that it refuses, and how often it was asked
pub record PairGuardState : Type 0 where
  pub pairs : List (ℕ × ℕ)
  pub asked : ℕ

-- the lot of a caller by its real user id
abbrev pub lot_of : ℕ → ℕ
lot_of from = from % 64

-- the callers of these pairs are of these lots
abbrev pub AreOfLots : List Bool → List (ℕ × ℕ) → Type 0
AreOfLots lots pairs = All (λ pair. slice_index_or lots (lot_of pair.0) false ≡ true) pairs

-- one that refuses nobody yet and was never asked
abbrev pub fresh : PairGuardState
fresh = record { pairs = []; asked = 0 }

-- a guard that refuses nobody: how often it was asked
pub record NullGuardState : Type 0 where
  pub asked : ℕ

-- `Full` comes only if a guard has as many pairs as its cap, which it names. Nothing is said of a lack of memory.
abbrev pub FullOnlyAt : ℕ → ℕ → TeachFault → Type 0
FullOnlyAt cap count (Full named) = (named ≡ cap) × (count ≡ cap)
FullOnlyAt cap count OutOfMemory = Unit {0}
