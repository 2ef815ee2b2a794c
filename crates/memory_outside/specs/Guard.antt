-- A guard that takes memory for its pairs, as it stands between two calls, and what keeps a pair from being taught.
use Rattle.std.specs.Prelude.{◌≡◌, ◌<◌, ℕ, List}
use Rattle.cs_outside.specs.declared.guard.TeachFault.{TeachFault}
use Rattle.cs_outside.specs.declared.guard.TeachFault.TheVariants.{Full, OutOfMemory}

-- a guard that takes memory for its pairs: the pairs that it refuses, how many it can be taught, and how often it was
-- asked
pub record ListGuardState : Type 0 where
  pub pairs : List (ℕ × ℕ)
  pub cap : ℕ
  pub asked : ℕ

-- `Full` comes if a guard has as many pairs as its cap, which it names, and the want of memory only if it has fewer
abbrev pub FullExactlyAt : ℕ → ℕ → TeachFault → Type 0
FullExactlyAt cap count (Full named) = (named ≡ cap) × (count ≡ cap)
FullExactlyAt cap count OutOfMemory = count < cap
