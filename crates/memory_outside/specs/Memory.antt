-- A source and a sink in memory, as they stand between two calls.
use Rattle.std.specs.Prelude.{ℕ, List}

-- the bytes still to come, the most bytes of one call, the numbers of the calls that fail, and the counts of
-- the calls and of the faults so far
pub record SourceState : Type 0 where
  pub left : List ℕ
  pub most : ℕ
  pub fails : List ℕ
  pub calls : ℕ
  pub faults : ℕ

-- the bytes that were written, how many more it can take, the most bytes of one call, the numbers of the
-- calls that fail, and the counts of the calls and of the faults so far
pub record SinkState : Type 0 where
  pub written : List ℕ
  pub spare : ℕ
  pub most : ℕ
  pub fails : List ℕ
  pub calls : ℕ
  pub faults : ℕ
