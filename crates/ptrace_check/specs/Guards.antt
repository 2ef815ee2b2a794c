-- Guards: those of a core, as its calls see them.
use Rattle.std.specs.Prelude.{◌≡◌, ℕ, ◌≤◌, List, [], length, slice_index_or, All}
use Rattle.cs_types.specs.Guards.{GuardState, GuardList}

-- a guard in its seat, and how many pairs it can be taught, 0 for one that was dropped
pub record Seated : Type 0 where
  pub guard : GuardState
  pub cap : ℕ

-- the guards, and how many pairs each can be taught, 0 for one that was dropped
pub record Guarded : Type 0 where
  pub guards : GuardList
  pub caps : List ℕ

-- how many pairs the guard of this number can be taught
abbrev pub cap_of : List ℕ → ℕ → ℕ
cap_of caps index = slice_index_or caps index 0

-- how many guards a core has at most
abbrev pub most_guards : ℕ
most_guards = 16

-- The guards of a list are fresh: they are no more than a core can have, refuse nobody yet and were never asked.
pub record AreFresh {G : Type 0} (pairs : G → List (ℕ × ℕ)) (asked : G → ℕ) (guards : List G) : Type 0 where
  pub few : length guards ≤ most_guards
  pub untaught : All (λ guard. pairs guard ≡ []) guards
  pub unasked : All (λ guard. asked guard ≡ 0) guards
