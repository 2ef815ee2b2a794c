-- Added: which pairs get the time of an advance. No public clause cites this module.
use Rattle.std.specs.Prelude.{ℕ, ◌==◌, ◌&&◌, ◌||◌, Bool, List}
use Rattle.std.specs.List.{list_any}

-- whether a key is among these
abbrev pub has : ℕ → List ℕ → Bool
has key keys = list_any (λ other. other == key) keys

-- whether a pair is of this key and one of these
abbrev pub joins : ℕ → List ℕ → ℕ → ℕ → Bool
joins key others a b = (key == a && has b others) || (key == b && has a others)
