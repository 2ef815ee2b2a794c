-- Standard input and output, and what waits for the latter.
use Rattle.std.specs.Prelude.{◌≡◌, ℕ, List, take, drop}

-- how many bytes a sink over standard output can gather before it needs the device
abbrev pub buffer_bytes : ℕ
buffer_bytes = 8192

-- a source over standard input: the count of its faults
pub record InputState : Type 0 where
  pub faults : ℕ

-- a sink over standard output: the bytes that it has gathered and not yet given to the device, and the count
-- of its faults
pub record OutputState : Type 0 where
  pub gathered : List ℕ
  pub faults : ℕ

-- a prefix of these bytes is gone, and nothing else
abbrev pub IsRest : List ℕ → List ℕ → Type 0
IsRest before now = (n : ℕ) × (now ≡ drop n before)

-- a prefix of these bytes is gone, for which this holds, and nothing else
abbrev pub LosesPrefix : List ℕ → List ℕ → (List ℕ → Type 0) → Type 0
LosesPrefix before now P = (n : ℕ) × (now ≡ drop n before) × P (take n before)
