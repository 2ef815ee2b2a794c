-- Devices: the bytes that come from them and go to them, if these are known, and their counts of faults.
use Rattle.std.specs.Prelude.{◌≡◌, ℕ, ◌+◌, ◌-◌, ◌^◌, ◌≤◌, min, List, ◌++◌, take, Option}
use Rattle.std.specs.Option.{option_map}

-- these bytes, in front of those that are known to be left (what is unknown stays so)
abbrev pub prepended : List ℕ → Option (List ℕ) → Option (List ℕ)
prepended bytes left = option_map (λ rest. bytes ++ rest) left

-- these bytes, after those that are known to be written
abbrev pub appended : Option (List ℕ) → List ℕ → Option (List ℕ)
appended written bytes = option_map (λ before. before ++ bytes) written

-- one more of what is counted, up to 2^64 - 1, where a count stays
abbrev pub raised : ℕ → ℕ
raised count = min (count + 1) (2 ^ 64 - 1)

-- A count of faults rose: it is greater than before, or stands at its end, 2^64 - 1.
abbrev pub Rose : ℕ → ℕ → Type 0
Rose before now = raised before ≤ now

-- a prefix of this text was written, and nothing else
abbrev pub WritesPrefix : Option (List ℕ) → List ℕ → Option (List ℕ) → Type 0
WritesPrefix before text now = (n : ℕ) × (now ≡ appended before (take n text))
