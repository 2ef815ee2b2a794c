-- Lines: those of a printed text, and what is told of one.
use Rattle.std.specs.Prelude.{ℕ, ◌==◌, ◌&&◌, not, nat_le, if◌then◌else◌, List, [], ◌∷◌, map, take, Option, Some, None}
use Rattle.std.specs.List.{take_while}

-- the byte stands before the first of these lines, in a line of its own if there is none
abbrev pub begun_by : ℕ → List (List ℕ) → List (List ℕ)
begun_by byte [] = (byte ∷ []) ∷ []
begun_by byte (line ∷ lines) = (byte ∷ line) ∷ lines

-- the lines of a text, each with its line feed; only the last may have none
unfoldable pub lines_of : List ℕ → List (List ℕ)
lines_of [] = []
lines_of (byte ∷ text) = if byte == 10 then (10 ∷ []) ∷ lines_of text else begun_by byte (lines_of text)

-- what stands on a line before its line feed
abbrev pub without_feed : List ℕ → List ℕ
without_feed line = take_while (λ byte. not (byte == 10)) line

-- a byte from the space to `~` as it is, and `?` for any other
abbrev pub shown : ℕ → ℕ
shown byte = if nat_le 32 byte && nat_le byte 126 then byte else 63

-- what is told of a line that was found: its first 200 bytes, as they are shown
abbrev pub told : List ℕ → List ℕ
told line = map shown (take 200 (without_feed line))

-- the line, if there is one: none is empty
abbrev pub if_any : List ℕ → Option (List ℕ)
if_any [] = None
if_any (byte ∷ line) = Some (byte ∷ line)
