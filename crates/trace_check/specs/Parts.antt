-- Parts: the scenario that an input begins with, and the printed run behind it.
use Rattle.std.specs.Prelude.{ℕ, Bool, if◌then◌else◌, List, [], ◌∷◌, codes, bytes_eq}
use Rattle.std.specs.List.{concat}
use Rattle.trace_check.specs.Lines.{lines_of}

-- the line is exactly `end` and its line feed
abbrev pub is_end : List ℕ → Bool
is_end line = bytes_eq line (codes "end\n")

-- these lines up to and with the first that is `end`: all if none is
unfoldable pub up_to_end : List (List ℕ) → List (List ℕ)
up_to_end [] = []
up_to_end (line ∷ lines) = if is_end line then line ∷ [] else line ∷ up_to_end lines

-- these lines behind the first that is `end`: none if none is
unfoldable pub behind_end : List (List ℕ) → List (List ℕ)
behind_end [] = []
behind_end (line ∷ lines) = if is_end line then lines else behind_end lines

-- the scenario that an input begins with
abbrev pub scenario_part : List ℕ → List ℕ
scenario_part input = concat (up_to_end (lines_of input))

-- the run behind it
abbrev pub run_part : List ℕ → List ℕ
run_part input = concat (behind_end (lines_of input))
