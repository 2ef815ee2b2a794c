-- Asks: the commands, and the word of each (this project's).
use Rattle.std.specs.Prelude.{◌≡◌, ℕ, List, [], ◌∷◌, map, codes, String}
use Rattle.std.specs.declared.alloc.Global.{Global}
use Rattle.std.specs.String.{string_bytes}
use Rattle.view_words.specs.declared.command.Command.{Command}
use Rattle.view_words.specs.declared.command.Command.TheVariants.{Summary, Table, Segments, SegmentsJson, Picture, Explain}

-- the word of a command
abbrev pub word_of : Command → List ℕ
word_of Summary = codes "summary"
word_of Table = codes "table"
word_of Segments = codes "segments"
word_of SegmentsJson = codes "segments-json"
word_of Picture = codes "picture"
word_of Explain = codes "explain"

-- the words ask for the command: they are its word alone
abbrev pub Asks : Command → List (String Global) → Type 0
Asks command words = map string_bytes words ≡ word_of command ∷ []
