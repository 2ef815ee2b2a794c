-- Asks: the commands, and the words of each (this project's).
use Rattle.std.specs.Prelude.{◌≡◌, ◌<◌, ◌^◌, ℕ, ⊤, true, false, List, [], ◌∷◌, map, codes, decimal, String}
use Rattle.std.specs.declared.alloc.Global.{Global}
use Rattle.std.specs.String.{string_bytes}
use Rattle.command_words.specs.declared.command.Command.{Command}
use Rattle.command_words.specs.declared.command.Command.TheVariants.{Replay, Race, Upgrade, Check, Drill}

-- the words of a command: `replay`, `race`, `upgrade`, `check`, `check json`, or `drill` and the seed in decimal
abbrev pub words_of : Command → List (List ℕ)
words_of Replay = codes "replay" ∷ []
words_of Race = codes "race" ∷ []
words_of Upgrade = codes "upgrade" ∷ []
words_of (Check false) = codes "check" ∷ []
words_of (Check true) = codes "check" ∷ codes "json" ∷ []
words_of (Drill seed) = codes "drill" ∷ decimal seed ∷ []

-- a seed has 32 bits
abbrev pub HasSeed : Command → Type 0
HasSeed Replay = ⊤
HasSeed Race = ⊤
HasSeed Upgrade = ⊤
HasSeed (Check json) = ⊤
HasSeed (Drill seed) = seed < 2 ^ 32

-- the words ask for the command
pub record Asks (command : Command) (words : List (String Global)) : Type 0 where
  pub spelled : map string_bytes words ≡ words_of command
  pub seed : HasSeed command
