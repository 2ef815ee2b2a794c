-- Asked: a command does not answer that its own word is bad.
use Rattle.std.proofs.Common.{◌≡◌, ◌≢◌, List}
use Rattle.std.specs.Prelude.{◌↔◌, Option, Some, String}
use Rattle.std.specs.declared.alloc.Global.{Global}
use Rattle.view_words.specs.declared.command.Command.{Command}
use Rattle.view_words.specs.Asks.{Asks}
use Rattle.scenario_input.specs.declared.status.Status.{Status}
use Rattle.scenario_input.specs.declared.status.Status.TheVariants.{BadWords}

-- what is found in words: the command that they ask for, or nothing
abbrev pub Finds : Option Command → List (String Global) → Type 0
Finds found words = (command : Command) → (found ≡ Some command) ↔ Asks command words

-- It answers that the words are bad exactly where they ask for nothing.
pub known_words : (found : Option Command) (words : List (String Global)) (mine : Command) (status : Status) → Finds found words → found ≡ Some mine → status ≢ BadWords →
    (status ≡ BadWords) ↔ ((command : Command) → ¬ Asks command words)
known_words found words mine status finds is other = (λ bad. absurd (other bad), λ none. absurd (none mine ((finds mine).0 is)))
