-- Asked: a command does not answer that its own words are bad.
use Rattle.std.proofs.Common.{◌≡◌, ◌≢◌, ℕ, List, inl, inr}
use Rattle.std.specs.Prelude.{◌↔◌, Option, Some, String}
use Rattle.std.specs.declared.alloc.Global.{Global}
use Rattle.command_words.specs.declared.command.Command.{Command}
use Rattle.command_words.specs.Asks.{Asks}
use Rattle.scenario_input.specs.declared.status.Status.{Status}
use Rattle.scenario_input.specs.declared.status.Status.TheVariants.{BadWords}
use Rattle.command_words.proofs.Found.{Finds}
use Rattle.scenario_runner.specs.Ends.{Used, EndsAsDrill}

-- a drill does not answer that the words are bad
pub drill_words : {K : Type 0} (seed : ℕ) (sink : Used K) (status : Status) → EndsAsDrill seed sink status → status ≢ BadWords
drill_words seed sink status ends bad = elim ends.either [
  | inl done ↦ absurd cc
  | inr (inl fault) ↦ absurd cc
  | inr (inr memory) ↦ absurd cc
]

-- It answers that the words are bad exactly where they ask for nothing.
pub known_words : (found : Option Command) (words : List (String Global)) (mine : Command) (status : Status) → Finds found words → found ≡ Some mine → status ≢ BadWords →
    (status ≡ BadWords) ↔ ((command : Command) → ¬ Asks command words)
known_words found words mine status finds is other = (λ bad. absurd (other bad), λ none. absurd (none mine ((finds mine).0 is)))
