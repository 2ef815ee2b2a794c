use Rattle.std.proofs.Common.{◌≡◌, ◌↔◌, subst, ℕ, Some, List, [], ◌∷◌}
use Rattle.command_words.proofs.Read.{read_are}
use Rattle.view_words.specs.Asks.{word_of}
use Rattle.view_words.proofs.command.command_of.Goals as goal

pub returns : goal.returns
returns c =
    record {
      asked = λ command. subst (λ (words : List (List ℕ)). (c.named.result ≡ Some command) ↔ (words ≡ word_of command ∷ [])) (read_are _ _ _ c.in_ok-name.ensures) (c.named.ensures command);
    }
