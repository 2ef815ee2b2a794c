use Rattle.std.proofs.Common.{◌∙◌, sym}
use Rattle.command_words.proofs.Read.{read_are}
use Rattle.command_words.proofs.command.command_of.Goals as goal

pub returns : goal.returns
returns c =
    let are = read_are _ _ _ c.in_ok-name.ensures in
    record {
      asked =
          λ command. (
            λ e. let spells = (c.named.ensures command).0 e in record { spelled = sym are ∙ spells.0; seed = spells.1 },
            λ asks. (c.named.ensures command).1 (are ∙ asks.spelled, asks.seed),
          );
    }
