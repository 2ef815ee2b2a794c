use Rattle.std.proofs.Common.{refl, ◌∙◌, ap, Some}
use Rattle.command_words.specs.declared.command.Command.TheVariants.{Replay, Race, Upgrade, Check, Drill}
use Rattle.command_words.proofs.Found.{check_is_no_replay, drill_is_no_replay, no_truth, none_asked, not_asked, race_is_no_replay, upgrade_is_no_replay}
use Rattle.command_words.proofs.command.is_replay.Goals as goal

pub returns-in-Some-Replay : goal.returns-in-Some-Replay
returns-in-Some-Replay c =
    (λ _. (c.command_of.ensures.asked Replay).0 (c.in-Some-Replay.is ∙ ap Some c.in-Some-Replay.field-0-is), λ _. refl)

pub returns-in-Some-Race : goal.returns-in-Some-Race
returns-in-Some-Race c = (
  λ e. absurd (no_truth e),
  λ asks. absurd (not_asked c.command_of.result c.args.words.now Race Replay c.command_of.ensures.asked (c.in-Some-Race.is ∙ ap Some c.in-Some-Race.field-0-is) race_is_no_replay asks),
)

pub returns-in-Some-Upgrade : goal.returns-in-Some-Upgrade
returns-in-Some-Upgrade c = (
  λ e. absurd (no_truth e),
  λ asks. absurd (not_asked c.command_of.result c.args.words.now Upgrade Replay c.command_of.ensures.asked (c.in-Some-Upgrade.is ∙ ap Some c.in-Some-Upgrade.field-0-is) upgrade_is_no_replay asks),
)

pub returns-in-Some-Check : goal.returns-in-Some-Check
returns-in-Some-Check c = (
  λ e. absurd (no_truth e),
  λ asks. absurd (not_asked c.command_of.result c.args.words.now (Check c.in-Some-Check.field-0-0) Replay c.command_of.ensures.asked (c.in-Some-Check.is ∙ ap Some c.in-Some-Check.field-0-is) (check_is_no_replay c.in-Some-Check.field-0-0) asks),
)

pub returns-in-Some-Drill : goal.returns-in-Some-Drill
returns-in-Some-Drill c = (
  λ e. absurd (no_truth e),
  λ asks. absurd (not_asked c.command_of.result c.args.words.now (Drill c.in-Some-Drill.field-0-0) Replay c.command_of.ensures.asked (c.in-Some-Drill.is ∙ ap Some c.in-Some-Drill.field-0-is) (drill_is_no_replay c.in-Some-Drill.field-0-0) asks),
)

pub returns-in-None : goal.returns-in-None
returns-in-None c = (λ e. absurd (no_truth e), λ asks. absurd (none_asked c.command_of.result c.args.words.now c.command_of.ensures.asked c.in-None.is Replay asks))
