use Rattle.std.proofs.Common.{◌∙◌, ap, Some}
use Rattle.command_words.specs.declared.command.Command.TheVariants.{Replay, Race, Upgrade, Check, Drill}
use Rattle.scenario_runner.proofs.Asked.{drill_words, known_words}
use Rattle.scenario_runner.proofs.command.run.Goals as goal

pub returns-in-Some-Replay-clause-bad_words : goal.returns-in-Some-Replay-clause-bad_words
returns-in-Some-Replay-clause-bad_words g c =
    known_words c.command_of.result c.args.words.now Replay c.replayed.result c.command_of.ensures.asked (c.in-Some-Replay.is ∙ ap Some c.in-Some-Replay.field-0-is) c.replayed.ensures.devices.good_words

pub returns-in-Some-Race-clause-bad_words : goal.returns-in-Some-Race-clause-bad_words
returns-in-Some-Race-clause-bad_words g c =
    known_words c.command_of.result c.args.words.now Race c.raced.result c.command_of.ensures.asked (c.in-Some-Race.is ∙ ap Some c.in-Some-Race.field-0-is) c.raced.ensures.devices.good_words

pub returns-in-Some-Drill-clause-bad_words : goal.returns-in-Some-Drill-clause-bad_words
returns-in-Some-Drill-clause-bad_words g c =
    known_words c.command_of.result c.args.words.now (Drill c.in-Some-Drill.seed) c.drilled.result c.command_of.ensures.asked (c.in-Some-Drill.is ∙ ap Some c.in-Some-Drill.field-0-is)
    (drill_words _ _ _ c.drilled.ensures)

pub returns-in-Some-Upgrade-clause-bad_words : goal.returns-in-Some-Upgrade-clause-bad_words
returns-in-Some-Upgrade-clause-bad_words g c =
    known_words c.command_of.result c.args.words.now Upgrade c.upgraded.result c.command_of.ensures.asked (c.in-Some-Upgrade.is ∙ ap Some c.in-Some-Upgrade.field-0-is) c.upgraded.ensures.devices.good_words

pub returns-in-Some-Check-clause-bad_words : goal.returns-in-Some-Check-clause-bad_words
returns-in-Some-Check-clause-bad_words g c =
    known_words c.command_of.result c.args.words.now (Check c.in-Some-Check.json) c.checked.result c.command_of.ensures.asked (c.in-Some-Check.is ∙ ap Some c.in-Some-Check.field-0-is) c.checked.ensures.devices.good_words
