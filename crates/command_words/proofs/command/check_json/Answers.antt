use Rattle.std.proofs.Common.{◌≡◌, ◌∙◌, ap, Some}
use Rattle.command_words.specs.declared.command.Command.TheVariants.{Replay, Race, Upgrade, Check, Drill}
use Rattle.command_words.proofs.Found.{drill_is_no_check, no_json, none_asked, not_asked, only, race_is_no_check, replay_is_no_check, upgrade_is_no_check}
use Rattle.command_words.proofs.command.check_json.Goals as goal

pub returns-in-Some-Check : goal.returns-in-Some-Check
returns-in-Some-Check c =
    let is = c.in-Some-Check.is ∙ ap Some c.in-Some-Check.field-0-is in
    λ json. (
      λ e. let same : c.in-Some-Check.json ≡ json = cc in (c.command_of.ensures.asked (Check json)).0 (is ∙ ap (λ n. Some (Check n)) same),
      λ asks. let same = only c.command_of.result c.args.words.now (Check c.in-Some-Check.json) (Check json) c.command_of.ensures.asked is asks in cc,
    )

pub returns-in-Some-Replay : goal.returns-in-Some-Replay
returns-in-Some-Replay c =
    λ json. (
      λ e. absurd (no_json json e),
      λ asks. absurd (not_asked c.command_of.result c.args.words.now Replay (Check json) c.command_of.ensures.asked (c.in-Some-Replay.is ∙ ap Some c.in-Some-Replay.field-0-is) (replay_is_no_check json) asks),
    )

pub returns-in-Some-Race : goal.returns-in-Some-Race
returns-in-Some-Race c =
    λ json. (
      λ e. absurd (no_json json e),
      λ asks. absurd (not_asked c.command_of.result c.args.words.now Race (Check json) c.command_of.ensures.asked (c.in-Some-Race.is ∙ ap Some c.in-Some-Race.field-0-is) (race_is_no_check json) asks),
    )

pub returns-in-Some-Upgrade : goal.returns-in-Some-Upgrade
returns-in-Some-Upgrade c =
    λ json. (
      λ e. absurd (no_json json e),
      λ asks. absurd (not_asked c.command_of.result c.args.words.now Upgrade (Check json) c.command_of.ensures.asked (c.in-Some-Upgrade.is ∙ ap Some c.in-Some-Upgrade.field-0-is) (upgrade_is_no_check json) asks),
    )

pub returns-in-Some-Drill : goal.returns-in-Some-Drill
returns-in-Some-Drill c =
    λ json. (
      λ e. absurd (no_json json e),
      λ asks. absurd (not_asked c.command_of.result c.args.words.now (Drill c.in-Some-Drill.field-0-0) (Check json) c.command_of.ensures.asked (c.in-Some-Drill.is ∙ ap Some c.in-Some-Drill.field-0-is) (drill_is_no_check c.in-Some-Drill.field-0-0 json) asks),
    )

pub returns-in-None : goal.returns-in-None
returns-in-None c = λ json. (λ e. absurd (no_json json e), λ asks. absurd (none_asked c.command_of.result c.args.words.now c.command_of.ensures.asked c.in-None.is (Check json) asks))
