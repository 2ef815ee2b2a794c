use Rattle.std.proofs.Common.{◌≡◌, ◌∙◌, ap, Some}
use Rattle.command_words.specs.declared.command.Command.TheVariants.{Replay, Race, Upgrade, Check, Drill}
use Rattle.command_words.proofs.Found.{check_is_no_drill, no_seed, none_asked, not_asked, only, race_is_no_drill, replay_is_no_drill, upgrade_is_no_drill}
use Rattle.command_words.proofs.command.drill_seed.Goals as goal

pub returns-in-Some-Drill : goal.returns-in-Some-Drill
returns-in-Some-Drill c =
    let is = c.in-Some-Drill.is ∙ ap Some c.in-Some-Drill.field-0-is in
    λ seed. (
      λ e. let same : c.in-Some-Drill.seed ≡ seed = cc in (c.command_of.ensures.asked (Drill seed)).0 (is ∙ ap (λ n. Some (Drill n)) same),
      λ asks. let same = only c.command_of.result c.args.words.now (Drill c.in-Some-Drill.seed) (Drill seed) c.command_of.ensures.asked is asks in cc,
    )

pub returns-in-Some-Replay : goal.returns-in-Some-Replay
returns-in-Some-Replay c =
    λ seed. (
      λ e. absurd (no_seed seed e),
      λ asks. absurd (not_asked c.command_of.result c.args.words.now Replay (Drill seed) c.command_of.ensures.asked (c.in-Some-Replay.is ∙ ap Some c.in-Some-Replay.field-0-is) (replay_is_no_drill seed) asks),
    )

pub returns-in-Some-Race : goal.returns-in-Some-Race
returns-in-Some-Race c =
    λ seed. (
      λ e. absurd (no_seed seed e),
      λ asks. absurd (not_asked c.command_of.result c.args.words.now Race (Drill seed) c.command_of.ensures.asked (c.in-Some-Race.is ∙ ap Some c.in-Some-Race.field-0-is) (race_is_no_drill seed) asks),
    )

pub returns-in-Some-Upgrade : goal.returns-in-Some-Upgrade
returns-in-Some-Upgrade c =
    λ seed. (
      λ e. absurd (no_seed seed e),
      λ asks. absurd (not_asked c.command_of.result c.args.words.now Upgrade (Drill seed) c.command_of.ensures.asked (c.in-Some-Upgrade.is ∙ ap Some c.in-Some-Upgrade.field-0-is) (upgrade_is_no_drill seed) asks),
    )

pub returns-in-Some-Check : goal.returns-in-Some-Check
returns-in-Some-Check c =
    λ seed. (
      λ e. absurd (no_seed seed e),
      λ asks. absurd (not_asked c.command_of.result c.args.words.now (Check c.in-Some-Check.field-0-0) (Drill seed) c.command_of.ensures.asked (c.in-Some-Check.is ∙ ap Some c.in-Some-Check.field-0-is) (check_is_no_drill c.in-Some-Check.field-0-0 seed) asks),
    )

pub returns-in-None : goal.returns-in-None
returns-in-None c = λ seed. (λ e. absurd (no_seed seed e), λ asks. absurd (none_asked c.command_of.result c.args.words.now c.command_of.ensures.asked c.in-None.is (Drill seed) asks))
