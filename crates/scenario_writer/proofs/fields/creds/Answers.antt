use Rattle.std.proofs.Common.{◌∙◌}
use Rattle.scenario_text.proofs.Joined.{put}
use Rattle.scenario_writer.proofs.Joined.{creds_text}
use Rattle.scenario_writer.proofs.fields.creds.Goals as goal

pub returns-clause-text : goal.returns-clause-text
returns-clause-text c =
    put _ _ _ _ (put _ _ _ _ (put _ _ _ _ (put _ _ _ _ (put _ _ _ _ (put _ _ _ _ (put _ _ _ _ (put _ _ _ _ c.number.ensures.text c.further.ensures.text) c.further-2.ensures.text) c.further-3.ensures.text) c.further-4.ensures.text) c.further-5.ensures.text) c.flag.ensures.text) c.flag-2.ensures.text) c.flag-3.ensures.text
    ∙ creds_text _ _ _ _ _ _ _ _ _ _
