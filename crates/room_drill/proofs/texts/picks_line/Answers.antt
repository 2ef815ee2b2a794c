use Rattle.std.proofs.Common.{◌∙◌}
use Rattle.scenario_text.proofs.Joined.{put}
use Rattle.room_drill.proofs.Pieces.{picks_text}
use Rattle.room_drill.proofs.texts.picks_line.Goals as goal

pub returns : goal.returns
returns c =
    put _ _ _ _ (put _ _ _ _ (put _ _ _ _ (put _ _ _ _ (put _ _ _ _ (put _ _ _ _ c.new-line.ensures c.named.ensures.text) c.text.ensures.text) c.number.ensures.text) c.text-2.ensures.text) c.number-2.ensures.text) c.text-3.ensures.text
    ∙ picks_text _ _ _
