use Rattle.std.proofs.Common.{◌∙◌}
use Rattle.scenario_text.proofs.Joined.{put}
use Rattle.times_report.proofs.Pieces.{waits_text}
use Rattle.times_report.proofs.wait_lines.wait_line.Goals as goal

pub returns : goal.returns
returns c =
    put _ _ _ _ (put _ _ _ _ (put _ _ _ _ (put _ _ _ _ (put _ _ _ _ (put _ _ _ _ (put _ _ _ _ (put _ _ _ _ (put _ _ _ _ c.new-line.ensures c.text.ensures.text) c.number.ensures.text) c.text-2.ensures.text) c.number-2.ensures.text) c.text-3.ensures.text) c.number-3.ensures.text) c.text-4.ensures.text) c.number-4.ensures.text) c.text-5.ensures.text
    ∙ waits_text _ _ _ _
