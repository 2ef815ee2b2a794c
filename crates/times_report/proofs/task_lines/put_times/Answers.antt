use Rattle.std.proofs.Common.{◌∙◌}
use Rattle.scenario_text.proofs.Joined.{put}
use Rattle.times_report.proofs.Pieces.{times_text}
use Rattle.times_report.proofs.task_lines.put_times.Goals as goal

pub returns-clause-text : goal.returns-clause-text
returns-clause-text c = put _ _ _ _ (put _ _ _ _ c.named.ensures.text c.named-2.ensures.text) c.named-3.ensures.text ∙ times_text _ _ _ _
