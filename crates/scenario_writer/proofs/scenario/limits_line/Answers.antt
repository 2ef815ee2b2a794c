use Rattle.std.proofs.Common.{◌∙◌}
use Rattle.std.specs.Prelude.{codes, decimal}
use Rattle.scenario_text.proofs.Joined.{put}
use Rattle.scenario_writer.proofs.Joined.{three_text}
use Rattle.scenario_writer.proofs.scenario.limits_line.Goals as goal

pub returns : goal.returns
returns c =
    put _ _ _ _ (put _ _ _ _ (put _ _ _ _ (put _ _ _ _ c.new-line.ensures c.named.ensures.text) c.further.ensures.text) c.further-2.ensures.text) c.text.ensures.text
    ∙ three_text (codes "limits") (decimal c.args.scenario.now.task_limit) (decimal c.args.scenario.now.cookie_limit) (decimal c.args.scenario.now.user_top)
