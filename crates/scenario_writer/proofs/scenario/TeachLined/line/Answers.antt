use Rattle.std.proofs.Common.{◌∙◌}
use Rattle.std.specs.Prelude.{codes, decimal}
use Rattle.scenario_text.proofs.Joined.{put}
use Rattle.scenario_writer.proofs.Joined.{three_text}
use Rattle.scenario_writer.proofs.scenario.TeachLined.line.Goals as goal

pub returns : goal.returns
returns c =
    put _ _ _ _ (put _ _ _ _ (put _ _ _ _ (put _ _ _ _ c.new-line.ensures c.named.ensures.text) c.further.ensures.text) c.further-2.ensures.text) c.text.ensures.text
    ∙ three_text (codes "teach") (decimal c.args.self.now.guard) (decimal c.args.self.now.from) (decimal c.args.self.now.to)
