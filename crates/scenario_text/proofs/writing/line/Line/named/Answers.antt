use Rattle.std.proofs.Common.{◌∙◌}
use Rattle.scenario_text.proofs.Joined.{put, two_words}
use Rattle.scenario_text.proofs.writing.line.Line.named.Goals as goal

pub returns-clause-text : goal.returns-clause-text
returns-clause-text g c =
    put _ _ _ _ (put _ _ _ _ c.text.ensures.text c.text-2.ensures.text) c.number.ensures.text ∙ two_words _ _ _
