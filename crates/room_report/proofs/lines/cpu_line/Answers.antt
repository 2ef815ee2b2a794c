use Rattle.std.proofs.Common.{◌∙◌, ap, List, ℕ, ◌++◌}
use Rattle.scenario_text.proofs.Joined.{put}
use Rattle.room_report.proofs.Pieces.{cpu_text}
use Rattle.room_report.proofs.lines.cpu_line.Goals as goal

pub returns : goal.returns
returns c =
    put _ _ _ _ (put _ _ _ _ (put _ _ _ _ (put _ _ _ _ (put _ _ _ _ (put _ _ _ _ (put _ _ _ _ (put _ _ _ _ (put _ _ _ _ c.new-line.ensures c.text.ensures.text) c.number.ensures.text) c.text-2.ensures.text) (c.text-3.ensures.text ∙ ap (λ (bytes : List ℕ). c.text-2.new.self ++ bytes) c.online_text.ensures)) c.text-4.ensures.text) c.run.ensures.text) c.text-5.ensures.text) c.number-2.ensures.text) c.text-6.ensures.text
    ∙ cpu_text _ _ _ _
