use Rattle.std.proofs.Common.{drop, [], ◌∷◌}
use Rattle.std.specs.Prelude.{codes, decimal}
use Rattle.times_report.specs.TaskLines.{doing_words}
use Rattle.scenario_text.proofs.Joined.{put}
use Rattle.times_report.proofs.Pieces.{put_words}
use Rattle.times_report.proofs.task_lines.cookie_line.Goals as goal

pub returns : goal.returns
returns c =
    let times = c.args.times.now in
    let name = codes "cookie" in
    let doing = decimal c.args.cookie ∷ doing_words times.by_doing in
    let charged = decimal times.charged ∷ [] in
    let timed = put_words _ _ name (decimal c.args.cookie ∷ []) (codes "ran") (drop 1 (doing_words times.by_doing)) (put _ _ _ _ c.new-line.ensures c.named.ensures.text) c.put_times.ensures.text in
    let with_charge = put_words _ _ name doing (codes "charged") charged timed c.named-2.ensures.text in
    put _ _ _ _ with_charge c.text.ensures.text
