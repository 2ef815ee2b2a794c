use Rattle.std.proofs.Common.{◌∙◌, drop}
use Rattle.std.specs.Prelude.{decimal}
use Rattle.scenario_text.specs.Words.{creds_words}
use Rattle.scenario_text.proofs.Joined.{put}
use Rattle.scenario_writer.proofs.Joined.{user_text}
use Rattle.scenario_writer.proofs.scenario.user_line.Goals as goal

pub returns : goal.returns
returns c =
    let user = c.args.user.now in
    put _ _ _ _ (put _ _ _ _ (put _ _ _ _ (put _ _ _ _ c.new-line.ensures c.named.ensures.text) c.text.ensures.text) c.creds.ensures.text) c.text-2.ensures.text
    ∙ user_text (decimal c.args.number) (decimal user.ruid) (drop 1 (creds_words user))
