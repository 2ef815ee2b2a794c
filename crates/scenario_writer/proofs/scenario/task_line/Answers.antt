use Rattle.std.proofs.Common.{◌∙◌, eqb, drop}
use Rattle.std.specs.Prelude.{decimal}
use Rattle.scenario_text.specs.Words.{policy_word, creds_words}
use Rattle.scenario_text.specs.Text.{number_of, users_in}
use Rattle.scenario_text.proofs.Joined.{put}
use Rattle.scenario_writer.proofs.Joined.{owned_text}
use Rattle.scenario_writer.proofs.scenario.task_line.Goals as goal

pub returns : goal.returns
returns c =
    let task = c.args.task.now in
    put _ _ _ _ (put _ _ _ _ (put _ _ _ _ (put _ _ _ _ (put _ _ _ _ (put _ _ _ _ (put _ _ _ _ (put _ _ _ _ (put _ _ _ _ c.new-line.ensures c.named.ensures.text) c.further.ensures.text) c.further-2.ensures.text) c.further-3.ensures.text) c.text.ensures.text) c.policy.ensures.text) c.text-2.ensures.text) c.owner.ensures.text) c.text-3.ensures.text
    ∙ owned_text (eqb c.args.version 2) (decimal task.pid) (decimal task.tgid) (decimal task.pgid) (decimal task.cpu) (policy_word task.policy) (decimal (number_of (users_in c.args.version c.args.tasks.now) task.creds)) (decimal task.creds.ruid) (drop 1 (creds_words task.creds))
