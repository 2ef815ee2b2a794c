use Rattle.std.proofs.Common.{◌∙◌, ap}
use Rattle.scenario_text.specs.Words.{answer_word}
use Rattle.scenario_text.proofs.Joined.{put}
use Rattle.segment_text.specs.Table.{number_cell}
use Rattle.segment_text.proofs.Pieces.{put_told, row_pieces}
use Rattle.segment_text.proofs.table.row_of.Goals as goal

pub returns : goal.returns
returns c =
    put _ _ _ _ (put_told _ _ _ _ _ (put _ _ _ _ (put_told _ _ _ _ _ (put _ _ _ _ (put_told _ _ _ _ _ (put _ _ _ _ (put _ _ _ _ (put _ _ _ _ (put_told _ _ _ _ _ (put _ _ _ _ (put_told _ _ _ _ _ (put _ _ _ _ (put _ _ _ _ (put _ _ _ _ (put _ _ _ _ (put _ _ _ _ (put _ _ _ _ (c.new-line.ensures) c.number.ensures.text) c.text.ensures.text) c.number-2.ensures.text) c.text-2.ensures.text) c.number-3.ensures.text) c.text-3.ensures.text) c.state_word.ensures.word c.text-4.ensures.text) c.text-5.ensures.text) (ap number_cell c.cookie_of.ensures) c.put_number.ensures.text) c.text-6.ensures.text) c.put_answer.ensures.text) c.text-7.ensures.text) (ap answer_word c.is_forced.ensures) c.put_answer-2.ensures.text) c.text-8.ensures.text) (ap number_cell c.pid_of.ensures) c.put_number-2.ensures.text) c.text-9.ensures.text) (ap number_cell c.group_of.ensures) c.put_number-3.ensures.text) c.text-10.ensures.text
    ∙ row_pieces _ _ _ _ _ _ _ _ _
