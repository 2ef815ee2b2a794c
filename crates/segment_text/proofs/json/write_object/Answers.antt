use Rattle.std.proofs.Common.{◌≡◌, ◌∙◌, ap}
use Rattle.std.proofs.lemmas.Result.{on_ok_weaker}
use Rattle.cs_outside.specs.Device.{appended}
use Rattle.scenario_text.proofs.Joined.{put}
use Rattle.segment_text.specs.Json.{number_or_null, truth_value, object_line}
use Rattle.segment_text.proofs.Pieces.{put_told, front_prefix, both_out, both_prefix}
use Rattle.segment_text.proofs.json.write_object.Goals as goal

pub returns-in_err-write_all-clause-prefix : goal.returns-in_err-write_all-clause-prefix
returns-in_err-write_all-clause-prefix g c =
    front_prefix c.args.segment.now _ _ _
    (c.as_bytes.ensures ∙ put_told _ _ _ _ _ (put _ _ _ _ (put_told _ _ _ _ _ (put _ _ _ _ (put _ _ _ _ (put _ _ _ _ (put _ _ _ _ (put _ _ _ _ (put _ _ _ _ (put _ _ _ _ (c.new-line.ensures) c.text.ensures.text) c.number.ensures.text) c.text-2.ensures.text) c.number-2.ensures.text) c.text-3.ensures.text) c.number-3.ensures.text) c.text-4.ensures.text) c.state_word.ensures.word c.text-5.ensures.text) c.text-6.ensures.text) (ap number_or_null c.cookie_of.ensures) c.put_number.ensures.text)
    c.write_all.ensures.prefix

pub returns-clause-ok : goal.returns-clause-ok
returns-clause-ok g c =
    on_ok_weaker {Q = g.K.Sink.written c.write_all-2.new.sink ≡ appended (g.K.Sink.written c.args.sink.now) (object_line c.args.segment.now)} c.write_all-2.result
    (λ sent. both_out c.args.segment.now _ _ _ _ _
    (c.as_bytes.ensures ∙ put_told _ _ _ _ _ (put _ _ _ _ (put_told _ _ _ _ _ (put _ _ _ _ (put _ _ _ _ (put _ _ _ _ (put _ _ _ _ (put _ _ _ _ (put _ _ _ _ (put _ _ _ _ (c.new-line.ensures) c.text.ensures.text) c.number.ensures.text) c.text-2.ensures.text) c.number-2.ensures.text) c.text-3.ensures.text) c.number-3.ensures.text) c.text-4.ensures.text) c.state_word.ensures.word c.text-5.ensures.text) c.text-6.ensures.text) (ap number_or_null c.cookie_of.ensures) c.put_number.ensures.text)
    c.in_ok-write_all.ensures.ok
    (c.as_bytes-2.ensures ∙ put _ _ _ _ (put_told _ _ _ _ _ (put _ _ _ _ (put_told _ _ _ _ _ (put _ _ _ _ (put_told _ _ _ _ _ (put _ _ _ _ (put _ _ _ _ (put _ _ _ _ (c.clear.ensures) c.text-7.ensures.text) c.put_truth.ensures.text) c.text-8.ensures.text) (ap truth_value c.is_forced.ensures) c.put_truth-2.ensures.text) c.text-9.ensures.text) (ap number_or_null c.pid_of.ensures) c.put_number-2.ensures.text) c.text-10.ensures.text) (ap number_or_null c.group_of.ensures) c.put_number-3.ensures.text) c.text-11.ensures.text)
    sent) c.write_all-2.ensures.ok

pub returns-clause-prefix : goal.returns-clause-prefix
returns-clause-prefix g c =
    both_prefix c.args.segment.now _ _ _ _ _
    (c.as_bytes.ensures ∙ put_told _ _ _ _ _ (put _ _ _ _ (put_told _ _ _ _ _ (put _ _ _ _ (put _ _ _ _ (put _ _ _ _ (put _ _ _ _ (put _ _ _ _ (put _ _ _ _ (put _ _ _ _ (c.new-line.ensures) c.text.ensures.text) c.number.ensures.text) c.text-2.ensures.text) c.number-2.ensures.text) c.text-3.ensures.text) c.number-3.ensures.text) c.text-4.ensures.text) c.state_word.ensures.word c.text-5.ensures.text) c.text-6.ensures.text) (ap number_or_null c.cookie_of.ensures) c.put_number.ensures.text)
    c.in_ok-write_all.ensures.ok
    (c.as_bytes-2.ensures ∙ put _ _ _ _ (put_told _ _ _ _ _ (put _ _ _ _ (put_told _ _ _ _ _ (put _ _ _ _ (put_told _ _ _ _ _ (put _ _ _ _ (put _ _ _ _ (put _ _ _ _ (c.clear.ensures) c.text-7.ensures.text) c.put_truth.ensures.text) c.text-8.ensures.text) (ap truth_value c.is_forced.ensures) c.put_truth-2.ensures.text) c.text-9.ensures.text) (ap number_or_null c.pid_of.ensures) c.put_number-2.ensures.text) c.text-10.ensures.text) (ap number_or_null c.group_of.ensures) c.put_number-3.ensures.text) c.text-11.ensures.text)
    c.write_all-2.ensures.prefix
