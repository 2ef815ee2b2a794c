use Rattle.std.proofs.Common.{◌≡◌, sym, ap, ◌∙◌, subst}
use Rattle.cs_types.specs.History.{History}
use Rattle.run_segments.specs.declared.recorder.Recorder.{Recorder}
use Rattle.run_segments.specs.Kept.{IsRecordOf}
use Rattle.run_segments.proofs.Recorded.{kept_drained}
use Rattle.run_segments.proofs.run.recorded_run.Goals as goal
use Rattle.run_segments.proofs.run.recorded_run.Goals.{then-drain-gt0+in_ok-moment, else-drain-gt0}

pub play-requires-clause-record : goal.play-requires-clause-record
play-requires-clause-record g c =
    let opening = g.R.Room.opening c.args.room.now in
    subst (λ (history : History). IsRecordOf opening history c.in_ok-recorder.recorder.segments c.in_ok-recorder.recorder.queued) (sym c.requires.empty)
    (c.in_ok-recorder.ensures opening (sym c.siblings.ensures.siblings))

pub close-requires : goal.close-requires
close-requires g c =
    let segments_of = λ (recorder : Recorder). recorder.segments in
    let still : c.if-drain-gt0.recorder.segments ≡ c.play.new.recorder.segments =
    elim c.if-drain-gt0.branch [
      | then-drain-gt0+in_ok-moment w ↦ ap segments_of w.recorder-is ∙ w.moment.ensures.segments
      | else-drain-gt0 w ↦ ap segments_of w.recorder-is
    ] in
    kept_drained (g.R.Room.opening c.play.new.room) _ (g.R.Room.history c.play.new.room) _ c.play.new.recorder.segments c.if-drain-gt0.recorder.segments
    c.drain.ensures.opening c.drain.ensures.entries still c.in_ok-play.ensures.record.segments
