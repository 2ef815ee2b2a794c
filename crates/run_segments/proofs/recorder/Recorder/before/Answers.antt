use Rattle.std.proofs.Common.{[], ◌∷◌, ◌++◌, sym, ap, ◌∙◌}
use Rattle.std.proofs.lemmas.Result.{on_ok_weaker}
use Rattle.cs_types.specs.History.{fold_of}
use Rattle.run_times.specs.Times.{advance_of}
use Rattle.run_segments.proofs.Recorded.{kept_still}
use Rattle.run_segments.proofs.recorder.Recorder.before.Goals as goal

pub returns-in-None : goal.returns-in-None
returns-in-None g c =
    let opening = g.R.Room.opening c.args.room.now in
    let history = g.R.Room.history c.args.room.now in
    on_ok_weaker c.moment.result
    (λ told entry same. kept_still opening history entry _ _ _ _ (ap advance_of same ∙ sym c.in-None.ensures) c.moment.ensures.segments
    (told opening.scenario.siblings (fold_of opening history) (fold_of opening (history ++ entry ∷ [])) c.requires.record.marks) c.requires.record)
    c.moment.ensures.marks
