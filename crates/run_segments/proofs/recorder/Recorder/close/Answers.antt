use Rattle.std.proofs.Common.{List, sym, ◌∙◌, subst}
use Rattle.cs_types.specs.History.{fold_of}
use Rattle.run_segments.specs.declared.segments.Segment.{Segment}
use Rattle.run_segments.specs.Segments.{IsGapless, segments_on}
use Rattle.run_segments.proofs.Recorded.{all_kept, gapless_of}
use Rattle.run_segments.proofs.recorder.Recorder.close.Goals as goal

pub returns-clause-segments : goal.returns-clause-segments
returns-clause-segments g c =
    c.all.ensures
    ∙ (all_kept (g.R.Room.opening c.args.room.now) (g.R.Room.history c.args.room.now) c.clock.result c.args.self.segments c.clock.ensures c.clock.type_inv c.requires).segments

pub returns-clause-gapless : goal.returns-clause-gapless
returns-clause-gapless g c = λ cpu below.
    let opening = g.R.Room.opening c.args.room.now in
    let history = g.R.Room.history c.args.room.now in
    let are = all_kept opening history c.clock.result c.args.self.segments c.clock.ensures c.clock.type_inv c.requires in
    subst (λ (run : List Segment). IsGapless 0 (segments_on cpu run) (fold_of opening history).clock) (sym (c.all.ensures ∙ are.segments))
    (gapless_of opening history c.args.self.segments cpu below are)
