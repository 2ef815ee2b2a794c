use Rattle.std.proofs.Common.{◌∙◌, ap, take, arith, length-drop, slice_range, length}
use Rattle.cs_outside.specs.Device.{appended}
use Rattle.cs_outside.proofs.Written.{appended_rest}
use Rattle.cs_outside.proofs.sink.write_all.Goals as goal

pub loop-given-preserved : goal.loop-given-preserved
loop-given-preserved g c =
    let text = c.args.piece.now in
    let given = c.loop-given.given in
    let more = c.in_ok-given.field-0 in
    record {
      within = omega (arith, c.in_ok-given.ensures.within, length-drop given text);
      written =
          c.in_ok-given.ensures.appended
          ∙ ap (λ before. appended before (take more (slice_range text given (length text)))) c.loop-given.invariant.written
          ∙ appended_rest (g.K.Sink.written c.args.sink.now) text given more;
      faultless = c.in_ok-given.ensures.faultless ∙ c.loop-given.invariant.faultless;
    }
