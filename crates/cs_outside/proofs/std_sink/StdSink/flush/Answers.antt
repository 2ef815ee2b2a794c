use Rattle.std.proofs.Common.{◌≡◌, drop, ap, sym, ◌∙◌, le_of_eq, arith}
use Rattle.std.proofs.lemmas.Result.{on_ok_weaker, on_err_weaker}
use Rattle.cs_outside.specs.Device.{raised}
use Rattle.cs_outside.specs.Stream.{OutputState}
use Rattle.cs_outside.proofs.Gathers.{output_state, on_ok_both}
use Rattle.cs_outside.proofs.std_sink.StdSink.flush.Goals as goal

pub returns : goal.returns
returns c =
    let given = c.empty_to-answer.ensures.given in
    let answer = c.empty_to-answer.result in
    let same = c.counted.ensures.same in
    let faults : c.self.inside.faults ≡ c.args.self.now.faults = ap (λ (sink : OutputState). sink.faults) c.self.view_is in
    record {
      ok = rw same
          (on_ok_weaker answer (λ both. output_state _ _ _ _ both.0 (both.1 ∙ faults)) (on_ok_both _ _ answer c.empty_to-answer.ensures.emptied c.counted.ensures.ok));
      kept = (given.0, given.1 ∙ ap (λ (sink : OutputState). drop given.0 sink.gathered) c.self.view_is);
      left = rw same c.empty_to-answer.ensures.left;
      failed = rw same (on_err_weaker answer (λ count. le_of_eq (sym (count ∙ ap raised faults))) c.counted.ensures.err);
      counted = omega (arith, c.counted.ensures.counted, faults);
      err = rw same (on_err_weaker answer (λ count. count ∙ ap raised faults) c.counted.ensures.err);
    }
