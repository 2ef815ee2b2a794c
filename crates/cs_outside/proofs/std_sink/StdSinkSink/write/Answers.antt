use Rattle.std.proofs.Common.{◌≡◌, ℕ, List, [], ◌++◌, length, refl, ap, sym, ◌∙◌, le_of_eq, arith}
use Rattle.std.proofs.lemmas.Result.{IfOk-from_err, MatchResult-from_err, on_ok_weaker, on_err_weaker}
use Rattle.std.proofs.Math.Seq.{drop-length}
use Rattle.cs_outside.specs.Device.{raised}
use Rattle.cs_outside.specs.Stream.{OutputState}
use Rattle.cs_outside.proofs.Gathers.{output_state}
use Rattle.cs_outside.proofs.std_sink.StdSinkSink.write.Goals.{then-spare-piece+in_ok-flush, else-spare-piece}
use Rattle.cs_outside.proofs.std_sink.StdSinkSink.write.Goals as goal

pub put-requires : goal.put-requires
put-requires c =
    let gathered = ap (λ (sink : OutputState). length sink.gathered) c.self-2.view_is in
    let spare = c.spare.ensures in
    let was = ap (λ (sink : OutputState). length sink.gathered) c.self.view_is in
    elim c.if-spare-piece.branch [
      | then-spare-piece+in_ok-flush w ↦
          let none = ap (λ (sink : OutputState). length sink.gathered) (w.self-is ∙ w.in_ok-flush.ensures.ok) in
          omega (arith, gathered, none, c.if-piece-le-BUFFER_BYTES.true)
      | else-spare-piece w ↦
          let same = ap (λ (sink : OutputState). length sink.gathered) w.self-is in
          omega (arith, gathered, same, was, spare, w.if-spare-piece.false)
    ]

pub returns-then-piece-le-BUFFER_BYTES : goal.returns-then-piece-le-BUFFER_BYTES
returns-then-piece-le-BUFFER_BYTES c =
    let old = c.args.self.now in
    let piece = c.args.piece.now in
    let was = ap (λ (sink : OutputState). length sink.gathered) c.self.view_is in
    let spare = c.spare.ensures in
    let faults : c.self-2.inside.faults ≡ old.faults =
    ap (λ (sink : OutputState). sink.faults) c.self-2.view_is
    ∙ elim c.if-spare-piece.branch [
      | then-spare-piece+in_ok-flush w ↦ ap (λ (sink : OutputState). sink.faults) (w.self-is ∙ w.in_ok-flush.ensures.ok)
      | else-spare-piece w ↦ ap (λ (sink : OutputState). sink.faults) w.self-is
    ]
    in
    let gathered : c.self-2.inside.gathered ≡ c.if-spare-piece.self.gathered = ap (λ (sink : OutputState). sink.gathered) c.self-2.view_is in
    record {
      some = c.requires;
      within = omega arith;
      faultless = faults;
      failed = tt;
      counted = omega (arith, faults);
      fits = λ fits. (
        refl,
        output_state _ _ _ _
            (c.put.ensures
            ∙ ap (λ (bytes : List ℕ). bytes ++ piece) (
            gathered
            ∙ elim c.if-spare-piece.branch [
              | then-spare-piece+in_ok-flush w ↦ absurd (omega (arith, fits, was, spare, w.if-spare-piece.true))
              | else-spare-piece w ↦ ap (λ (sink : OutputState). sink.gathered) w.self-is
            ]
            ))
            faults,
      );
      whole = λ _. refl;
      emptied = λ more _.
          output_state _ _ _ _
          (c.put.ensures
          ∙ ap (λ (bytes : List ℕ). bytes ++ piece) (
          gathered
          ∙ elim c.if-spare-piece.branch [
            | then-spare-piece+in_ok-flush w ↦ ap (λ (sink : OutputState). sink.gathered) (w.self-is ∙ w.in_ok-flush.ensures.ok)
            | else-spare-piece w ↦ absurd (omega (arith, more, was, spare, w.if-spare-piece.false))
          ]
          ))
          faults;
      long = λ more. absurd (omega (arith, more, c.if-piece-le-BUFFER_BYTES.true));
      kept = tt;
      err = tt;
    }

pub returns-in_err-flush : goal.returns-in_err-flush
returns-in_err-flush c =
    let result = c.from_residual.result in
    let err = c.from_residual.ensures.0 in
    let was = ap (λ (sink : OutputState). length sink.gathered) c.self.view_is in
    let flushed = c.in_err-flush.ensures in
    record {
      some = IfOk-from_err result _ err;
      within = IfOk-from_err result _ err;
      faultless = IfOk-from_err result _ err;
      failed = MatchResult-from_err result _ _ err (λ _. flushed.failed);
      counted = flushed.counted;
      fits = λ fits. absurd (omega (arith, fits, was, c.spare.ensures, c.if-spare-piece.true));
      whole = λ _. IfOk-from_err result _ err;
      emptied = λ _ _. IfOk-from_err result _ err;
      long = λ _. IfOk-from_err result _ err;
      kept = MatchResult-from_err result _ _ err (λ _. flushed.kept);
      err = MatchResult-from_err result _ _ err (λ _. flushed.err);
    }

pub returns : goal.returns
returns c =
    let old = c.args.self.now in
    let answer = c.write_some-answer.result in
    let same = c.counted.ensures.same in
    let more = c.if-piece-le-BUFFER_BYTES.false in
    let now =
    c.self-2.view_is
    ∙ elim c.if-spare-piece.branch [
      | then-spare-piece+in_ok-flush w ↦ w.self-is ∙ w.in_ok-flush.ensures.ok
      | else-spare-piece w ↦ absurd (omega (arith, more, c.spare.ensures, w.if-spare-piece.false))
    ]
    in
    let faults : c.self-2.inside.faults ≡ old.faults = ap (λ (sink : OutputState). sink.faults) now in
    let gathered : c.self-2.inside.gathered ≡ [] = ap (λ (sink : OutputState). sink.gathered) now in
    record {
      some = rw same c.write_some-answer.ensures.some;
      within = rw same c.write_some-answer.ensures.within;
      faultless = rw same (on_ok_weaker answer (λ count. count ∙ faults) c.counted.ensures.ok);
      failed = rw same (on_err_weaker answer (λ count. le_of_eq (sym (count ∙ ap raised faults))) c.counted.ensures.err);
      counted = omega (arith, c.counted.ensures.counted, faults);
      fits = λ fits. absurd (omega (arith, fits, more));
      whole = λ fits. absurd (omega (arith, fits, more));
      emptied = λ _ fits. absurd (omega (arith, fits, more));
      long = λ _. rw same (on_ok_weaker answer (λ count. output_state _ _ _ _ gathered (count ∙ faults)) c.counted.ensures.ok);
      kept = rw same (on_err_weaker answer (λ _. (length old.gathered, gathered ∙ sym (drop-length old.gathered))) c.counted.ensures.err);
      err = rw same (on_err_weaker answer (λ count. count ∙ ap raised faults) c.counted.ensures.err);
    }
