use Rattle.std.proofs.Common.{◌≤◌, ℕ, List, length, refl, sym, subst}
use Rattle.scenario_input.specs.Input.{IsReadAs, judged_limit}
use Rattle.scenario_runner.specs.Ends.{Used}
use Rattle.scenario_runner.specs.Written.{IsWritten}
use Rattle.scenario_runner.proofs.Checking.{check_unread, check_unjudged, check_judged, unjudged_fault, unjudged_long}
use Rattle.scenario_runner.proofs.checked.checked.Goals as goal

pub judged-requires-clause-few : goal.judged-requires-clause-few
judged-requires-clause-few g c = subst (λ (bytes : List ℕ). length bytes ≤ judged_limit) (sym c.deref.ensures.value) c.in-Ok.ensures.within

-- Reading stopped.
pub returns-in-Err : goal.returns-in-Err
returns-in-Err g c =
    rw c.from.ensures
    (check_unread _ _ _ _ c.read_to_end.result
    (record {
      faultless = c.read_to_end.ensures.faultless;
      failed = c.read_to_end.ensures.failed;
      few = c.requires.source;
      too_long = c.read_to_end.ensures.too_long;
      most = c.read_to_end.ensures.most;
    })
    c.in-Err.stop c.in-Err.is c.read_to_end.ensures.bad c.read_to_end.ensures.guards refl)

-- The verdict was written, or the sink failed.
pub returns-in-Ok-judged : goal.returns-in-Ok-judged
returns-in-Ok-judged g c =
    let source : Used g.row.S.Denot = record { bytes = g.S.Source.left; faults = g.S.Source.faults; before = c.args.source.now; after = c.read_to_end.new.source } in
    check_judged _ _ source _ c.read_to_end.result
    (record {
      faultless = c.read_to_end.ensures.faultless;
      failed = c.read_to_end.ensures.failed;
      few = c.requires.source;
      too_long = c.read_to_end.ensures.too_long;
      most = c.read_to_end.ensures.most;
    })
    c.in-Ok.input c.deref.result.now c.in-Ok.is
    (subst (λ (bytes : List ℕ). IsReadAs (source.bytes source.before) bytes (source.bytes source.after)) (sym c.deref.ensures.value) c.in-Ok.ensures.whole)
    c.in-Ok-judged.text.items c.write_text.result c.in-Ok-judged.ensures c.requires.sink
    (subst (λ (text : List ℕ). IsWritten (record { bytes = g.K.Sink.written; faults = g.K.Sink.faults; before = c.args.sink.now; after = c.write_text.new.sink }) text c.write_text.result) c.deref-in-Ok-judged.ensures.value c.write_text.ensures)

-- The input was not judged.
pub returns : goal.returns
returns g c =
    let source : Used g.row.S.Denot = record { bytes = g.S.Source.left; faults = g.S.Source.faults; before = c.args.source.now; after = c.read_to_end.new.source } in
    rw c.from-in-Err-judged.ensures
    (check_unjudged _ _ source _ c.read_to_end.result
    (record {
      faultless = c.read_to_end.ensures.faultless;
      failed = c.read_to_end.ensures.failed;
      few = c.requires.source;
      too_long = c.read_to_end.ensures.too_long;
      most = c.read_to_end.ensures.most;
    })
    c.in-Ok.input c.deref.result.now c.in-Ok.is
    (subst (λ (bytes : List ℕ). IsReadAs (source.bytes source.before) bytes (source.bytes source.after)) (sym c.deref.ensures.value) c.in-Ok.ensures.whole)
    c.in-Err-judged.stop c.in-Err-judged.ensures (unjudged_fault _ _ _ c.in-Err-judged.ensures) (unjudged_long _ _ _ c.in-Err-judged.ensures) refl)
