use Rattle.std.proofs.Common.{◌+◌, sum_by, take, sym, ap, ◌∙◌, arith, Option}
use Rattle.std.specs.Option.{option_map_or}
use Rattle.std.proofs.lemmas.List.Sums.{sum_by_more}
use Rattle.cs_types.specs.declared.event.Step.{Step}
use Rattle.pair_times.specs.Pairs.{pairs_among, most_rows}
use Rattle.pair_times.proofs.Among.{pairs_among-most}
use Rattle.pair_times.proofs.pairs.rows_for.Goals as goal
use Rattle.pair_times.proofs.pairs.rows_for.Goals.{in-Some, in_default}

pub loop-step-preserved : goal.loop-step-preserved
loop-step-preserved c =
    let f = λ (step : Step). most_rows c.args.siblings step.event in
    let more = sum_by_more f c.args.steps.now c.loop-step.step-index _ c.loop-step-test.true in
    record {
      rows = elim c.match-advance_of.branch [
        | in-Some w ↦ w.rows-is ∙ (λ i. c.loop-step.invariant.rows i + c.pairs_among-pairs.ensures i)
            ∙ ap (λ n. sum_by f (take c.loop-step.step-index c.args.steps.now) + n) (ap (λ (o : Option _). option_map_or (λ _. pairs_among c.args.siblings) o 0) w.in-Some.ensures)
            ∙ sym more
        | in_default w ↦ w.rows-is ∙ omega (arith, c.loop-step.invariant.rows, more, ap (λ (o : Option _). option_map_or (λ _. pairs_among c.args.siblings) o 0) w.in_default.ensures)
      ];
      few = elim c.match-advance_of.branch [
        | in-Some w ↦ omega (arith, w.rows-is, c.loop-step.invariant.few, c.pairs_among-pairs.ensures, pairs_among-most c.args.siblings (omega arith))
        | in_default w ↦ omega (arith, w.rows-is, c.loop-step.invariant.few)
      ];
    }
