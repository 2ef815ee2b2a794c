use Rattle.std.proofs.Common.{◌+◌, sym, ap, ◌∙◌, arith}
use Rattle.std.proofs.lemmas.Bool.{not-true, not-false}
use Rattle.scenario_writer.proofs.Counted.{counted_none, counted_all, count_new, count_old}
use Rattle.scenario_writer.proofs.users.count_of.Goals as goal
use Rattle.scenario_writer.proofs.users.count_of.Goals.{then-are_new, else-are_new}

pub loop-place-init : goal.loop-place-init
loop-place-init c = record { numbered = sym (counted_none c.args.tasks.now); small = omega arith }

pub loop-place-preserved : goal.loop-place-preserved
loop-place-preserved c =
    let tasks = c.args.tasks.now in
    let so_far = c.loop-place.invariant in
    elim c.if-are_new.branch [
      | then-are_new w ↦
          record {
            numbered = w.count-is ∙ ap (λ n. n + 1) so_far.numbered ∙ sym (count_new tasks c.loop-place.place _ c.loop-place-test.true (not-true _ (sym w.if-are_new.ensures)));
            small = omega arith;
          }
      | else-are_new w ↦
          record {
            numbered = w.count-is ∙ so_far.numbered ∙ sym (count_old tasks c.loop-place.place _ c.loop-place-test.true (not-false _ (sym w.if-are_new.ensures)));
            small = omega arith;
          }
    ]

pub returns : goal.returns
returns c = c.loop-place.invariant.numbered ∙ counted_all c.args.tasks.now c.loop-place.place (omega (arith, c.loop-place-test.false))
