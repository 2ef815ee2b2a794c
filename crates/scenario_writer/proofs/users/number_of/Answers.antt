use Rattle.std.proofs.Common.{◌≡◌, ◌+◌, ◌≤◌, false, List, length, take_all, sym, ap, subst, ◌∙◌, refl, arith}
use Rattle.std.specs.List.{list_any}
use Rattle.std.proofs.lemmas.Bool.{not-true, not-false}
use Rattle.cs_types.specs.declared.task.TaskSpec.{TaskSpec}
use Rattle.cs_types.specs.Scenario.{is_user}
use Rattle.scenario_writer.proofs.Counted.{creds_of, counted_none, counted_all, count_new, count_old, new_more, number_found, number_past}
use Rattle.scenario_writer.proofs.users.number_of.Goals as goal
use Rattle.scenario_writer.proofs.users.number_of.Goals.{then-are_new, else-are_new}

pub loop-place-init : goal.loop-place-init
loop-place-init c = record { numbered = sym (counted_none c.args.tasks.now); small = omega arith; new = refl }

pub returns-then-are_same : goal.returns-then-are_same
returns-then-are_same c =
    let so_far = c.loop-place.invariant in
    so_far.numbered ∙ sym (number_found c.args.tasks.now c.loop-place.place _ c.loop-place-test.true c.args.creds.now (sym c.if-are_same.ensures) so_far.new)

pub loop-place-preserved : goal.loop-place-preserved
loop-place-preserved c =
    let tasks = c.args.tasks.now in
    let so_far = c.loop-place.invariant in
    let new = new_more tasks c.loop-place.place _ c.loop-place-test.true c.args.creds.now (sym c.if-are_same.ensures) so_far.new in
    elim c.if-are_new.branch [
      | then-are_new w ↦
          record {
            numbered = w.before-is ∙ ap (λ n. n + 1) so_far.numbered ∙ sym (count_new tasks c.loop-place.place _ c.loop-place-test.true (not-true _ (sym w.if-are_new.ensures)));
            small = omega arith;
            new = new;
          }
      | else-are_new w ↦
          record {
            numbered = w.before-is ∙ so_far.numbered ∙ sym (count_old tasks c.loop-place.place _ c.loop-place-test.true (not-false _ (sym w.if-are_new.ensures)));
            small = omega arith;
            new = new;
          }
    ]

pub returns : goal.returns
returns c =
    let tasks = c.args.tasks.now in
    let creds = c.args.creds.now in
    let so_far = c.loop-place.invariant in
    let past : length tasks ≤ c.loop-place.place = omega (arith, c.loop-place-test.false) in
    let new = subst (λ (ts : List TaskSpec). list_any (is_user creds) (creds_of ts) ≡ false) (take_all c.loop-place.place tasks past) so_far.new in
    so_far.numbered ∙ counted_all tasks c.loop-place.place past ∙ sym (number_past tasks creds new)
