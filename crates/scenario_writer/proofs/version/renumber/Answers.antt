use Rattle.std.proofs.Common.{◌≡◌, ◌+◌, ◌<◌, ◌++◌, ◌∷◌, [], length, length-take-le, take, get_or, sym, ap, ◌∙◌, arith}
use Rattle.std.proofs.lemmas.List.{take_more, take_more_set, drop-set-lt}
use Rattle.cs_types.specs.declared.scenario.Teach.{Teach}
use Rattle.scenario_text.specs.Upgrade.{renumbered}
use Rattle.scenario_writer.proofs.Upgrades.{renumbered_push, same_rest}
use Rattle.scenario_writer.proofs.version.renumber.Goals as goal

-- what stands for a teach that is not there
abbrev no_teach : Teach
no_teach = record { line = 0; guard = 0; from = 0; to = 0 }

pub loop-place-preserved : goal.loop-place-preserved
loop-place-preserved c =
    let old = c.args.teaches.now in
    let now = c.loop-place.teaches in
    let place = c.loop-place.place in
    let first = c.args.first in
    let so_far = c.loop-place.invariant in
    let below : place < length old = c.loop-place-test.true in
    let below' : place < length now = omega arith in
    let same = same_rest now old place no_teach below' below so_far.left in
    let count : length (take place old) ≡ place = length-take-le place old (omega arith) in
    record {
      done =
          take_more_set now place _ below'
          ∙ (λ i. let teach : Teach = record (same.0 i) { line = first + sym count i } in so_far.done i ++ teach ∷ [])
          ∙ sym (renumbered_push first (take place old) (get_or old place no_teach))
          ∙ ap (renumbered first) (sym (take_more old place no_teach below));
      left = drop-set-lt (place + 1) now place _ (omega arith) ∙ same.1;
    }
