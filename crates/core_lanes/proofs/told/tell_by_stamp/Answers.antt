use Rattle.std.proofs.Common.{ℕ, map, sym, ap, ◌∙◌, rules, arith}
use Rattle.std.proofs.lemmas.List.{take_all}
use Rattle.std.proofs.lemmas.List.Sorted.{answers_always}
use Rattle.core_lanes.proofs.told.tell_by_stamp.Goals as goal

pub returns : goal.returns
returns c =
    let sorted = c.sort_unstable_by_key.new.self in
    let place = c.loop-place.place in
    record {
      told = record {
        movers = sorted;
        same = search rules;
        rising = c.sort_unstable_by_key.ensures.sorted (λ mover. mover.0) (answers_always _ _ _ (λ f a r q called. search rules));
        are = sym (take_all place c.loop-place.movers (omega (arith, c.loop-place-test.false)))
            ∙ c.loop-place.invariant.told
            ∙ ap (map (λ (mover : ℕ × ℕ). mover.1)) (take_all place sorted (omega (arith, c.loop-place-test.false, c.requires.each)));
      };
    }
