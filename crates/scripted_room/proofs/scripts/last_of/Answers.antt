use Rattle.std.proofs.Common.{◌≡◌, ◌∙◌, ◌+◌, ◌-◌, ℕ, [], false, get_or, drop, sym, subst, arith}
use Rattle.std.proofs.lemmas.Option.{slice_get-get_or}
use Rattle.cs_types.specs.Scenario.{is_actor}
use Rattle.sibling_workers.specs.Race.{events_in}
use Rattle.scripted_room.specs.Scripts.{steps_left}
use Rattle.scripted_room.proofs.Steps.{none_from}
use Rattle.scripted_room.proofs.scripts.last_of.Goals as goal

pub loop-end-preserved : goal.loop-end-preserved
loop-end-preserved c =
    let scripts = c.args.scripts.now in
    let end = c.loop-end.end in
    let found = c.index-scripts-end.result in
    let other : is_actor (get_or scripts (end - 1) found).actor c.args.actor ≡ false =
    sym c.is_same.ensures ∙ c.if-is_same.false
    in
    let same : end ≡ end - 1 + 1 = omega (arith, c.loop-end-test.true) in
    record {
      within = omega (arith, c.loop-end.invariant.within);
      later = none_from scripts (end - 1) found c.args.actor (omega (arith, c.loop-end-test.true, c.loop-end.invariant.within)) other
          (subst (λ (n : ℕ). events_in c.args.actor (steps_left (drop n scripts)) ≡ []) same c.loop-end.invariant.later);
    }

pub returns-then-is_same-clause-same : goal.returns-then-is_same-clause-same
returns-then-is_same-clause-same c =
    let scripts = c.args.scripts.now in
    let found = c.index-scripts-end.result in
    rw (slice_get-get_or scripts (c.loop-end.end - 1) found (omega (arith, c.loop-end-test.true, c.loop-end.invariant.within)))
    (sym c.if-is_same.ensures)

pub returns-then-is_same-clause-last : goal.returns-then-is_same-clause-last
returns-then-is_same-clause-last c =
    let same : c.loop-end.end ≡ c.loop-end.end - 1 + 1 = omega (arith, c.loop-end-test.true) in
    subst (λ (n : ℕ). events_in c.args.actor (steps_left (drop n c.args.scripts.now)) ≡ []) same c.loop-end.invariant.later
