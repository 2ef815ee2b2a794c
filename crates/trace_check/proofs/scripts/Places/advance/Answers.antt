use Rattle.std.proofs.Common.{ℕ, ◌+◌, List, drop, get_or, sym, ap, ◌∙◌, arith}
use Rattle.std.proofs.lemmas.List.{drop_all}
use Rattle.sibling_workers.specs.Race.{events_in}
use Rattle.trace_check.specs.Scripts.{left_to}
use Rattle.trace_check.proofs.Advances.{passed, taken, untouched}
use Rattle.trace_check.proofs.scripts.Places.advance.Goals as goal

pub loop-place-init : goal.loop-place-init
loop-place-init c =
    record {
      kept = c.self.view_is;
      long = c.self.told;
      left =
          ap (λ (n : ℕ). events_in c.args.actor (drop (get_or c.self.inside.next n 0) c.args.steps.now)) c.rank-rank.ensures
          ∙ ap (λ (ns : List ℕ). left_to c.args.steps.now ns c.args.actor) c.self.view_is;
    }

pub returns-then-is_same-clause-next : goal.returns-then-is_same-clause-next
returns-then-is_same-clause-next c =
    let long = c.loop-place.invariant.long in
    let known = c.requires in
    taken c.args.actor c.args.steps.now c.loop-place.self-inside.next c.loop-place.place c.rank-rank.result _ _ c.loop-place-test.true
    c.rank-rank.ensures (omega (arith, long, known)) c.loop-place.invariant.left (sym c.is_same.ensures ∙ c.if-is_same.true)

pub returns-then-is_same-clause-others : goal.returns-then-is_same-clause-others
returns-then-is_same-clause-others c other differs =
    untouched c.args.actor other c.args.steps.now c.loop-place.self-inside.next c.rank-rank.result (c.loop-place.place + 1)
    c.rank-rank.ensures c.requires differs
    ∙ ap (λ (ns : List ℕ). left_to c.args.steps.now ns other) c.loop-place.invariant.kept

pub loop-place-preserved : goal.loop-place-preserved
loop-place-preserved c =
    record {
      kept = c.loop-place.invariant.kept;
      long = c.loop-place.invariant.long;
      left = passed c.args.actor c.args.steps.now c.loop-place.place _ _ c.loop-place-test.true c.loop-place.invariant.left (sym c.is_same.ensures ∙ c.if-is_same.false);
    }

pub returns-clause-next : goal.returns-clause-next
returns-clause-next c =
    sym c.loop-place.invariant.left ∙ ap (events_in c.args.actor) (drop_all c.loop-place.place c.args.steps.now c.loop-place-test.false)

pub returns-clause-others : goal.returns-clause-others
returns-clause-others c other differs = ap (λ (ns : List ℕ). left_to c.args.steps.now ns other) c.loop-place.invariant.kept
