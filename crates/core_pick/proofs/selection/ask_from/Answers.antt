use Rattle.std.proofs.Common.{◌≡◌, ◌∙◌, ℕ, suc, ◌+◌, ◌-◌, ◌<◌, ◌≤◌, ◌∷◌, [], ◌++◌, List, ap, sym, inl, inr, length, arith, append_assoc}
use Rattle.std.specs.List.{range_with_len}
use Rattle.std.proofs.lemmas.Bool.{cases_lt}
use Rattle.std.proofs.lemmas.List.{append-nil}
use Rattle.cs_types.specs.Selection.{first_on}
use Rattle.core_lanes.specs.Lanes.{Beside, room_of}
use Rattle.core_lanes.proofs.Lists.{range_more}
use Rattle.core_pick.specs.declared.lead.First.{First}
use Rattle.core_pick.specs.Choice.{choice_of, lead_in}
use Rattle.core_pick.proofs.Asked.{one_more}
use Rattle.core_pick.proofs.Noted.{noted_here, noted_still}
use Rattle.core_pick.proofs.selection.ask_from.Goals as goal

-- one sibling more
range_next : (from cpu : ℕ) → from ≤ cpu → range_with_len from (cpu + 1 - from) ≡ range_with_len from (cpu - from) ++ cpu ∷ []
range_next from cpu le =
    let more : cpu + 1 - from ≡ suc (cpu - from) = omega arith in
    let there : from + (cpu - from) ≡ cpu = omega arith in
    ap (range_with_len from) more ∙ range_more from (cpu - from) ∙ ap (λ n. range_with_len from (cpu - from) ++ n ∷ []) there

pub loop-cpu-init : goal.loop-cpu-init
loop-cpu-init g c =
    let none : c.args.from - c.args.from ≡ 0 = omega arith in
    record {
      noted = λ beside cpu there below. absurd (omega (arith, there, below));
      kept = λ beside cpu was. was;
      leads = λ beside order is.
          is ∙ ap (lead_in (room_of beside (c.args.core.now, c.args.table.now))) (sym (append-nil order) ∙ ap (λ n. order ++ range_with_len c.args.from n) (sym none));
      asked = λ longest longer. omega arith;
    }

pub loop-cpu-preserved : goal.loop-cpu-preserved
loop-cpu-preserved g c =
    let at = c.loop-cpu.cpu in
    let from = c.args.from in
    let below : at < length c.args.core.now.lanes.items = omega (arith, c.loop-cpu-test.true, c.requires.part.within) in
    let inside : at < length c.loop-cpu.firsts = omega (arith, below, c.requires.many, c.loop-cpu.auto.firsts) in
    let may = c.requires.part.may at below in
    let first : (beside : Beside) → c.first_at-first.result.choice ≡ choice_of (first_on (room_of beside (c.args.core.now, c.args.table.now)) at) =
    λ beside. ap (λ (first : First). first.choice) (c.first_at-first.ensures.answer beside) in
    record {
      noted = λ beside cpu there next.
          let room = room_of beside (c.args.core.now, c.args.table.now) in
          elim (cases_lt cpu at) [
            | inl before ↦ noted_still room c.loop-cpu.firsts at c.first_at-first.result.choice inside (first beside) cpu (c.loop-cpu.invariant.noted beside cpu there before)
            | inr here ↦ noted_here room c.loop-cpu.firsts at c.first_at-first.result.choice inside (first beside) cpu (omega (arith, next, here))
          ];
      kept = λ beside cpu was.
          noted_still (room_of beside (c.args.core.now, c.args.table.now)) c.loop-cpu.firsts at c.first_at-first.result.choice inside (first beside) cpu (c.loop-cpu.invariant.kept beside cpu was);
      leads = λ beside order is.
          let room = room_of beside (c.args.core.now, c.args.table.now) in
          c.lead_with-lead.ensures c.args.table.now may c.first_at-first.ensures.answer beside (order ++ range_with_len from (at - from)) (c.loop-cpu.invariant.leads beside order is)
          ∙ ap (lead_in room) (append_assoc order (range_with_len from (at - from)) (at ∷ []) ∙ ap (λ (more : List ℕ). order ++ more) (sym (range_next from at c.loop-cpu.auto.cpu)));
      asked = λ longest longer.
          let rises = g.met.Q.SiblingQueue.rises _ _ (longer at below) in
          let next : at + 1 - from ≡ (at - from) + 1 = omega (arith, c.loop-cpu.auto.cpu) in
          rw next (one_more _ _ _ (at - from) _ (c.loop-cpu.invariant.asked longest longer) (omega (arith, c.first_at-first.ensures.counted, rises)));
    }

pub returns-clause-counted : goal.returns-clause-counted
returns-clause-counted g c longest longer = let there : c.args.to ≡ c.loop-cpu.cpu = omega (arith, c.loop-cpu.auto.cpu-end c.requires.part.order) in rw there (c.loop-cpu.invariant.asked longest longer)

pub returns-clause-asks : goal.returns-clause-asks
returns-clause-asks g c =
    let there : c.args.to ≡ c.loop-cpu.cpu = omega (arith, c.loop-cpu.auto.cpu-end c.requires.part.order) in
    record {
      noted = λ beside. rw there (c.loop-cpu.invariant.noted beside);
      kept = c.loop-cpu.invariant.kept;
      lead = λ beside order is. rw there (c.loop-cpu.invariant.leads beside order is);
    }
