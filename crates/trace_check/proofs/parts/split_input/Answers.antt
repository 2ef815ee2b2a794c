use Rattle.std.proofs.Common.{◌+◌, length, sym, ◌∙◌}
use Rattle.trace_check.proofs.Texts.{is_nothing, is_some}
use Rattle.trace_check.proofs.Splits.{IsWhereCut, nothing_passed, line_passed, cut_at-end, cut_at-nothing, end_long}
use Rattle.trace_check.proofs.parts.split_input.Goals as goal
use Rattle.trace_check.proofs.parts.split_input.Goals.{After-split_at, then-is_empty-via-then-is_empty, then-is_empty-via-else-is_empty+then-eq}

pub loop-line-init : goal.loop-line-init
loop-line-init c = nothing_passed c.args.input.now

pub loop-line-preserved : goal.loop-line-preserved
loop-line-preserved c =
    line_passed _ _ _ _ _ c.loop-line.invariant c.first_line.ensures.cut
    (c.first_line.ensures.some (is_some _ (sym c.is_empty.ensures ∙ c.if-is_empty.false))) (sym c.eq.ensures ∙ c.if-eq.false)

cut : (c : After-split_at) → IsWhereCut c.args.input.now (c.loop-line.count + length c.first_line.result.0.now)
cut c =
    elim c.then-is_empty.branch [
      | then-is_empty-via-then-is_empty w ↦
          let none = is_nothing _ (sym c.is_empty.ensures ∙ w.if-is_empty.true) in
          cut_at-nothing _ _ _ _ _ c.loop-line.invariant c.first_line.ensures.cut none (c.first_line.ensures.none none)
      | then-is_empty-via-else-is_empty+then-eq w ↦
          let ends = sym w.eq.ensures ∙ w.if-eq.true in
          cut_at-end _ _ _ _ _ c.loop-line.invariant c.first_line.ensures.cut (c.first_line.ensures.some (end_long _ ends)) ends
    ]

pub returns-then-is_empty-clause-scenario : goal.returns-then-is_empty-clause-scenario
returns-then-is_empty-clause-scenario c = c.split_at.ensures.front ∙ (cut c).scenario

pub returns-then-is_empty-clause-run : goal.returns-then-is_empty-clause-run
returns-then-is_empty-clause-run c = c.split_at.ensures.back ∙ (cut c).run
