use Rattle.std.proofs.Common.{◌≡◌, List, ℕ, length, sym, ap, ◌∙◌, arith}
use Rattle.std.proofs.lemmas.List.{length-append}
use Rattle.trace_check.specs.Lines.{lines_of}
use Rattle.trace_check.proofs.Texts.{is_nothing, is_some}
use Rattle.trace_check.proofs.parts.line_count.Goals as goal

pub returns-then-is_empty : goal.returns-then-is_empty
unfolding lines_of
returns-then-is_empty c =
    let over = c.first_line.ensures.none (is_nothing _ (sym c.is_empty.ensures ∙ c.if-is_empty.true)) in
    let none : length (lines_of c.loop-more.rest.now) ≡ 0 = ap (λ (text : List ℕ). length (lines_of text)) over in
    let lines = c.loop-more.invariant.lines in
    omega (arith, none, lines)

pub loop-more-preserved : goal.loop-more-preserved
loop-more-preserved c =
    let some = is_some _ (sym c.is_empty.ensures ∙ c.if-is_empty.false) in
    let all = ap length c.first_line.ensures.cut ∙ length-append c.first_line.result.0.now c.first_line.result.1.now in
    let next = ap length (c.first_line.ensures.some some) in
    let bytes = c.loop-more.invariant.bytes in
    let lines = c.loop-more.invariant.lines in
    record { bytes = omega (arith, some, all, bytes); lines = omega (arith, next, lines) }
