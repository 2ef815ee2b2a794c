use Rattle.std.proofs.Common.{ℕ, List, take, ◌++◌, length, refl, sym, ap, ◌∙◌, arith}
use Rattle.std.proofs.lemmas.List.{length-append}
use Rattle.std.proofs.lemmas.Bool.{not-false, not-true}
use Rattle.trace_check.specs.Lines.{lines_of}
use Rattle.trace_check.proofs.Texts.{share_next, differ_empty, differ_line, bytes_equal, bytes_differ, is_nothing, is_some}
use Rattle.trace_check.proofs.lines.behind_common.Goals as goal
use Rattle.trace_check.proofs.lines.behind_common.Goals.{then-is_empty-via-then-is_empty, then-is_empty-via-else-is_empty+then-ne}

pub loop-line-init : goal.loop-line-init
loop-line-init c = record { bytes = omega arith; count = omega arith; one = refl; other = refl }

pub returns-then-is_empty-clause-differ : goal.returns-then-is_empty-clause-differ
returns-then-is_empty-clause-differ c same =
    elim c.then-is_empty.branch [
      | then-is_empty-via-then-is_empty w ↦
          differ_empty _ _ (c.first_line.ensures.none (is_nothing _ (sym c.is_empty.ensures ∙ w.if-is_empty.true))) same
      | then-is_empty-via-else-is_empty+then-ne w ↦
          differ_line _ _ _ _ _ _ (c.first_line.ensures.some (is_some _ (sym c.is_empty.ensures ∙ w.if-is_empty.false)))
          c.first_line-in-loop-line.ensures.none c.first_line-in-loop-line.ensures.some
          (bytes_differ _ _ (not-true _ (sym w.ne.ensures ∙ w.if-ne.true))) same
    ]

pub loop-line-smaller : goal.loop-line-smaller
loop-line-smaller c =
    let some = is_some _ (sym c.is_empty.ensures ∙ c.if-is_empty.false) in
    let all = ap length c.first_line.ensures.cut ∙ length-append c.first_line.result.0.now c.first_line.result.1.now in
    omega (arith, some, all)

pub loop-line-preserved : goal.loop-line-preserved
loop-line-preserved c =
    let some = is_some _ (sym c.is_empty.ensures ∙ c.if-is_empty.false) in
    let all = ap length c.first_line.ensures.cut ∙ length-append c.first_line.result.0.now c.first_line.result.1.now in
    let before = c.loop-line.invariant in
    let equal = bytes_equal _ _ (not-false _ (sym c.ne.ensures ∙ c.if-ne.false)) in
    let also = ap length equal in
    let first = c.first_line.ensures.some some in
    let second = c.first_line-in-loop-line.ensures.some (omega (arith, some, also)) in
    let next =
    share_next _ _ _ _ _ _ _ before.count (before.one ∙ ap (λ (ls : List (List ℕ)). take c.loop-line.count (lines_of c.args.one.now) ++ ls) first)
    (before.other ∙ ap (λ (ls : List (List ℕ)). take c.loop-line.count (lines_of c.args.one.now) ++ ls) second) equal in
    record {
      bytes = let held = before.bytes in omega (arith, held, some, all);
      count = next.2;
      one = next.0;
      other = next.1;
    }
