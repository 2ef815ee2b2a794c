use Rattle.std.proofs.Common.{ℕ, refl, sym, ap, ◌∙◌, subst, arith}
use Rattle.cs_types.specs.Room.{Opening}
use Rattle.room_report.specs.Report.{output_from}
use Rattle.trace_check.specs.Verdicts.{IsVerdict}
use Rattle.std.proofs.lemmas.Result.{IfOk-weaker}
use Rattle.trace_check.proofs.Texts.{is_nothing, not_nothing}
use Rattle.trace_check.proofs.Counted.{common_few}
use Rattle.trace_check.proofs.Ended.{printed, differs}
use Rattle.trace_check.proofs.Followed.{line_here}
use Rattle.trace_check.proofs.judging.judge_end.Goals as goal
use Rattle.trace_check.proofs.judging.judge_end.Goals.{else-is_empty-via-then-is_empty+else-is_empty-2, else-is_empty-via-else-is_empty}

pub returns-then-is_empty-2 : goal.returns-then-is_empty-2
returns-then-is_empty-2 g c =
    record {
      verdict = λ before whole followed first.
          printed (g.R.Room.opening c.args.room) (g.R.Room.history c.args.room) (g.R.Room.history c.drain.new.self) whole c.args.text.now c.deref.result.now
          c.behind_common-count.result.1.now c.behind_common-count.result.2.now c.behind_common-count.result.0 c.requires.playable followed c.drain.ensures.entries
          (c.deref.ensures.value ∙ c.in_ok-end.ensures
          ∙ ap (λ (o : Opening). output_from o c.length-from.result (g.R.Room.history c.drain.new.self)) c.drain.ensures.opening
          ∙ ap (λ (n : ℕ). output_from (g.R.Room.opening c.args.room) n (g.R.Room.history c.drain.new.self)) c.length-from.ensures.length)
          c.behind_common-count.ensures.one c.behind_common-count.ensures.other
          (is_nothing _ (sym c.is_empty.ensures ∙ c.if-is_empty.true)) (is_nothing _ (sym c.is_empty-then-is_empty.ensures ∙ c.if-is_empty-2.true));
    }

pub overflow_cast-count : goal.overflow_cast-count
overflow_cast-count g c =
    let few = common_few c.args.text.now c.behind_common-count.result.0 _ _ c.behind_common-count.ensures.count c.behind_common-count.ensures.other in
    let lines = c.requires.lines in
    omega (arith, few, lines)

pub overflow_add-first : goal.overflow_add-first
overflow_add-first g c =
    let few = common_few c.args.text.now c.behind_common-count.result.0 _ _ c.behind_common-count.ensures.count c.behind_common-count.ensures.other in
    let lines = c.requires.lines in
    omega (arith, few, lines)

pub returns : goal.returns
returns g c =
    record {
      verdict =
          IfOk-weaker c.no.result _ _ (λ verdict is before whole followed first.
          subst (IsVerdict (g.R.Room.opening c.args.room) before whole) (sym is)
          (differs (g.R.Room.opening c.args.room) before _ (g.R.Room.history c.args.room) (g.R.Room.history c.drain.new.self) whole c.args.text.now c.deref.result.now
          c.behind_common-count.result.1.now c.behind_common-count.result.2.now c.first_line.result.0.now c.first_line-2.result.0.now c.args.first
          c.behind_common-count.result.0 c.requires.playable followed c.drain.ensures.entries
          (c.deref.ensures.value ∙ c.in_ok-end.ensures
          ∙ ap (λ (o : Opening). output_from o c.length-from.result (g.R.Room.history c.drain.new.self)) c.drain.ensures.opening
          ∙ ap (λ (n : ℕ). output_from (g.R.Room.opening c.args.room) n (g.R.Room.history c.drain.new.self)) c.length-from.ensures.length)
          c.behind_common-count.ensures.count c.behind_common-count.ensures.one c.behind_common-count.ensures.other c.behind_common-count.ensures.differ
          (λ both. elim c.else-is_empty.branch [
            | else-is_empty-via-then-is_empty+else-is_empty-2 w ↦ not_nothing _ (sym w.is_empty-then-is_empty.ensures ∙ w.if-is_empty-2.false) both.1
            | else-is_empty-via-else-is_empty w ↦ not_nothing _ (sym c.is_empty.ensures ∙ w.if-is_empty.false) both.0
          ])
          (line_here _ _ _ c.first_line.ensures.some c.first_line.ensures.none)
          (line_here _ _ _ c.first_line-2.ensures.some c.first_line-2.ensures.none)
          first refl)) c.no.ensures;
    }
