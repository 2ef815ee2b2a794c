use Rattle.std.proofs.Common.{◌+◌, ℕ, List, length, sym, ap, ◌∙◌, subst, arith}
use Rattle.std.proofs.lemmas.Result.{IfOk-weaker}
use Rattle.cs_types.specs.declared.event.Step.{Step}
use Rattle.cs_types.specs.Room.{Opening}
use Rattle.cs_types.specs.Opened.{opened}
use Rattle.std.specs.Option.{option_map}
use Rattle.trace_check.specs.declared.verdict.Verdict.TheVariants.{No}
use Rattle.trace_check.specs.Lines.{without_feed, told, if_any}
use Rattle.trace_check.specs.Verdicts.{IsVerdict}
use Rattle.trace_check.proofs.Counted.{entries_few}
use Rattle.trace_check.proofs.Refuted.{refuted}
use Rattle.trace_check.proofs.Ended.{made_length, followed_of, wrong_of, exact}
use Rattle.trace_check.proofs.judging.judge.Goals as goal

pub overflow_add-first : goal.overflow_add-first
overflow_add-first g c =
    let followed = c.in-Ok.ensures.ok in
    let made = made_length _ _ _ _ followed in
    let few = entries_few _ _ _ followed.are.lines in
    let steps = ap (λ (o : Opening). length o.scenario.steps) c.in_ok-room.ensures.opening in
    let items = ap (λ (s : List Step). length s) c.items-steps.ensures in
    let lines = c.requires.lines in
    omega (arith, made, few, steps, items, lines)

pub judge_end-requires-clause-lines : goal.judge_end-requires-clause-lines
judge_end-requires-clause-lines g c =
    let followed = c.in-Ok.ensures.ok in
    let made = made_length _ _ _ _ followed in
    let few = entries_few _ _ _ followed.are.lines in
    let steps = ap (λ (o : Opening). length o.scenario.steps) c.in_ok-room.ensures.opening in
    let items = ap (λ (s : List Step). length s) c.items-steps.ensures in
    let lines = c.requires.lines in
    omega (arith, made, few, steps, items, lines)

pub overflow_add-first-in-Err : goal.overflow_add-first-in-Err
overflow_add-first-in-Err g c =
    let wrong = c.in-Err.ensures.err in
    let few = entries_few _ _ _ wrong.are.lines in
    let count = wrong.count in
    let lines = c.requires.lines in
    omega (arith, few, count, lines)

pub returns-in-Ok-clause-verdict : goal.returns-in-Ok-clause-verdict
returns-in-Ok-clause-verdict g c =
    let followed = c.in-Ok.ensures.ok in
    let made = made_length _ _ _ _ followed in
    let steps = ap (λ (o : Opening). length o.scenario.steps) c.in_ok-room.ensures.opening in
    let items = ap (λ (s : List Step). length s) c.items-steps.ensures in
    let same = c.in-Ok.ensures.opening in
    IfOk-weaker c.judge_end.result _ _ (λ verdict is.
    subst (λ (o : Opening). IsVerdict o c.args.first c.args.text.now verdict) (same ∙ c.in_ok-room.ensures.opening)
    (is c.args.first c.args.text.now (followed_of _ _ _ _ _ (sym same) followed) (omega (arith, made, steps, items)))) c.judge_end.ensures.verdict

pub returns-in-Ok-clause-exact : goal.returns-in-Ok-clause-exact
returns-in-Ok-clause-exact g c =
    IfOk-weaker c.judge_end.result _ _ (exact _ _ _) (returns-in-Ok-clause-verdict g c)

pub returns-in-Err-clause-verdict : goal.returns-in-Err-clause-verdict
returns-in-Err-clause-verdict g c =
    let opening = opened c.args.scenario.now (g.B.Bench.guards c.args.guards) in
    let wrong = c.in-Err.field-0 in
    IfOk-weaker c.no.result _ _ (λ verdict is.
    subst (IsVerdict opening c.args.first c.args.text.now) (sym (is
    ∙ ap (λ (w : List ℕ). No (c.args.first + wrong.place) (option_map without_feed (if_any w)) (option_map told (if_any wrong.line.now))) c.as_bytes.ensures))
    (refuted opening c.args.first c.args.text.now wrong c.wanted-want.result c.requires.start.playable
    (wrong_of _ opening _ _ c.in_ok-room.ensures.opening c.in-Err.ensures.err) c.wanted-want.ensures)) c.no.ensures

pub returns-in-Err-clause-exact : goal.returns-in-Err-clause-exact
returns-in-Err-clause-exact g c = IfOk-weaker c.no.result _ _ (exact _ _ _) (returns-in-Err-clause-verdict g c)
