use Rattle.std.proofs.Common.{sym, refl, ap, ◌∙◌, arith}
use Rattle.std.proofs.lemmas.Bool.{lt-ltb}
use Rattle.std.proofs.lemmas.Result.{err_from_is_err_and}
use Rattle.scenario_text.specs.Grammar.{task_form}
use Rattle.scenario_text.specs.Reading.{lent, after, task_value}
use Rattle.scenario_text.proofs.Cuts.{lent-rest}
use Rattle.scenario_text.proofs.TaskLines.{refused, found, owner_read, owner_is, owner_refused, task_shape, wrong_word, wrong_of_three, right_task}
use Rattle.scenario_text.proofs.task.parse_task.Goals as goal

pub returns-in_err-owner : goal.returns-in_err-owner
returns-in_err-owner c =
    let fault = err_from_is_err_and c.from_residual.result c.from_residual.ensures.1 in
    rw (fault.1, fault.2)
    (owner_refused c.args.version c.args.siblings c.args.users.now (lent c.args.words.now) c.in-len6-up.len_at_least c.requires (sym c.if-not-has_policy_shape.ensures) _ (c.in_err-owner.ensures ∙ ap (owner_read c.args.version c.args.users.now) (lent-rest 6 c.args.words.now)))

pub returns-in_default-2-3 : goal.returns-in_default-2-3
returns-in_default-2-3 c =
    let words = lent c.args.words.now in
    let owner = owner_is c.args.version c.args.users.now (after 6 words) _ (c.in_ok-owner.ensures ∙ ap (owner_read c.args.version c.args.users.now) (lent-rest 6 c.args.words.now)) in
    let shape = task_shape c.args.version c.args.siblings c.args.users.now words c.in-len6-up.len_at_least c.requires (sym c.if-not-has_policy_shape.ensures) ∙ owner.shape in
    wrong_of_three (task_form c.args.version c.args.siblings) (task_value c.args.version c.args.users.now) words 1 2 3 _ _ _ shape (lt-ltb 1 _ (omega arith)) (lt-ltb 2 _ (omega arith)) (lt-ltb 3 _ (omega arith)) refl refl refl (refused _ _ _ _ c.parse_three.ensures c.in_default-2.is-0)

pub returns-in_default-2-2 : goal.returns-in_default-2-2
returns-in_default-2-2 c =
    let words = lent c.args.words.now in
    let owner = owner_is c.args.version c.args.users.now (after 6 words) _ (c.in_ok-owner.ensures ∙ ap (owner_read c.args.version c.args.users.now) (lent-rest 6 c.args.words.now)) in
    let shape = task_shape c.args.version c.args.siblings c.args.users.now words c.in-len6-up.len_at_least c.requires (sym c.if-not-has_policy_shape.ensures) ∙ owner.shape in
    wrong_word (task_form c.args.version c.args.siblings) (task_value c.args.version c.args.users.now) words 4 shape (lt-ltb 4 _ (omega arith)) (refused _ _ _ _ c.parse_cpu.ensures c.in_default-2.is-1)

pub returns-in_default-2 : goal.returns-in_default-2
returns-in_default-2 c =
    let words = lent c.args.words.now in
    let owner = owner_is c.args.version c.args.users.now (after 6 words) _ (c.in_ok-owner.ensures ∙ ap (owner_read c.args.version c.args.users.now) (lent-rest 6 c.args.words.now)) in
    let shape = task_shape c.args.version c.args.siblings c.args.users.now words c.in-len6-up.len_at_least c.requires (sym c.if-not-has_policy_shape.ensures) ∙ owner.shape in
    wrong_word (task_form c.args.version c.args.siblings) (task_value c.args.version c.args.users.now) words 5 shape (lt-ltb 5 _ (omega arith)) (refused _ _ _ _ c.parse_policy.ensures c.in_default-2.is-2)

pub returns : goal.returns
returns c =
    let words = lent c.args.words.now in
    let owner = owner_is c.args.version c.args.users.now (after 6 words) _ (c.in_ok-owner.ensures ∙ ap (owner_read c.args.version c.args.users.now) (lent-rest 6 c.args.words.now)) in
    let pids = found _ _ _ _ c.parse_three.ensures c.in-Ok-Ok-Ok.is-0 in
    let cpu = found _ _ _ _ c.parse_cpu.ensures c.in-Ok-Ok-Ok.is-1 in
    let said = found _ _ _ _ c.parse_policy.ensures c.in-Ok-Ok-Ok.is-2 in
    right_task c.args.version c.args.siblings c.args.users.now words c.in-len6-up.len_at_least c.requires (sym c.if-not-has_policy_shape.ensures) _ c.in_ok-owner.owner owner pids.0 cpu.0 said.0
    (λ i. record {
      spec = record {
        pid = (pids.1 i).0;
        tgid = (pids.1 i).1;
        pgid = (pids.1 i).2;
        cpu = cpu.1 i;
        policy = said.1 i;
        creds = (owner.said i).creds;
      };
      user = (owner.said i).number;
    })
