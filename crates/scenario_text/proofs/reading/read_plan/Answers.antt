use Rattle.std.proofs.Common.{List, Ok, sym, ap, subst, ◌∙◌, arith}
use Rattle.cs_types.specs.declared.task.Creds.{Creds}
use Rattle.cs_types.specs.declared.event.Step.{Step}
use Rattle.cs_types.specs.declared.scenario.Teach.{Teach}
use Rattle.scenario_text.specs.declared.line.Place.{Place}
use Rattle.scenario_text.specs.declared.line.ScenarioLine.{ScenarioLine}
use Rattle.scenario_text.specs.declared.line.ScenarioLine.TheVariants as forms
use Rattle.scenario_text.specs.Reading.{Contents, contents, with_task, count_named, named_after, next_of}
use Rattle.scenario_text.proofs.Beginnings.{taken_line, taken_fault}
use Rattle.scenario_text.proofs.Building.{with_user, with_teach, with_step, ReadSoFar, user_grows, task_counted, task_grows, teach_grows, step_grows, none_read, none_counted, grown, refused, complete, late}
use Rattle.scenario_text.proofs.UsualSteps.{with_steps, so_far_taken}
use Rattle.scenario_text.proofs.Drafts.{next_good, is_shorter}
use Rattle.scenario_text.proofs.reading.read_plan.Goals as goal

pub loop-plan-init : goal.loop-plan-init
loop-plan-init c =
    let head = c.args.head in
    let made = c.new-plan.ensures in
    record {
      read = subst (λ (plan : Contents). ReadSoFar head c.args.lines.now plan c.args.lines.now) (sym made.0) (none_read head c.args.lines.now c.requires.some c.requires.good);
      counted = made.1 ∙ sym (none_counted head.version) ∙ ap (count_named head.version) (sym made.0);
    }

pub returns-in-Err : goal.returns-in-Err
returns-in-Err c =
    let head = c.args.head in
    let taken_steps = so_far_taken head c.requires.head c.args.lines.now (contents c.loop-plan.plan) c.loop-plan.lines c.loop-plan.invariant.read _ (c.are_named.ensures head.version c.loop-plan.invariant.counted) _ _ c.in_ok-take_usual_steps.ensures in
    let plan = with_steps c.take_usual_steps.new.steps.items (contents c.loop-plan.plan) in
    let lines = c.take_usual_steps.new.self in
    rw c.place-line.ensures
    (refused head c.requires.head c.args.lines.now plan lines taken_steps.0 _
    (taken_fault (next_of head plan lines) c.next_line.new.lines 0 c.next_line.result c.next_line.ensures _ c.in-Err.is))

pub loop-plan-smaller-in-Continue-branch-2 : goal.loop-plan-smaller-in-Continue-branch-2
loop-plan-smaller-in-Continue-branch-2 c =
    let head = c.args.head in
    let taken_steps = so_far_taken head c.requires.head c.args.lines.now (contents c.loop-plan.plan) c.loop-plan.lines c.loop-plan.invariant.read _ (c.are_named.ensures head.version c.loop-plan.invariant.counted) _ _ c.in_ok-take_usual_steps.ensures in
    let plan = with_steps c.take_usual_steps.new.steps.items (contents c.loop-plan.plan) in
    let lines = c.take_usual_steps.new.self in
    let taken = taken_line (next_of head plan lines) c.next_line.new.lines 0 c.next_line.result c.next_line.ensures _ c.in-Ok.is in
    let next = next_good head c.requires.head plan taken_steps.0.is lines _ _ taken in
    let shorter = is_shorter _ _ _ _ _ next.lines_are next.rest_is in
    omega (arith, taken_steps.1, shorter)

pub loop-plan-preserved-in-Continue-branch-2 : goal.loop-plan-preserved-in-Continue-branch-2
loop-plan-preserved-in-Continue-branch-2 c =
    let head = c.args.head in
    let taken_steps = so_far_taken head c.requires.head c.args.lines.now (contents c.loop-plan.plan) c.loop-plan.lines c.loop-plan.invariant.read _ (c.are_named.ensures head.version c.loop-plan.invariant.counted) _ _ c.in_ok-take_usual_steps.ensures in
    let plan = with_steps c.take_usual_steps.new.steps.items (contents c.loop-plan.plan) in
    let lines = c.take_usual_steps.new.self in
    let rest = c.next_line.new.lines in
    let so_far = taken_steps.0 in
    let user = c.in-User.user in
    let taken = taken_line (next_of head plan lines) rest 0 c.next_line.result c.next_line.ensures _ c.in-Ok.is in
    let next = next_good head c.requires.head plan so_far.is lines (forms.User user) rest (taken ∙ ap (λ (line : ScenarioLine). Ok (line, rest)) c.in-User.is) in
    let grows = user_grows head.version head.siblings head.task_limit plan user so_far.is next.fits.0 next.fits.1 next.fits.2 next.checked in
    record {
      read =
          subst (λ (users : List Creds). ReadSoFar head c.args.lines.now (record plan { users = users }) rest) (sym c.in_ok-push-in-User.ensures.items)
          (grown head c.requires.head c.args.lines.now plan lines so_far (forms.User user) rest (with_user user.creds plan) next grows);
      counted = c.loop-plan.invariant.counted;
    }

pub loop-plan-smaller-in-Continue-branch-3 : goal.loop-plan-smaller-in-Continue-branch-3
loop-plan-smaller-in-Continue-branch-3 c =
    let head = c.args.head in
    let taken_steps = so_far_taken head c.requires.head c.args.lines.now (contents c.loop-plan.plan) c.loop-plan.lines c.loop-plan.invariant.read _ (c.are_named.ensures head.version c.loop-plan.invariant.counted) _ _ c.in_ok-take_usual_steps.ensures in
    let plan = with_steps c.take_usual_steps.new.steps.items (contents c.loop-plan.plan) in
    let lines = c.take_usual_steps.new.self in
    let taken = taken_line (next_of head plan lines) c.next_line.new.lines 0 c.next_line.result c.next_line.ensures _ c.in-Ok.is in
    let next = next_good head c.requires.head plan taken_steps.0.is lines _ _ taken in
    let shorter = is_shorter _ _ _ _ _ next.lines_are next.rest_is in
    omega (arith, taken_steps.1, shorter)

pub loop-plan-preserved-in-Continue-branch-3 : goal.loop-plan-preserved-in-Continue-branch-3
loop-plan-preserved-in-Continue-branch-3 c =
    let head = c.args.head in
    let taken_steps = so_far_taken head c.requires.head c.args.lines.now (contents c.loop-plan.plan) c.loop-plan.lines c.loop-plan.invariant.read _ (c.are_named.ensures head.version c.loop-plan.invariant.counted) _ _ c.in_ok-take_usual_steps.ensures in
    let plan = with_steps c.take_usual_steps.new.steps.items (contents c.loop-plan.plan) in
    let lines = c.take_usual_steps.new.self in
    let rest = c.next_line.new.lines in
    let so_far = taken_steps.0 in
    let task = c.in-Task.task in
    let taken = taken_line (next_of head plan lines) rest 0 c.next_line.result c.next_line.ensures _ c.in-Ok.is in
    let next = next_good head c.requires.head plan so_far.is lines (forms.Task task) rest (taken ∙ ap (λ (line : ScenarioLine). Ok (line, rest)) c.in-Task.is) in
    let grows = task_grows head.version head.siblings head.task_limit plan task so_far.is next.fits.0 next.fits.1 next.fits.2 next.fits.3 next.checked in
    let pushed = c.in_ok-push_task-in-Task.ensures in
    record {
      read =
          subst (λ (more : Contents). ReadSoFar head c.args.lines.now more rest) (sym pushed.0)
          (grown head c.requires.head c.args.lines.now plan lines so_far (forms.Task task) rest (with_task task.spec plan) next grows);
      counted =
          pushed.1
          ∙ ap (named_after head.version task.user) c.loop-plan.invariant.counted
          ∙ sym (task_counted head.version head.siblings head.task_limit plan task so_far.is next.fits.1 next.checked)
          ∙ ap (count_named head.version) (sym pushed.0);
    }

pub loop-plan-smaller-in-Continue-branch-4 : goal.loop-plan-smaller-in-Continue-branch-4
loop-plan-smaller-in-Continue-branch-4 c =
    let head = c.args.head in
    let taken_steps = so_far_taken head c.requires.head c.args.lines.now (contents c.loop-plan.plan) c.loop-plan.lines c.loop-plan.invariant.read _ (c.are_named.ensures head.version c.loop-plan.invariant.counted) _ _ c.in_ok-take_usual_steps.ensures in
    let plan = with_steps c.take_usual_steps.new.steps.items (contents c.loop-plan.plan) in
    let lines = c.take_usual_steps.new.self in
    let taken = taken_line (next_of head plan lines) c.next_line.new.lines 0 c.next_line.result c.next_line.ensures _ c.in-Ok.is in
    let next = next_good head c.requires.head plan taken_steps.0.is lines _ _ taken in
    let shorter = is_shorter _ _ _ _ _ next.lines_are next.rest_is in
    omega (arith, taken_steps.1, shorter)

pub loop-plan-preserved-in-Continue-branch-4 : goal.loop-plan-preserved-in-Continue-branch-4
loop-plan-preserved-in-Continue-branch-4 c =
    let head = c.args.head in
    let taken_steps = so_far_taken head c.requires.head c.args.lines.now (contents c.loop-plan.plan) c.loop-plan.lines c.loop-plan.invariant.read _ (c.are_named.ensures head.version c.loop-plan.invariant.counted) _ _ c.in_ok-take_usual_steps.ensures in
    let plan = with_steps c.take_usual_steps.new.steps.items (contents c.loop-plan.plan) in
    let lines = c.take_usual_steps.new.self in
    let rest = c.next_line.new.lines in
    let so_far = taken_steps.0 in
    let teach = c.in-Teach.teach in
    let taken = taken_line (next_of head plan lines) rest 0 c.next_line.result c.next_line.ensures _ c.in-Ok.is in
    let next = next_good head c.requires.head plan so_far.is lines (forms.Teach teach) rest (taken ∙ ap (λ (line : ScenarioLine). Ok (line, rest)) c.in-Teach.is) in
    let grows = teach_grows head.version head.siblings head.task_limit plan teach so_far.is next.fits.0 next.fits.1 next.fits.2 next.checked in
    record {
      read =
          subst (λ (teaches : List Teach). ReadSoFar head c.args.lines.now (record plan { teaches = teaches }) rest) (sym c.in_ok-push-in-Teach.ensures.items)
          (grown head c.requires.head c.args.lines.now plan lines so_far (forms.Teach teach) rest (with_teach teach plan) next grows);
      counted = c.loop-plan.invariant.counted;
    }

pub loop-plan-smaller : goal.loop-plan-smaller
loop-plan-smaller c =
    let head = c.args.head in
    let taken_steps = so_far_taken head c.requires.head c.args.lines.now (contents c.loop-plan.plan) c.loop-plan.lines c.loop-plan.invariant.read _ (c.are_named.ensures head.version c.loop-plan.invariant.counted) _ _ c.in_ok-take_usual_steps.ensures in
    let plan = with_steps c.take_usual_steps.new.steps.items (contents c.loop-plan.plan) in
    let lines = c.take_usual_steps.new.self in
    let taken = taken_line (next_of head plan lines) c.next_line.new.lines 0 c.next_line.result c.next_line.ensures _ c.in-Ok.is in
    let next = next_good head c.requires.head plan taken_steps.0.is lines _ _ taken in
    let shorter = is_shorter _ _ _ _ _ next.lines_are next.rest_is in
    omega (arith, taken_steps.1, shorter)

pub loop-plan-preserved : goal.loop-plan-preserved
loop-plan-preserved c =
    let head = c.args.head in
    let taken_steps = so_far_taken head c.requires.head c.args.lines.now (contents c.loop-plan.plan) c.loop-plan.lines c.loop-plan.invariant.read _ (c.are_named.ensures head.version c.loop-plan.invariant.counted) _ _ c.in_ok-take_usual_steps.ensures in
    let plan = with_steps c.take_usual_steps.new.steps.items (contents c.loop-plan.plan) in
    let lines = c.take_usual_steps.new.self in
    let rest = c.next_line.new.lines in
    let so_far = taken_steps.0 in
    let step = c.in-Step.step in
    let taken = taken_line (next_of head plan lines) rest 0 c.next_line.result c.next_line.ensures _ c.in-Ok.is in
    let next = next_good head c.requires.head plan so_far.is lines (forms.Step step) rest (taken ∙ ap (λ (line : ScenarioLine). Ok (line, rest)) c.in-Step.is) in
    let grows = step_grows head.version head.siblings head.task_limit plan step so_far.is next.fits next.checked in
    record {
      read =
          subst (λ (steps : List Step). ReadSoFar head c.args.lines.now (record plan { steps = steps }) rest) (sym c.in_ok-push-in-Step.ensures.items)
          (grown head c.requires.head c.args.lines.now plan lines so_far (forms.Step step) rest (with_step step plan) next grows);
      counted = c.loop-plan.invariant.counted;
    }

pub place-requires : goal.place-requires
place-requires c =
    let head = c.args.head in
    let taken_steps = so_far_taken head c.requires.head c.args.lines.now (contents c.loop-plan.plan) c.loop-plan.lines c.loop-plan.invariant.read _ (c.are_named.ensures head.version c.loop-plan.invariant.counted) _ _ c.in_ok-take_usual_steps.ensures in
    let is = taken_steps.0.is in
    record { users = is.few_users; tasks = omega (arith, is.few_tasks); teaches = is.few_teaches; steps = is.few_steps }

pub overflow_add-result : goal.overflow_add-result
overflow_add-result c =
    let head = c.args.head in
    let taken_steps = so_far_taken head c.requires.head c.args.lines.now (contents c.loop-plan.plan) c.loop-plan.lines c.loop-plan.invariant.read _ (c.are_named.ensures head.version c.loop-plan.invariant.counted) _ _ c.in_ok-take_usual_steps.ensures in
    let is = taken_steps.0.is in
    omega (arith, is.few_users, is.few_tasks, is.few_teaches, is.few_steps, ap (λ (place : Place). place.number) c.place.ensures)

pub returns-then-not-is_empty : goal.returns-then-not-is_empty
returns-then-not-is_empty c =
    let head = c.args.head in
    let taken_steps = so_far_taken head c.requires.head c.args.lines.now (contents c.loop-plan.plan) c.loop-plan.lines c.loop-plan.invariant.read _ (c.are_named.ensures head.version c.loop-plan.invariant.counted) _ _ c.in_ok-take_usual_steps.ensures in
    let plan = with_steps c.take_usual_steps.new.steps.items (contents c.loop-plan.plan) in
    let lines = c.take_usual_steps.new.self in
    let rest = c.next_line.new.lines in
    let so_far = taken_steps.0 in
    let taken = taken_line (next_of head plan lines) rest 0 c.next_line.result c.next_line.ensures _ c.in-Ok.is in
    let next = next_good head c.requires.head plan so_far.is lines forms.End rest (taken ∙ ap (λ (line : ScenarioLine). Ok (line, rest)) c.in-End.is) in
    rw c.place.ensures (late head c.requires.head c.args.lines.now plan lines so_far rest next (sym c.if-not-is_empty.ensures))

pub returns : goal.returns
returns c =
    let head = c.args.head in
    let taken_steps = so_far_taken head c.requires.head c.args.lines.now (contents c.loop-plan.plan) c.loop-plan.lines c.loop-plan.invariant.read _ (c.are_named.ensures head.version c.loop-plan.invariant.counted) _ _ c.in_ok-take_usual_steps.ensures in
    let plan = with_steps c.take_usual_steps.new.steps.items (contents c.loop-plan.plan) in
    let lines = c.take_usual_steps.new.self in
    let rest = c.next_line.new.lines in
    let so_far = taken_steps.0 in
    let taken = taken_line (next_of head plan lines) rest 0 c.next_line.result c.next_line.ensures _ c.in-Ok.is in
    let next = next_good head c.requires.head plan so_far.is lines forms.End rest (taken ∙ ap (λ (line : ScenarioLine). Ok (line, rest)) c.in-End.is) in
    complete head c.requires.head c.args.lines.now plan lines so_far rest next (sym c.if-not-is_empty.ensures)

pub next_line-requires-clause-few : goal.next_line-requires-clause-few
next_line-requires-clause-few c =
    let head = c.args.head in
    let taken_steps = so_far_taken head c.requires.head c.args.lines.now (contents c.loop-plan.plan) c.loop-plan.lines c.loop-plan.invariant.read _ (c.are_named.ensures head.version c.loop-plan.invariant.counted) _ _ c.in_ok-take_usual_steps.ensures in
    let is = taken_steps.0.is in
    record { users = is.few_users; tasks = omega (arith, is.few_tasks); teaches = is.few_teaches; steps = is.few_steps }

pub next_line-requires-clause-counted : goal.next_line-requires-clause-counted
next_line-requires-clause-counted c = c.loop-plan.invariant.counted

pub place-line-requires : goal.place-line-requires
place-line-requires c =
    let head = c.args.head in
    let taken_steps = so_far_taken head c.requires.head c.args.lines.now (contents c.loop-plan.plan) c.loop-plan.lines c.loop-plan.invariant.read _ (c.are_named.ensures head.version c.loop-plan.invariant.counted) _ _ c.in_ok-take_usual_steps.ensures in
    let is = taken_steps.0.is in
    record { users = is.few_users; tasks = omega (arith, is.few_tasks); teaches = is.few_teaches; steps = is.few_steps }

pub push_task-requires : goal.push_task-requires
push_task-requires c =
    let head = c.args.head in
    let taken_steps = so_far_taken head c.requires.head c.args.lines.now (contents c.loop-plan.plan) c.loop-plan.lines c.loop-plan.invariant.read _ (c.are_named.ensures head.version c.loop-plan.invariant.counted) _ _ c.in_ok-take_usual_steps.ensures in
    let is = taken_steps.0.is in
    record { few = record { users = is.few_users; tasks = omega (arith, is.few_tasks); teaches = is.few_teaches; steps = is.few_steps } }
