use Rattle.std.proofs.Common.{◌≡◌, ◌∙◌, [], ap}
use Rattle.std.proofs.lemmas.Result.{on_ok_weaker}
use Rattle.cs_outside.specs.Device.{appended}
use Rattle.run_times.specs.declared.by.By.TheVariants.{Cookie, Group}
use Rattle.run_times.specs.Sums.{Times}
use Rattle.wait_times.specs.Rows.{Waits}
use Rattle.scenario_text.specs.Text.{line}
use Rattle.cs_outside.proofs.Reached.{all_left, none_left}
use Rattle.times_report.specs.TaskLines.{task_lines}
use Rattle.times_report.specs.WaitLines.{wait_lines}
use Rattle.times_report.specs.Summary.{sibling_lines, side_lines, end_lines, summary_lines, summary_text}
use Rattle.times_report.proofs.Left.{siblings_part, exposed_part, mixed_part, after_siblings, after_cookies, after_tasks, after_exposed, after_mixed, part_out, part_begun, last_part}
use Rattle.times_report.proofs.texts.summary.Goals as goal

pub returns-in_err-write_siblings-clause-prefix : goal.returns-in_err-write_siblings-clause-prefix
returns-in_err-write_siblings-clause-prefix g c =
    part_begun _ _ (siblings_part c.args.summary.now) (sibling_lines c.siblings.result.now) (after_siblings c.args.summary.now) _ _ (ap sibling_lines (c.siblings.ensures ∙ ap (λ (times : Times). times.siblings) c.times-times.ensures))
    (all_left line (g.K.Sink.written c.args.sink.now) (summary_lines c.args.summary.now)) c.write_siblings.ensures.prefix

pub returns-in_err-task_summary-clause-prefix : goal.returns-in_err-task_summary-clause-prefix
returns-in_err-task_summary-clause-prefix g c =
    part_begun _ _ (task_lines c.args.summary.now.tasks) (task_lines c.tasks.result.now) (after_cookies c.args.summary.now) _ _ (ap task_lines c.tasks.ensures)
    (part_out _ _ (siblings_part c.args.summary.now) (sibling_lines c.siblings.result.now) (after_siblings c.args.summary.now) _ _ (ap sibling_lines (c.siblings.ensures ∙ ap (λ (times : Times). times.siblings) c.times-times.ensures))
    (all_left line (g.K.Sink.written c.args.sink.now) (summary_lines c.args.summary.now)) c.in_ok-write_siblings.ensures.ok) c.task_summary.ensures.prefix

pub returns-in_err-write_waits-clause-prefix : goal.returns-in_err-write_waits-clause-prefix
returns-in_err-write_waits-clause-prefix g c =
    part_begun _ _ (wait_lines c.args.summary.now.waits.rows) (wait_lines c.rows.result.now) (after_tasks c.args.summary.now) _ _ (ap wait_lines (c.rows.ensures.rows ∙ ap (λ (waits : Waits). waits.rows) c.waits.ensures))
    (part_out _ _ (task_lines c.args.summary.now.tasks) (task_lines c.tasks.result.now) (after_cookies c.args.summary.now) _ _ (ap task_lines c.tasks.ensures)
    (part_out _ _ (siblings_part c.args.summary.now) (sibling_lines c.siblings.result.now) (after_siblings c.args.summary.now) _ _ (ap sibling_lines (c.siblings.ensures ∙ ap (λ (times : Times). times.siblings) c.times-times.ensures))
    (all_left line (g.K.Sink.written c.args.sink.now) (summary_lines c.args.summary.now)) c.in_ok-write_siblings.ensures.ok) c.in_ok-task_summary.ensures.ok) c.write_waits.ensures.prefix

pub returns-in_err-write_side-clause-prefix : goal.returns-in_err-write_side-clause-prefix
returns-in_err-write_side-clause-prefix g c =
    part_begun _ _ (exposed_part c.args.summary.now) (side_lines Cookie c.exposed.result c.cookie_pairs.result.now) (after_exposed c.args.summary.now) _ _ (λ i. side_lines Cookie ((c.exposed.ensures ∙ ap (λ (times : Times). times.exposed) c.times-times.ensures) i) (c.cookie_pairs.ensures i))
    (part_out _ _ (wait_lines c.args.summary.now.waits.rows) (wait_lines c.rows.result.now) (after_tasks c.args.summary.now) _ _ (ap wait_lines (c.rows.ensures.rows ∙ ap (λ (waits : Waits). waits.rows) c.waits.ensures))
    (part_out _ _ (task_lines c.args.summary.now.tasks) (task_lines c.tasks.result.now) (after_cookies c.args.summary.now) _ _ (ap task_lines c.tasks.ensures)
    (part_out _ _ (siblings_part c.args.summary.now) (sibling_lines c.siblings.result.now) (after_siblings c.args.summary.now) _ _ (ap sibling_lines (c.siblings.ensures ∙ ap (λ (times : Times). times.siblings) c.times-times.ensures))
    (all_left line (g.K.Sink.written c.args.sink.now) (summary_lines c.args.summary.now)) c.in_ok-write_siblings.ensures.ok) c.in_ok-task_summary.ensures.ok) c.in_ok-write_waits.ensures.ok) c.write_side.ensures.prefix

pub returns-in_err-write_side-2-clause-prefix : goal.returns-in_err-write_side-2-clause-prefix
returns-in_err-write_side-2-clause-prefix g c =
    part_begun _ _ (mixed_part c.args.summary.now) (side_lines Group c.mixed.result c.group_pairs.result.now) (after_mixed c.args.summary.now) _ _ (λ i. side_lines Group ((c.mixed.ensures ∙ ap (λ (times : Times). times.mixed) c.times-times.ensures) i) (c.group_pairs.ensures i))
    (part_out _ _ (exposed_part c.args.summary.now) (side_lines Cookie c.exposed.result c.cookie_pairs.result.now) (after_exposed c.args.summary.now) _ _ (λ i. side_lines Cookie ((c.exposed.ensures ∙ ap (λ (times : Times). times.exposed) c.times-times.ensures) i) (c.cookie_pairs.ensures i))
    (part_out _ _ (wait_lines c.args.summary.now.waits.rows) (wait_lines c.rows.result.now) (after_tasks c.args.summary.now) _ _ (ap wait_lines (c.rows.ensures.rows ∙ ap (λ (waits : Waits). waits.rows) c.waits.ensures))
    (part_out _ _ (task_lines c.args.summary.now.tasks) (task_lines c.tasks.result.now) (after_cookies c.args.summary.now) _ _ (ap task_lines c.tasks.ensures)
    (part_out _ _ (siblings_part c.args.summary.now) (sibling_lines c.siblings.result.now) (after_siblings c.args.summary.now) _ _ (ap sibling_lines (c.siblings.ensures ∙ ap (λ (times : Times). times.siblings) c.times-times.ensures))
    (all_left line (g.K.Sink.written c.args.sink.now) (summary_lines c.args.summary.now)) c.in_ok-write_siblings.ensures.ok) c.in_ok-task_summary.ensures.ok) c.in_ok-write_waits.ensures.ok) c.in_ok-write_side.ensures.ok) c.write_side-2.ensures.prefix

pub returns-clause-ok : goal.returns-clause-ok
returns-clause-ok g c =
    on_ok_weaker {Q = g.K.Sink.written c.write_end.new.sink ≡ appended (g.K.Sink.written c.args.sink.now) (summary_text c.args.summary.now)} c.write_end.result
    (λ sent. none_left _ _ _ (part_out _ _ (after_mixed c.args.summary.now) (end_lines c.times-times.result.now c.replies.result.now) [] _ _ (λ i. end_lines (c.times-times.ensures i) (c.replies.ensures i))
    (last_part _ _ (after_mixed c.args.summary.now) _ (part_out _ _ (mixed_part c.args.summary.now) (side_lines Group c.mixed.result c.group_pairs.result.now) (after_mixed c.args.summary.now) _ _ (λ i. side_lines Group ((c.mixed.ensures ∙ ap (λ (times : Times). times.mixed) c.times-times.ensures) i) (c.group_pairs.ensures i))
    (part_out _ _ (exposed_part c.args.summary.now) (side_lines Cookie c.exposed.result c.cookie_pairs.result.now) (after_exposed c.args.summary.now) _ _ (λ i. side_lines Cookie ((c.exposed.ensures ∙ ap (λ (times : Times). times.exposed) c.times-times.ensures) i) (c.cookie_pairs.ensures i))
    (part_out _ _ (wait_lines c.args.summary.now.waits.rows) (wait_lines c.rows.result.now) (after_tasks c.args.summary.now) _ _ (ap wait_lines (c.rows.ensures.rows ∙ ap (λ (waits : Waits). waits.rows) c.waits.ensures))
    (part_out _ _ (task_lines c.args.summary.now.tasks) (task_lines c.tasks.result.now) (after_cookies c.args.summary.now) _ _ (ap task_lines c.tasks.ensures)
    (part_out _ _ (siblings_part c.args.summary.now) (sibling_lines c.siblings.result.now) (after_siblings c.args.summary.now) _ _ (ap sibling_lines (c.siblings.ensures ∙ ap (λ (times : Times). times.siblings) c.times-times.ensures))
    (all_left line (g.K.Sink.written c.args.sink.now) (summary_lines c.args.summary.now)) c.in_ok-write_siblings.ensures.ok) c.in_ok-task_summary.ensures.ok) c.in_ok-write_waits.ensures.ok) c.in_ok-write_side.ensures.ok) c.in_ok-write_side-2.ensures.ok)) sent)) c.write_end.ensures.ok

pub returns-clause-prefix : goal.returns-clause-prefix
returns-clause-prefix g c =
    part_begun _ _ (after_mixed c.args.summary.now) (end_lines c.times-times.result.now c.replies.result.now) [] _ _ (λ i. end_lines (c.times-times.ensures i) (c.replies.ensures i))
    (last_part _ _ (after_mixed c.args.summary.now) _ (part_out _ _ (mixed_part c.args.summary.now) (side_lines Group c.mixed.result c.group_pairs.result.now) (after_mixed c.args.summary.now) _ _ (λ i. side_lines Group ((c.mixed.ensures ∙ ap (λ (times : Times). times.mixed) c.times-times.ensures) i) (c.group_pairs.ensures i))
    (part_out _ _ (exposed_part c.args.summary.now) (side_lines Cookie c.exposed.result c.cookie_pairs.result.now) (after_exposed c.args.summary.now) _ _ (λ i. side_lines Cookie ((c.exposed.ensures ∙ ap (λ (times : Times). times.exposed) c.times-times.ensures) i) (c.cookie_pairs.ensures i))
    (part_out _ _ (wait_lines c.args.summary.now.waits.rows) (wait_lines c.rows.result.now) (after_tasks c.args.summary.now) _ _ (ap wait_lines (c.rows.ensures.rows ∙ ap (λ (waits : Waits). waits.rows) c.waits.ensures))
    (part_out _ _ (task_lines c.args.summary.now.tasks) (task_lines c.tasks.result.now) (after_cookies c.args.summary.now) _ _ (ap task_lines c.tasks.ensures)
    (part_out _ _ (siblings_part c.args.summary.now) (sibling_lines c.siblings.result.now) (after_siblings c.args.summary.now) _ _ (ap sibling_lines (c.siblings.ensures ∙ ap (λ (times : Times). times.siblings) c.times-times.ensures))
    (all_left line (g.K.Sink.written c.args.sink.now) (summary_lines c.args.summary.now)) c.in_ok-write_siblings.ensures.ok) c.in_ok-task_summary.ensures.ok) c.in_ok-write_waits.ensures.ok) c.in_ok-write_side.ensures.ok) c.in_ok-write_side-2.ensures.ok)) c.write_end.ensures.prefix
