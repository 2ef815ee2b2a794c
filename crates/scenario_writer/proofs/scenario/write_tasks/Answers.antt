use Rattle.std.proofs.Common.{ℕ, List, get_or, refl, ◌∙◌, arith}
use Rattle.cs_types.specs.declared.task.TaskSpec.{TaskSpec}
use Rattle.cs_types.specs.declared.task.Policy.TheVariants.{Stop}
use Rattle.scenario_text.specs.Words.{Word}
use Rattle.scenario_text.specs.Reading.{nobody}
use Rattle.scenario_text.specs.Text.{users_in, task_words_in}
use Rattle.cs_outside.proofs.Reached.{none_left, whole_prefix, line_more, line_prefix}
use Rattle.scenario_writer.proofs.Items.{item_left, all_written}
use Rattle.scenario_writer.proofs.scenario.write_tasks.Goals as goal

abbrev words : ℕ → List TaskSpec → TaskSpec → List Word
words version tasks = task_words_in version (users_in version tasks)

-- what stands for a task that is not there
abbrev no_task : TaskSpec
no_task = record { pid = 0; tgid = 0; pgid = 0; cpu = 0; policy = Stop; creds = nobody }

pub returns-in_err-write_all-clause-prefix : goal.returns-in_err-write_all-clause-prefix
returns-in_err-write_all-clause-prefix g c =
    line_prefix _ _ _ _ _ _ _
    (item_left (words c.args.version c.args.tasks.now) c.args.tasks.now c.loop-task.task-index no_task (get_or c.args.tasks.now c.loop-task.task-index no_task) _ _ _ c.loop-task-test.true refl c.loop-task.invariant.left)
    (c.as_bytes.ensures ∙ c.task_line.ensures) c.write_all.ensures.prefix

pub loop-task-preserved : goal.loop-task-preserved
loop-task-preserved g c = record {
  left = line_more _ _ _ _ _ _ _
      (item_left (words c.args.version c.args.tasks.now) c.args.tasks.now c.loop-task.task-index no_task (get_or c.args.tasks.now c.loop-task.task-index no_task) _ _ _ c.loop-task-test.true refl c.loop-task.invariant.left)
      (c.as_bytes.ensures ∙ c.task_line.ensures) c.in_ok-write_all.ensures.ok;
  faultless = c.in_ok-write_all.ensures.faultless ∙ c.loop-task.invariant.faultless;
}

pub returns-clause-prefix : goal.returns-clause-prefix
returns-clause-prefix g c =
    whole_prefix _ _ _ (none_left _ _ _ (all_written (words c.args.version c.args.tasks.now) c.args.tasks.now c.loop-task.task-index _ _ _ (omega (arith, c.loop-task-test.false)) c.loop-task.invariant.left))
