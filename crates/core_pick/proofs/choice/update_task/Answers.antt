use Rattle.std.proofs.Common.{◌∙◌, ap, sym, List}
use Rattle.std.specs.Prelude.{Some}
use Rattle.cs_types.specs.declared.task.Task.{Task}
use Rattle.cs_types.specs.Selection.{is_run}
use Rattle.task_table.specs.Table.{Table}
use Rattle.core_pick.proofs.Remembered.{map-task_after_choice, map-task_after_choice_none}
use Rattle.core_pick.proofs.choice.update_task.Goals as goal

pub returns-in-Some-clause-tasks : goal.returns-in-Some-clause-tasks
returns-in-Some-clause-tasks c =
    c.remember.ensures.remembered
    ∙ ap (λ (tasks : List Task). let table : Table = record c.args.tasks.now { tasks = tasks } in table)
    (map-task_after_choice c.args.tasks.now.tasks c.args.choice.now c.args.occupation c.in-Some.pid (sym c.run.ensures ∙ c.in-Some.is))

pub returns-in_default-clause-tasks : goal.returns-in_default-clause-tasks
returns-in_default-clause-tasks c =
    ap (λ (tasks : List Task). let table : Table = record c.args.tasks.now { tasks = tasks } in table)
    (map-task_after_choice_none c.args.tasks.now.tasks c.args.choice.now c.args.occupation
    (λ pid. ap (λ run. is_run run (Some pid)) (sym c.run.ensures ∙ c.in_default.is)))
