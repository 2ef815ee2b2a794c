use Rattle.std.proofs.Common.{◌∙◌, ap, arith}
use Rattle.task_table.specs.Group.{is_in_group, group_above}
use Rattle.task_table.proofs.Grouped.{above_below}
use Rattle.task_table.proofs.table.TaskTable.below.Goals as goal

pub returns : goal.returns
returns c =
    let tasks = c.args.self.now.tasks in
    record {
      members = ap (λ n. group_above c.args.group n tasks) (omega (arith, c.saturating_sub.ensures))
          ∙ above_below (is_in_group c.args.group) c.span_of.result.least tasks c.span_of.ensures.least;
    }
