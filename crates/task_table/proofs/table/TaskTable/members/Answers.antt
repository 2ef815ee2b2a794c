use Rattle.std.proofs.Common.{Bor, List, ap, ◌∙◌, length, arith}
use Rattle.std.specs.Iterator.{YieldsFirstRef}
use Rattle.std.proofs.iter.runs.Sources.{from_front}
use Rattle.cs_types.specs.declared.task.Task.{Task}
use Rattle.task_table.specs.Group.{is_in_group}
use Rattle.task_table.proofs.Rising.{split_within}
use Rattle.task_table.proofs.Grouped.{filter_from}
use Rattle.task_table.proofs.table.TaskTable.members.Goals as goal

pub members_from-requires-clause-within : goal.members_from-requires-clause-within
members_from-requires-clause-within c = split_within _ _ c.position_from.result c.args.self.now.tasks c.position_from.ensures

pub members_from-requires-clause-most : goal.members_from-requires-clause-most
members_from-requires-clause-most c =
    let whole = filter_from (is_in_group c.args.group) c.span_of-span.result.least c.position_from.result c.args.self.now.tasks c.position_from.ensures c.span_of-span.ensures.least in
    omega (arith, ap length whole, c.span_of-span.ensures.count)

pub returns-clause-members : goal.returns-clause-members
returns-clause-members c =
    c.members_from.ensures.members
    ∙ filter_from (is_in_group c.args.group) c.span_of-span.result.least c.position_from.result c.args.self.now.tasks c.position_from.ensures c.span_of-span.ensures.least

pub returns-clause-runs : goal.returns-clause-runs
returns-clause-runs c =
    from_front (YieldsFirstRef {S = List Task} (λ left. left)) (λ (task : Bor Task). task.now) (λ (left : List Task). left)
    (λ s t h. ap length h.0) (λ s x t h. h)
