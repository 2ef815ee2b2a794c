use Rattle.std.proofs.Common.{◌≡◌, drop, arith}
use Rattle.std.specs.Prelude.{◌&&◌, nat_lt, find, option_copied}
use Rattle.task_table.specs.Group.{is_in_group}
use Rattle.std.proofs.lemmas.List.{length-drop}
use Rattle.std.proofs.lemmas.List.Sums.{length-filter, count_by-le-length}
use Rattle.task_table.proofs.Kept.{kept_of, kept_length}
use Rattle.task_table.proofs.Rising.{split_within}
use Rattle.task_table.proofs.Walks.{next_is, next_rest, next_there}
use Rattle.task_table.proofs.table.TaskTable.next_in.Goals as goal

pub members_from-requires-clause-within : goal.members_from-requires-clause-within
members_from-requires-clause-within c = split_within _ _ c.position_above.result c.args.self.now.tasks c.position_above.ensures

pub members_from-requires-clause-most : goal.members_from-requires-clause-most
members_from-requires-clause-most c =
    let tasks = c.args.self.now.tasks in
    let left = drop c.position_above.result tasks in
    omega (
      arith,
      length-filter (is_in_group c.args.group) left,
      count_by-le-length (is_in_group c.args.group) left,
      length-drop c.position_above.result tasks,
      kept_length (kept_of _ _ _ _ _ _ _ c.self.view_is c.self.invariant),
      c.len.ensures,
    )

is : (c : goal.After-next) → option_copied c.next.result ≡ find (λ task. is_in_group c.args.group task && nat_lt c.args.after task.spec.pid) c.args.self.now.tasks
is c = next_is c.args.group c.args.after c.position_above.result c.args.self.now.tasks _ c.position_above.ensures c.members_from.ensures.members c.next.result _ c.next.ensures.steps

pub returns-clause-next : goal.returns-clause-next
returns-clause-next c = is c

pub returns-clause-rest : goal.returns-clause-rest
returns-clause-rest c = next_rest c.args.group c.args.after c.args.self.now.tasks c.members_from.ensures.sound.rising c.next.result (is c)

pub returns-clause-there : goal.returns-clause-there
returns-clause-there c = next_there c.args.group c.args.after c.args.self.now.tasks c.members_from.ensures.sound.rising c.next.result (is c)
