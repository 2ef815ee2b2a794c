use Rattle.std.proofs.Common.{◌≡◌, ◌-◌, ◌∙◌, List, filter, length, take, drop, subst, sym, ap, arith}
use Rattle.std.proofs.lemmas.List.{take_rest}
use Rattle.cs_types.specs.declared.task.Task.{Task}
use Rattle.task_table.specs.declared.entry.Entry.{Entry}
use Rattle.task_table.specs.Table.{Table}
use Rattle.task_table.specs.Group.{is_in_group}
use Rattle.task_table.specs.Inside.{tasks_at, IsWalk}
use Rattle.task_table.proofs.Kept.{kept_walk}
use Rattle.task_table.proofs.Walks.{seen_from, walk_from}
use Rattle.task_table.proofs.table.TaskTable.members_from.Goals as goal

part : (c : goal.After-result-1) → take (length c.as_slice.result.now - c.args.position) (drop c.args.position c.as_slice.result.now) ≡ drop c.args.position c.self.inside.entries.items
part c = take_rest c.as_slice.result.now c.args.position ∙ ap (drop c.args.position) c.as_slice.ensures.value

pub invariant_of-result : goal.invariant_of-result
invariant_of-result c =
    let slots = c.self.inside.slots in
    let entries = c.self.inside.entries.items in
    let walk = kept_walk c.self.invariant c.args.group in
    subst (λ es. IsWalk slots es c.args.group c.args.most) (sym (part c))
    (walk_from slots entries walk c.args.position c.args.most
    (omega (
      arith,
      ap (λ (tasks : List Task). length (filter (is_in_group c.args.group) tasks)) (seen_from slots entries walk c.args.position
          ∙ ap (λ (table : Table). drop c.args.position table.tasks) c.self.view_is),
      c.requires.most,
    )))

pub returns-clause-members : goal.returns-clause-members
returns-clause-members c =
    let slots = c.self.inside.slots in
    ap (λ (entries : List Entry). filter (is_in_group c.args.group) (tasks_at slots entries)) (part c)
    ∙ ap (filter (is_in_group c.args.group))
    (seen_from slots c.self.inside.entries.items (kept_walk c.self.invariant c.args.group) c.args.position
    ∙ ap (λ (table : Table). drop c.args.position table.tasks) c.self.view_is)
