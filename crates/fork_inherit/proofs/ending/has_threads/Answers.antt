use Rattle.std.proofs.Common.{◌∙◌, sym, ap, eqb, not, eq-eqb, arith}
use Rattle.std.specs.Prelude.{◌&&◌, filter}
use Rattle.std.specs.List.{list_any}
use Rattle.cs_types.specs.declared.task.Task.{Task}
use Rattle.cs_types.specs.Room.{has_pid}
use Rattle.fork_inherit.proofs.Ends.{any_of_kept, find_kept, no_other}
use Rattle.fork_inherit.proofs.ending.has_threads.Goals as goal

pub returns : goal.returns
returns c room same =
    let leader = c.args.task.now.spec.pid in
    let is_other : Task → _ = λ (task : Task). eqb task.spec.tgid leader && not (eqb task.spec.pid leader) in
    c.has_others.ensures
    ∙ ap (list_any is_other) (sym same)
    ∙ ap (λ b. b && list_any is_other room.tasks) (sym (eq-eqb _ _ c.if-task-leader.false))

-- the group has no member but its leader, which is one of it
pub returns-then-most_in-le1 : goal.returns-then-most_in-le1
returns-then-most_in-le1 c room same =
    let leader = c.args.task.now.spec.pid in
    let tasks = c.args.table.now.tasks in
    let is_member : Task → _ = λ (task : Task). eqb task.spec.tgid leader in
    let is_other : Task → _ = λ (task : Task). not (eqb task.spec.pid leader) in
    let leads = eq-eqb _ _ c.if-task-leader.false in
    sym (no_other (has_pid leader) (filter is_member tasks) c.args.task.now (omega (arith, c.most_in.ensures.most, c.if-most_in-le1.true))
    (find_kept is_member (has_pid leader) tasks c.args.task.now c.requires leads))
    ∙ any_of_kept is_member is_other tasks
    ∙ ap (list_any (λ task. is_member task && is_other task)) (sym same)
    ∙ ap (λ b. b && list_any (λ task. is_member task && is_other task) room.tasks) (sym leads)
