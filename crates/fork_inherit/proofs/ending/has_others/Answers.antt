use Rattle.std.proofs.Common.{Bor, List, ◌∙◌, eqb, not, rules, tests}
use Rattle.std.specs.Prelude.{filter}
use Rattle.std.proofs.lemmas.Iterator.Consumers.{YieldsList-from_first}
use Rattle.std.proofs.lemmas.Iterator.Search.{any_from_yields_List}
use Rattle.cs_types.specs.declared.task.Task.{Task}
use Rattle.fork_inherit.proofs.Ends.{any_of_kept}
use Rattle.fork_inherit.proofs.ending.has_others.Goals as goal

pub returns : goal.returns
returns c =
    let leader = c.args.leader in
    let tasks = c.args.table.now.tasks in
    let is_member : Task → _ = λ (task : Task). eqb task.spec.tgid leader in
    let is_other : Task → _ = λ (task : Task). not (eqb task.spec.pid leader) in
    let walk = YieldsList-from_first (λ (x : Bor Task). x.now) (λ (left : List Task). left) (filter is_member tasks) c.members.ensures.members in
    any_from_yields_List is_other _ _ c.any.result c.any.ensures.ran walk (λ x b q k. search (rules, tests))
    ∙ any_of_kept is_member is_other tasks
