use Rattle.std.proofs.Common.{◌∙◌, ap, sym, cond, map}
use Rattle.cs_types.specs.declared.task.Task.{Task}
use Rattle.cs_types.specs.Room.{has_pid}
use Rattle.task_table.specs.Table.{Table, total_in}
use Rattle.task_table.proofs.Tables.{inserted_given}
use Rattle.fork_inherit.proofs.forking.insert.Goals as goal

pub returns-clause-inserted : goal.returns-clause-inserted
returns-clause-inserted c =
    let pid = c.args.spec.pid in
    let cookie = c.args.cookie in
    let added = rw c.unwrap.ensures at c.add.ensures.added in
    let given : Table → Table = λ (table : Table). record table { tasks = map (λ (other : Task). cond (has_pid pid other) (record other { cookie = cookie }) other) table.tasks } in
    c.give_cookie.ensures.given ∙ ap given added
    ∙ (λ i. record c.args.table.now {
      tasks = inserted_given c.args.spec cookie c.args.table.now.tasks c.requires.free i;
      totals = (sym c.give_cookie.ensures.given i).totals;
    })

pub returns-clause-totals : goal.returns-clause-totals
returns-clause-totals c pid = ap (λ (table : Table). total_in table pid) c.give_cookie.ensures.given ∙ c.add.ensures.totals pid
