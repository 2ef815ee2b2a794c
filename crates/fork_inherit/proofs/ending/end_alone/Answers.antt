use Rattle.std.proofs.Common.{◌≡◌, ◌∙◌, Some, sym, subst}
use Rattle.std.specs.Prelude.{find}
use Rattle.cs_types.specs.Room.{has_pid}
use Rattle.cookie_refs.specs.Refs.{Agree}
use Rattle.cookie_refs.proofs.Agreements.{own_cookie_is_live, AgreeBut-without}
use Rattle.task_table.specs.Table.{Table, total_in}
use Rattle.task_table.proofs.Tables.{found_alone}
use Rattle.fork_inherit.proofs.Ends.{found_with}
use Rattle.fork_inherit.proofs.ending.end_alone.Goals as goal

-- the task and what it was charged
gone : (c : goal.After-put) → (find (has_pid c.args.pid) c.args.table.now.tasks ≡ Some c.unwrap-forced.result.0)
    × (c.unwrap-forced.result.1 ≡ total_in c.args.table.now c.args.pid)
gone c =
    found_with (total_in c.args.table.now c.args.pid) (find (has_pid c.args.pid) c.args.table.now.tasks) c.unwrap-forced.result
    (sym c.remove.ensures.task ∙ c.unwrap-forced.ensures)

pub put-requires : goal.put-requires
put-requires c =
    own_cookie_is_live c.args.refs.now c.args.table.now.tasks 0 c.args.pid c.unwrap-forced.result.0
    (found_with (total_in c.args.table.now c.args.pid) (find (has_pid c.args.pid) c.args.table.now.tasks) c.unwrap-forced.result
    (sym c.remove.ensures.task ∙ c.unwrap-forced.ensures)).0 c.requires.agree

pub returns-clause-task : goal.returns-clause-task
returns-clause-task c = (gone c).0

pub returns-clause-forced : goal.returns-clause-forced
returns-clause-forced c = (gone c).1

pub returns-clause-agree : goal.returns-clause-agree
returns-clause-agree c =
    subst (λ (table : Table). Agree c.put.new.self table.tasks) (sym c.remove.ensures.removed)
    (AgreeBut-without c.args.refs.now c.put.new.self c.args.table.now.tasks 0 c.args.pid c.unwrap-forced.result.0
    (found_alone 0 c.args.pid c.args.table.now.tasks c.unwrap-forced.result.0 c.remove.ensures.before.rising (gone c).0)
    c.put.ensures.counts c.requires.agree)
