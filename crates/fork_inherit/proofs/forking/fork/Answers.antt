use Rattle.std.proofs.Common.{arith, ◌≡◌, ◌∙◌, sym, subst}
use Rattle.std.specs.Prelude.{find, None}
use Rattle.cs_types.specs.declared.task.Task.{Task}
use Rattle.cs_types.specs.Room.{asleep, has_pid}
use Rattle.cookie_refs.specs.Refs.{Agree}
use Rattle.cookie_refs.proofs.Agreements.{own_cookie_is_live, count_of-le, AgreeBut-inserted}
use Rattle.task_table.specs.Table.{Table}
use Rattle.fork_inherit.proofs.forking.fork.Goals as goal

pub get-requires-clause-live : goal.get-requires-clause-live
get-requires-clause-live c =
    own_cookie_is_live c.args.refs.now c.args.table.now.tasks 0 c.args.caller c.in-Some.by (sym (c.in-Some.ensures ∙ c.find.ensures.task)) c.requires.agree

pub get-requires-clause-few : goal.get-requires-clause-few
get-requires-clause-few c =
    omega (arith, c.find.ensures.sound.few, c.find.ensures.sound.limit, count_of-le c.args.refs.now c.args.table.now.tasks 0 c.requires.agree c.in-Some.by.cookie)

pub returns-clause-agree : goal.returns-clause-agree
returns-clause-agree c =
    let child : Task = record (asleep c.child_spec.result) { cookie = c.in-Some.by.cookie } in
    let unused : find (has_pid c.child_spec.result.pid) c.args.table.now.tasks ≡ None = rw c.child_spec.ensures c.requires.unused in
    subst (λ (table : Table). Agree c.get.new.self table.tasks) (sym c.insert.ensures.inserted)
    (AgreeBut-inserted c.args.refs.now c.get.new.self c.args.table.now.tasks 0 child unused c.get.ensures.counts c.requires.agree)
