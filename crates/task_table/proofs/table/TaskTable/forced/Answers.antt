use Rattle.std.proofs.Common.{arith, ◌∙◌, sym, ap}
use Rattle.task_table.specs.declared.entry.Entry.{Entry}
use Rattle.task_table.specs.Table.{Table, total_in}
use Rattle.task_table.proofs.Rising.{none_gap, find_none}
use Rattle.task_table.proofs.Kept.{kept_of, position_within}
use Rattle.task_table.proofs.Totals.{total-at}
use Rattle.task_table.proofs.table.TaskTable.forced.Goals as goal

pub index-requires : goal.index-requires
index-requires c =
    omega (arith, position_within (kept_of _ _ _ _ _ _ _ c.self.view_is c.self.invariant) c.args.pid c.in-Ok.position c.in-Ok.ensures.position)

pub returns-in-Ok-clause-total : goal.returns-in-Ok-clause-total
returns-in-Ok-clause-total c =
    let kept = kept_of _ _ _ _ _ _ _ c.self.view_is c.self.invariant in
    let there = total-at c.args.pid c.in-Ok.position c.self.inside.entries.items c.args.self.now.tasks c.index.result.now kept.index c.in-Ok.ensures.position in
    ap (λ (entry : Entry). entry.forced) c.index.ensures ∙ sym there.1 ∙ ap (λ (table : Table). total_in table c.args.pid) c.self.view_is

pub returns-in-Err-clause-total : goal.returns-in-Err-clause-total
returns-in-Err-clause-total c =
    sym (c.in-Err.ensures.sound.known c.args.pid (find_none c.args.pid c.args.self.now.tasks (none_gap c.args.pid _ c.args.self.now.tasks c.in-Err.ensures.position)))
