use Rattle.std.proofs.Common.{◌∙◌, sym, arith}
use Rattle.task_table.proofs.Rising.{none_gap, find_none}
use Rattle.task_table.proofs.Kept.{kept_of, position_within, found}
use Rattle.task_table.proofs.table.TaskTable.by_position.Goals as goal

pub index-requires : goal.index-requires
index-requires c =
    let kept = kept_of _ _ _ _ _ _ _ c.self.view_is c.self.invariant in
    let at = c.in-Ok.ensures c.args.self.now.tasks (rw c.deref.ensures.value kept.index) kept.sound.rising in
    omega (arith, position_within kept c.args.pid c.in-Ok.position at)

pub returns-in-Ok : goal.returns-in-Ok
returns-in-Ok c =
    let kept = kept_of _ _ _ _ _ _ _ c.self.view_is c.self.invariant in
    let at = c.in-Ok.ensures c.args.self.now.tasks (rw c.deref.ensures.value kept.index) kept.sound.rising in
    c.get.ensures ∙ found kept c.args.pid c.in-Ok.position _ at c.index.ensures

pub returns-in-Err : goal.returns-in-Err
returns-in-Err c =
    let kept = kept_of _ _ _ _ _ _ _ c.self.view_is c.self.invariant in
    let gap = c.in-Err.ensures c.args.self.now.tasks (rw c.deref.ensures.value kept.index) kept.sound.rising in
    sym (find_none c.args.pid c.args.self.now.tasks (none_gap c.args.pid _ c.args.self.now.tasks gap))
