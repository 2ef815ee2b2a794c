use Rattle.std.proofs.Common.{length, sym, ap, ◌∙◌}
use Rattle.std.proofs.lemmas.Bool.{ltb-true}
use Rattle.task_table.specs.Inside.{slot_of}
use Rattle.task_table.proofs.Kept.{kept_of}
use Rattle.task_table.proofs.Held.{slot_at}
use Rattle.task_table.proofs.table.TaskTable.at.Goals as goal

pub returns-clause-task : goal.returns-clause-task
returns-clause-task c =
    let kept = kept_of _ _ _ _ _ _ _ c.self.view_is c.self.invariant in
    let entries = c.self.inside.entries.items in
    let there = rw c.deref.ensures.value at c.in_ok-entry.ensures.lookup in
    c.get-2.ensures ∙ ap (slot_of c.self.inside.slots) there.1
    ∙ slot_at c.self.inside.slots entries c.args.self.now.tasks kept.holds c.args.position c.in_ok-entry.entry.now
    (ltb-true c.args.position (length entries) (sym there.0))
