use Rattle.std.proofs.Common.{length, sym, ap, ◌∙◌}
use Rattle.std.proofs.lemmas.Bool.{ltb-true}
use Rattle.task_table.specs.declared.entry.Entry.{Entry}
use Rattle.task_table.proofs.Kept.{kept_of}
use Rattle.task_table.proofs.Rising.{at_from}
use Rattle.task_table.proofs.table.TaskTable.noted.Goals as goal

pub returns-then-noted-pid : goal.returns-then-noted-pid
returns-then-noted-pid c =
    let kept = kept_of _ _ _ _ _ _ _ c.self.view_is c.self.invariant in
    let entries = c.self.inside.entries.items in
    let there = rw c.deref.ensures.value at c.in_ok-noted.ensures.lookup in
    at_from 0 c.args.pid entries c.args.self.now.tasks kept.index kept.sound.rising c.of-position.result
    (ltb-true c.of-position.result (length entries) (sym there.0))
    (λ d. ap (λ (entry : Entry). entry.pid) (sym (there.3.1 d)) ∙ c.if-noted-pid.true)
