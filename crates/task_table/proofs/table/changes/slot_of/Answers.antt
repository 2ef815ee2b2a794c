use Rattle.std.proofs.Common.{sym, ap, subst, ◌∙◌}
use Rattle.std.specs.Prelude.{option_copied}
use Rattle.task_table.specs.Inside.{IsSlotOf}
use Rattle.task_table.proofs.Noted.{stands}
use Rattle.task_table.proofs.table.changes.slot_of.Goals as goal

pub returns-in-Some : goal.returns-in-Some
returns-in-Some c threads processes room limit tasks kept =
    subst (λ pid. IsSlotOf c.slot_of-key.result pid c.args.entries.now.items tasks) c.if-task-pid.true
    (stands c.args.slots.now 0 c.args.entries.now.items tasks kept.holds kept.sound.rising kept.counted c.slot_of-key.result c.in-Some.task.now
    (sym c.get.ensures ∙ ap option_copied c.in-Some.is))
