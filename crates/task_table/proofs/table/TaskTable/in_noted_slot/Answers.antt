use Rattle.std.proofs.Common.{◌≡◌, sym, ap, ◌∙◌}
use Rattle.std.specs.Prelude.{Some, find, option_copied}
use Rattle.task_table.specs.Slots.{get}
use Rattle.cs_types.specs.Room.{has_pid}
use Rattle.task_table.proofs.Kept.{kept_of, found_in}
use Rattle.task_table.proofs.Noted.{stands}
use Rattle.task_table.proofs.table.TaskTable.in_noted_slot.Goals as goal

pub returns-then-task-pid-clause-task : goal.returns-then-task-pid-clause-task
returns-then-task-pid-clause-task c =
    let kept = kept_of _ _ _ _ _ _ _ c.self.view_is c.self.invariant in
    let task = c.in_ok-task.task.now in
    let has : get c.self.inside.slots c.slot_of.result ≡ Some task = sym c.get.ensures ∙ ap option_copied c.in_ok-task.was in
    let slot = stands c.self.inside.slots 0 c.self.inside.entries.items c.args.self.now.tasks kept.holds kept.sound.rising kept.counted c.slot_of.result task has in
    ap (λ pid. find (has_pid pid) c.args.self.now.tasks) (sym c.if-task-pid.true) ∙ (found_in kept task slot has).0
