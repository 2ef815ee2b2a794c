use Rattle.std.proofs.Common.{◌≡◌, sym, ap, ◌∙◌, map, if◌then◌else◌}
use Rattle.std.specs.Prelude.{is_some}
use Rattle.task_table.specs.Slots.{with_task}
use Rattle.cs_types.specs.Room.{has_pid}
use Rattle.cs_types.specs.declared.task.Task.{Task}
use Rattle.task_table.specs.Table.{Table}
use Rattle.task_table.specs.Inside.{groups_of, IsSlotOf, IsKept}
use Rattle.task_table.proofs.Rising.{changed_none}
use Rattle.task_table.proofs.Tables.{none_found}
use Rattle.task_table.proofs.Kept.{kept_of, kept_again, seen_as, task_in, found_in, kept_edited}
use Rattle.task_table.proofs.table.TaskTable.change.Goals as goal

pub returns-in_default-clause-old : goal.returns-in_default-clause-old
returns-in_default-clause-old c =
    sym (c.in_default.ensures _ _ _ _ _ (kept_of _ _ _ _ _ _ _ c.self.view_is c.self.invariant))

pub returns-in_default-clause-changed : goal.returns-in_default-clause-changed
returns-in_default-clause-changed c =
    let pid = c.args.task.spec.pid in
    let tasks = c.args.self.now.tasks in
    let none = c.in_default.ensures _ _ _ _ _ (kept_of _ _ _ _ _ _ _ c.self.view_is c.self.invariant) in
    ap (λ ts. let table : Table = record c.args.self.now { tasks = ts } in table) (sym (changed_none (λ _. c.args.task) pid tasks (none_found pid tasks none)))

pub index-old-requires : goal.index-old-requires
index-old-requires c =
    let kept = kept_of _ _ _ _ _ _ _ c.self.view_is c.self.invariant in
    ap is_some (task_in kept (c.in-Some.ensures _ _ _ _ _ kept)).1

slot : (c : goal.After-self-1) → IsSlotOf c.in-Some.key c.args.task.spec.pid c.self.inside.entries.items c.args.self.now.tasks
slot c = c.in-Some.ensures _ _ _ _ _ (kept_of _ _ _ _ _ _ _ c.self.view_is c.self.invariant)

after : (c : goal.After-self-1) → IsKept (with_task c.self.inside.slots c.in-Some.key c.args.task) c.self.inside.entries.items
    c.self.inside.threads.all.items c.self.inside.processes.all.items c.self.inside.entries.room c.self.inside.limit
    (map (λ (task : Task). if has_pid c.args.task.spec.pid task then c.args.task else task) c.args.self.now.tasks)
after c =
    let kept = kept_of _ _ _ _ _ _ _ c.self.view_is c.self.invariant in
    let old = c.index-old.result.now in
    let there = found_in kept old (slot c) c.index-old.ensures in
    let groups : groups_of c.args.task ≡ groups_of old = (λ i. (sym c.if-old-task.false i, sym c.if-old-task-2.false i)) in
    kept_edited kept old c.args.task (slot c) c.index-old.ensures (sym there.1) groups

pub invariant_of-self : goal.invariant_of-self
invariant_of-self c = kept_again (after c)

pub returns-clause-old : goal.returns-clause-old
returns-clause-old c = sym (found_in (kept_of _ _ _ _ _ _ _ c.self.view_is c.self.invariant) c.index-old.result.now (slot c) c.index-old.ensures).0

pub returns-clause-changed : goal.returns-clause-changed
returns-clause-changed c =
    seen_as _ _ _ _ _ _ _ _ (after c) (ap (λ (t : Table). t.limit) c.self.view_is)
    ∙ ap (λ (t : Table). let table : Table = record c.args.self.now {
      tasks = map (λ (task : Task). if has_pid c.args.task.spec.pid task then c.args.task else task) c.args.self.now.tasks;
      totals = t.totals;
    } in table) c.self.view_is

pub returns-clause-sound : goal.returns-clause-sound
returns-clause-sound c = (kept_again (after c)).sound
