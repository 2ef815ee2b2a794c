use Rattle.std.proofs.Common.{arith, ◌∙◌, sym, ap, refl, map, set, subst, if◌then◌else◌}
use Rattle.std.specs.Prelude.{is_some}
use Rattle.task_table.specs.Slots.{with_task}
use Rattle.task_table.proofs.Writes.{Updates-with_task}
use Rattle.cs_types.specs.Room.{has_pid}
use Rattle.task_table.specs.Table.{Table}
use Rattle.task_table.specs.Inside.{IsKept}
use Rattle.task_table.proofs.Rising.{none_gap, find_none, changed_none}
use Rattle.task_table.proofs.Kept.{kept_of, kept_again, seen_as, position_within, found, found_some, member_at, counts_at, kept_set, totals_set, filled_count-with_task}
use Rattle.task_table.specs.declared.entry.Entry.{Entry}
use Rattle.task_table.specs.Grouping.{AreSpans, AreGrouped, thread_of, process_of}
use Rattle.task_table.proofs.Totals.{total-at}
use Rattle.task_table.proofs.Grouped.{grouped_set}
use Rattle.task_table.proofs.table.TaskTable.change_groups.Goals as goal

pub returns-in_default-clause-old : goal.returns-in_default-clause-old
returns-in_default-clause-old c = sym (find_none c.args.task.spec.pid c.args.self.now.tasks (none_gap c.args.task.spec.pid _ c.args.self.now.tasks c.in_default.ensures.position))

pub returns-in_default-clause-changed : goal.returns-in_default-clause-changed
returns-in_default-clause-changed c =
    ap (λ ts. let table : Table = record c.args.self.now { tasks = ts } in table)
    (sym (changed_none (λ _. c.args.task) c.args.task.spec.pid c.args.self.now.tasks (none_gap c.args.task.spec.pid _ c.args.self.now.tasks c.in_default.ensures.position)))

pub index_mut-entry-requires : goal.index_mut-entry-requires
index_mut-entry-requires c =
    omega (arith, position_within (kept_of _ _ _ _ _ _ _ c.self.view_is c.self.invariant) c.args.task.spec.pid c.in-Ok.position c.in-Ok.ensures.position)

pub index_mut-slot-requires : goal.index_mut-slot-requires
index_mut-slot-requires c =
    let kept = kept_of _ _ _ _ _ _ _ c.self.view_is c.self.invariant in
    let there = found_some kept c.args.task.spec.pid c.in-Ok.position _ c.in-Ok.ensures.position c.index_mut-entry.ensures.value in
    ap is_some there.1

pub regroup-requires-clause-threads : goal.regroup-requires-clause-threads
regroup-requires-clause-threads c =
    (counts_at (kept_of _ _ _ _ _ _ _ c.self.view_is c.self.invariant) c.args.task.spec.pid c.in-Ok.position _ c.in-Ok.ensures.position c.index_mut-entry.ensures.value).0

pub regroup-requires-clause-processes : goal.regroup-requires-clause-processes
regroup-requires-clause-processes c =
    (counts_at (kept_of _ _ _ _ _ _ _ c.self.view_is c.self.invariant) c.args.task.spec.pid c.in-Ok.position _ c.in-Ok.ensures.position c.index_mut-entry.ensures.value).1

grouped : (c : goal.After-self-2-1) → AreGrouped c.regroup.new.threads.all.items c.regroup.new.processes.all.items
    (map (λ other. if has_pid c.args.task.spec.pid other then c.args.task else other) c.args.self.now.tasks)
grouped c =
    let kept = kept_of _ _ _ _ _ _ _ c.self.view_is c.self.invariant in
    let tasks = c.args.self.now.tasks in
    let position = c.in-Ok.position in
    let entry = c.index_mut-entry.result.now in
    let at = c.in-Ok.ensures.position in
    let members = member_at kept c.args.task.spec.pid position entry at c.index_mut-entry.ensures.value in
    let there = total-at c.args.task.spec.pid position c.self.inside.entries.items tasks entry kept.index at in
    let pid = ap (λ (e : Entry). e.pid) c.index_mut-entry.ensures.value ∙ there.0 in
    grouped_set c.args.task position tasks at
    (subst (λ n. AreSpans c.regroup.new.threads.all.items (set (map thread_of tasks) position (c.args.task.spec.tgid, n))) pid
    (c.regroup.ensures.threads (map thread_of tasks) position members.0 kept.grouped.by_threads))
    (subst (λ n. AreSpans c.regroup.new.processes.all.items (set (map process_of tasks) position (c.args.task.spec.pgid, n))) pid
    (c.regroup.ensures.processes (map process_of tasks) position members.1 kept.grouped.by_processes))

after : (c : goal.After-self-2-1) → IsKept (with_task c.self.inside.slots c.index_mut-entry.result.now.key c.args.task)
    (set c.self.inside.entries.items c.in-Ok.position c.regroup.new.entry)
    c.regroup.new.threads.all.items c.regroup.new.processes.all.items
    c.self.inside.entries.room c.self.inside.limit
    (map (λ other. if has_pid c.args.task.spec.pid other then c.args.task else other) c.args.self.now.tasks)
after c =
    let kept = kept_of _ _ _ _ _ _ _ c.self.view_is c.self.invariant in
    let entry = c.index_mut-entry.result.now in
    let here = c.index_mut-entry.ensures.value in
    let there = found_some kept c.args.task.spec.pid c.in-Ok.position entry c.in-Ok.ensures.position here in
    kept_set kept _ _ c.in-Ok.position entry c.args.task (grouped c) c.in-Ok.ensures.position here
    (Updates-with_task c.self.inside.slots entry.key c.args.task (ap is_some there.1))
    (filled_count-with_task c.self.inside.slots entry.key there.0 c.args.task there.1) refl
    (ap (set c.self.inside.entries.items c.in-Ok.position) c.regroup.ensures.entry)

pub invariant_of-self : goal.invariant_of-self
invariant_of-self c = kept_again (after c)

pub returns-clause-old : goal.returns-clause-old
returns-clause-old c =
    sym c.index_mut-slot.ensures.value
    ∙ found (kept_of _ _ _ _ _ _ _ c.self.view_is c.self.invariant) c.args.task.spec.pid c.in-Ok.position _ c.in-Ok.ensures.position c.index_mut-entry.ensures.value

pub returns-clause-changed : goal.returns-clause-changed
returns-clause-changed c =
    seen_as _ _ _ _ _ _ _ _ (after c) (ap (λ (t : Table). t.limit) c.self.view_is)
    ∙ ap (λ totals. let table : Table = record c.args.self.now { tasks = map (λ other. if has_pid c.args.task.spec.pid other then c.args.task else other) c.args.self.now.tasks; totals = totals } in table)
    (totals_set (kept_of _ _ _ _ _ _ _ c.self.view_is c.self.invariant) _ c.in-Ok.position c.index_mut-entry.result.now c.args.task c.index_mut-entry.ensures.value
    (ap (set c.self.inside.entries.items c.in-Ok.position) c.regroup.ensures.entry))
    ∙ ap (λ (t : Table). let table : Table = record c.args.self.now { tasks = map (λ other. if has_pid c.args.task.spec.pid other then c.args.task else other) c.args.self.now.tasks; totals = t.totals } in table) c.self.view_is

pub returns-clause-sound : goal.returns-clause-sound
returns-clause-sound c = (kept_again (after c)).sound
