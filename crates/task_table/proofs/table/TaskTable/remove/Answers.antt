use Rattle.std.proofs.Common.{List, Some, option_map, inl, inr, eq-eqb, ne_eqb, arith, ◌∙◌, sym, ap, not}
use Rattle.std.specs.Prelude.{filter, find, is_some}
use Rattle.cs_types.specs.Room.{has_pid}
use Rattle.std.proofs.lemmas.Bool.{cases_eq, cond-true, cond-false}
use Rattle.cs_types.specs.declared.task.Task.{Task}
use Rattle.task_table.specs.declared.entry.Entry.{Entry}
use Rattle.task_table.specs.Table.{Table, total_among, total_in}
use Rattle.task_table.specs.Inside.{totals_of, IsKept}
use Rattle.task_table.proofs.Rising.{none_gap, find_none, without_none, find-without}
use Rattle.task_table.proofs.Kept.{kept_of, kept_again, seen_as, position_within, found, found_some, member_at, kept_remove}
use Rattle.task_table.proofs.Totals.{total-at, total-remove}
use Rattle.task_table.specs.Grouping.{AreGrouped}
use Rattle.task_table.proofs.Grouping.{some_of}
use Rattle.task_table.proofs.Grouped.{grouped_remove}
use Rattle.task_table.proofs.table.TaskTable.remove.Goals as goal

pub returns-in_default-clause-task : goal.returns-in_default-clause-task
returns-in_default-clause-task c =
    ap (option_map (λ (task : Task). (task, total_in c.args.self.now c.args.pid)))
    (sym (find_none c.args.pid c.args.self.now.tasks (none_gap c.args.pid _ c.args.self.now.tasks c.in_default.ensures.position)))

pub returns-in_default-clause-removed : goal.returns-in_default-clause-removed
returns-in_default-clause-removed c =
    ap (λ ts. let table : Table = record c.args.self.now { tasks = ts } in table)
    (sym (without_none c.args.pid c.args.self.now.tasks (none_gap c.args.pid _ c.args.self.now.tasks c.in_default.ensures.position)))

pub returns-in_default-clause-totals : goal.returns-in_default-clause-totals
returns-in_default-clause-totals c other =
    let none = c.in_default.ensures.sound.known c.args.pid (find_none c.args.pid c.args.self.now.tasks (none_gap c.args.pid _ c.args.self.now.tasks c.in_default.ensures.position)) in
    elim (cases_eq other c.args.pid) [
      | inl same ↦ ap (total_in c.args.self.now) same ∙ none ∙ sym (cond-true _ 0 _ (eq-eqb other c.args.pid same))
      | inr apart ↦ sym (cond-false _ 0 _ (ne_eqb other c.args.pid apart))
    ]

pub remove-entry-requires : goal.remove-entry-requires
remove-entry-requires c =
    omega (arith, position_within (kept_of _ _ _ _ _ _ _ c.self.view_is c.self.invariant) c.args.pid c.in-Ok.position c.in-Ok.ensures.position)

pub remove-task-requires : goal.remove-task-requires
remove-task-requires c =
    let kept = kept_of _ _ _ _ _ _ _ c.self.view_is c.self.invariant in
    let there = found_some kept c.args.pid c.in-Ok.position _ c.in-Ok.ensures.position c.remove-entry.ensures.value in
    ap is_some there.1

pub remove-requires : goal.remove-requires
remove-requires c =
    let kept = kept_of _ _ _ _ _ _ _ c.self.view_is c.self.invariant in
    let entry = c.remove-entry.result in
    record {
      some = some_of c.self.inside.threads.all.items _ c.in-Ok.position (entry.tgid, entry.pid) kept.grouped.by_threads
          (member_at kept c.args.pid c.in-Ok.position entry c.in-Ok.ensures.position c.remove-entry.ensures.value).0;
    }

pub remove-requires-2 : goal.remove-requires-2
remove-requires-2 c =
    let kept = kept_of _ _ _ _ _ _ _ c.self.view_is c.self.invariant in
    let entry = c.remove-entry.result in
    record {
      some = some_of c.self.inside.processes.all.items _ c.in-Ok.position (entry.pgid, entry.pid) kept.grouped.by_processes
          (member_at kept c.args.pid c.in-Ok.position entry c.in-Ok.ensures.position c.remove-entry.ensures.value).1;
    }

grouped : (c : goal.After-forget) → AreGrouped c.remove.new.self.all.items c.remove-2.new.self.all.items (filter (λ task. not (has_pid c.args.pid task)) c.args.self.now.tasks)
grouped c =
    let kept = kept_of _ _ _ _ _ _ _ c.self.view_is c.self.invariant in
    let position = c.in-Ok.position in
    let entry = c.remove-entry.result in
    let members = member_at kept c.args.pid position entry c.in-Ok.ensures.position c.remove-entry.ensures.value in
    grouped_remove c.args.pid position c.args.self.now.tasks c.in-Ok.ensures.position
    (c.remove.ensures _ position entry.pid members.0 kept.grouped.by_threads)
    (c.remove-2.ensures _ position entry.pid members.1 kept.grouped.by_processes)

after : (c : goal.After-forget) → IsKept c.remove-task.new.self c.remove-entry.new.self.items
    c.remove.new.self.all.items c.remove-2.new.self.all.items
    c.remove-entry.new.self.room c.self.inside.limit (filter (λ task. not (has_pid c.args.pid task)) c.args.self.now.tasks)
after c =
    let kept = kept_of _ _ _ _ _ _ _ c.self.view_is c.self.invariant in
    kept_remove kept c.remove-task.new.self c.remove-entry.new.self.items _ c.args.pid c.in-Ok.position c.remove-entry.result (grouped c) c.in-Ok.ensures.position
    c.remove-entry.ensures.value c.remove-task.ensures.updates c.remove-task.ensures.count
    c.remove-task.ensures.room c.remove-entry.ensures.room c.remove-entry.ensures.items

pub invariant_of-self : goal.invariant_of-self
invariant_of-self c = kept_again (after c)

pub returns-clause-task : goal.returns-clause-task
returns-clause-task c =
    let kept = kept_of _ _ _ _ _ _ _ c.self.view_is c.self.invariant in
    let there = total-at c.args.pid c.in-Ok.position c.self.inside.entries.items c.args.self.now.tasks c.remove-entry.result kept.index c.in-Ok.ensures.position in
    ap (λ n. Some (c.remove-task.result, n))
    (ap (λ (entry : Entry). entry.forced) c.remove-entry.ensures.value ∙ sym there.1 ∙ ap (λ (table : Table). total_in table c.args.pid) c.self.view_is)
    ∙ ap (option_map (λ (task : Task). (task, total_in c.args.self.now c.args.pid)))
    (sym c.remove-task.ensures.value ∙ found kept c.args.pid c.in-Ok.position _ c.in-Ok.ensures.position c.remove-entry.ensures.value)

pub returns-clause-removed : goal.returns-clause-removed
returns-clause-removed c = seen_as _ _ _ _ _ _ _ _ (after c) (ap (λ (t : Table). t.limit) c.self.view_is)

pub returns-clause-totals : goal.returns-clause-totals
returns-clause-totals c other =
    let old = c.self.inside.entries.items in
    let pid = c.args.pid in
    let position = c.in-Ok.position in
    let kept = kept_of _ _ _ _ _ _ _ c.self.view_is c.self.invariant in
    let there = total-at pid position old c.args.self.now.tasks c.remove-entry.result kept.index c.in-Ok.ensures.position in
    let items = ap (λ (entries : List Entry). total_among (totals_of entries) other) c.remove-entry.ensures.items in
    elim (cases_eq other pid) [
      | inl same ↦ (after c).sound.known other (ap (λ n. find (has_pid n) (filter (λ task. not (has_pid pid task)) c.args.self.now.tasks)) same ∙ find-without pid c.args.self.now.tasks) ∙ sym (cond-true _ 0 _ (eq-eqb other pid same))
      | inr apart ↦
          items
          ∙ total-remove pid other position old c.remove-entry.result (position_within kept pid position c.in-Ok.ensures.position) there.0 (ne_eqb other pid apart)
          ∙ ap (λ (table : Table). total_in table other) c.self.view_is
          ∙ sym (cond-false _ 0 _ (ne_eqb other pid apart))
    ]

pub returns-clause-sound : goal.returns-clause-sound
returns-clause-sound c = (kept_again (after c)).sound
