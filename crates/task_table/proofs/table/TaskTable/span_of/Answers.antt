use Rattle.std.proofs.Common.{length, ap, refl, arith}
use Rattle.task_table.specs.Group.{is_in_group}
use Rattle.task_table.specs.Grouping.{thread_of, process_of}
use Rattle.task_table.proofs.Kept.{kept_of, kept_length}
use Rattle.task_table.proofs.Walks.{all_members}
use Rattle.task_table.proofs.Grouped.{counted_in, least_in, least_of_all}
use Rattle.task_table.proofs.table.TaskTable.span_of.Goals as goal

pub returns-in-All-clause-count : goal.returns-in-All-clause-count
returns-in-All-clause-count c =
    let kept = kept_of _ _ _ _ _ _ _ c.self.view_is c.self.invariant in
    rw c.in-All.is (omega (
      arith,
      ap length (all_members c.args.self.now.tasks),
      kept_length kept,
      c.len.ensures,
      kept.sound.few,
      kept.sound.limit,
    ))

pub returns-in-All-clause-least : goal.returns-in-All-clause-least
returns-in-All-clause-least c = least_of_all (is_in_group c.args.group) c.args.self.now.tasks

pub returns-in-Threads-clause-count : goal.returns-in-Threads-clause-count
returns-in-Threads-clause-count c =
    let kept = kept_of _ _ _ _ _ _ _ c.self.view_is c.self.invariant in
    rw (c.in-Threads.is, c.of.ensures) (counted_in c.self.inside.threads.all.items thread_of c.in-Threads.leader c.args.self.now.tasks kept.grouped.by_threads)

pub returns-in-Threads-clause-least : goal.returns-in-Threads-clause-least
returns-in-Threads-clause-least c =
    let kept = kept_of _ _ _ _ _ _ _ c.self.view_is c.self.invariant in
    rw (c.in-Threads.is, c.of.ensures)
    (least_in c.self.inside.threads.all.items thread_of c.in-Threads.leader c.args.self.now.tasks (λ task. refl) kept.grouped.by_threads.leasts)

pub returns-in-Process-clause-count : goal.returns-in-Process-clause-count
returns-in-Process-clause-count c =
    let kept = kept_of _ _ _ _ _ _ _ c.self.view_is c.self.invariant in
    rw (c.in-Process.is, c.of-in-Process.ensures)
    (counted_in c.self.inside.processes.all.items process_of c.in-Process.number c.args.self.now.tasks kept.grouped.by_processes)

pub returns-in-Process-clause-least : goal.returns-in-Process-clause-least
returns-in-Process-clause-least c =
    let kept = kept_of _ _ _ _ _ _ _ c.self.view_is c.self.invariant in
    rw (c.in-Process.is, c.of-in-Process.ensures)
    (least_in c.self.inside.processes.all.items process_of c.in-Process.number c.args.self.now.tasks (λ task. refl) kept.grouped.by_processes.leasts)
