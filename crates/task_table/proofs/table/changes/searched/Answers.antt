use Rattle.std.proofs.Common.{arith, length, lt-ltb}
use Rattle.task_table.proofs.Rising.{none_gap, find_none, at_within}
use Rattle.task_table.proofs.Held.{length_both}
use Rattle.task_table.specs.declared.entry.Entry.{Entry}
use Rattle.task_table.specs.Table.{pid_of}
use Rattle.task_table.proofs.table.changes.searched.Goals as goal

pub returns-in_default : goal.returns-in_default
returns-in_default c tasks index rises = find_none c.args.pid tasks (none_gap c.args.pid _ tasks (c.in_default.ensures tasks index rises))

pub returns-in_err-get : goal.returns-in_err-get
returns-in_err-get c tasks index rises =
    let entries = c.args.entries.now in
    let position = c.in-Ok.position in
    let within = lt-ltb position (length entries) (omega (arith, at_within c.args.pid position tasks (c.in-Ok.ensures tasks index rises), length_both (λ (e : Entry). e.pid) pid_of entries tasks index)) in
    let beyond = c.in_err-get.ensures.lookup.0 in
    absurd cc
