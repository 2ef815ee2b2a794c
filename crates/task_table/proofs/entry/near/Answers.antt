use Rattle.std.proofs.Common.{◌<◌, ◌-◌, ◌∙◌, length, ap, arith}
use Rattle.std.proofs.lemmas.List.{get_or_default}
use Rattle.task_table.specs.declared.entry.Entry.{Entry}
use Rattle.task_table.proofs.Rising.{at_from}
use Rattle.task_table.proofs.entry.near.Goals as goal

pub returns-then-entries-position-clause-at : goal.returns-then-entries-position-clause-at
returns-then-entries-position-clause-at c tasks index rises =
    let entries = c.args.entries.now in
    let position = c.loop-position.position - 1 in
    let within : position < length entries = omega (arith, c.loop-position-test.true, c.loop-position.auto.position, c.loop-position.invariant) in
    at_from 0 c.args.pid entries tasks index rises position within
    (λ d. ap (λ (entry : Entry). entry.pid) (get_or_default entries position d _ within) ∙ c.if-entries-position.true)
