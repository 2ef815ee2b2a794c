use Rattle.std.proofs.Common.{◌<◌, ap, arith}
use Rattle.std.proofs.lemmas.Bool.{ltb-true}
use Rattle.task_table.specs.declared.entry.Entry.{Entry}
use Rattle.task_table.proofs.Rising.{gap_at_end}
use Rattle.task_table.proofs.entry.is_above_all.Goals as goal

pub returns-in-Some : goal.returns-in-Some
returns-in-Some c = λ above tasks index rises.
    let last = c.in-Some.last.now in
    let there = c.in-Some.ensures.item.3 in
    let lower : last.pid < c.args.pid = ltb-true last.pid c.args.pid above in
    gap_at_end c.args.entries.now tasks c.args.pid index rises last there.0 (omega (arith, lower, ap (λ (entry : Entry). entry.pid) (there.1 last)))
