use Rattle.std.proofs.Common.{◌<◌, ap, arith}
use Rattle.std.proofs.lemmas.Bool.{ltb-true}
use Rattle.task_table.specs.declared.entry.Entry.{Entry}
use Rattle.task_table.proofs.Rising.{all_above}
use Rattle.task_table.proofs.entry.is_below_all.Goals as goal

pub returns-in-Some : goal.returns-in-Some
returns-in-Some c = λ below tasks index rises.
    let first = c.in-Some.first.now in
    let higher : c.args.pid < first.pid = ltb-true c.args.pid first.pid below in
    all_above c.args.entries.now tasks c.args.pid index rises first (omega (arith, higher, ap (λ (entry : Entry). entry.pid) c.in-Some.ensures.item.1))
