use Rattle.std.proofs.Common.{leb, rules, tests}
use Rattle.std.proofs.lemmas.List.Sorted.{IsPartitionPoint-from_clause}
use Rattle.task_table.proofs.Rising.{no_greater_first, parted}
use Rattle.task_table.proofs.Walks.{above_at}
use Rattle.task_table.proofs.entry.position_above.Goals as goal

pub returns-in-Some : goal.returns-in-Some
returns-in-Some c = λ tasks index rises. above_at c.args.pid c.in-Some.position tasks (c.in-Some.ensures.at tasks index rises)

-- the closure tests an entry's pid
pub returns-in-None : goal.returns-in-None
returns-in-None c = λ tasks index rises.
    let entries = c.args.entries.now in
    let facts = c.partition_point.ensures in
    parted entries tasks c.args.pid _ index rises facts.bound
    (IsPartitionPoint-from_clause (λ entry. leb entry.pid c.args.pid) entries _ facts.partitioned (no_greater_first entries tasks c.args.pid index rises)
    (λ a r f called. search (rules, tests)))
