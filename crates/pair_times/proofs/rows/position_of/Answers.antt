use Rattle.std.proofs.Common.{rules, tests}
use Rattle.std.proofs.lemmas.List.Sorted.{IsPartitionPoint-from_clause}
use Rattle.pair_times.specs.Pairs.{goes_before}
use Rattle.pair_times.proofs.Order.{parted}
use Rattle.pair_times.proofs.rows.position_of.Goals as goal

-- the closure tests whether a row goes before the pair
pub returns-clause-point : goal.returns-clause-point
returns-clause-point c =
    IsPartitionPoint-from_clause (λ row. goes_before row c.args.low c.args.high) c.args.rows.now _ c.partition_point.ensures.partitioned
    (parted c.args.rows.now c.args.low c.args.high c.requires) (λ a r f called. search (rules, tests))
