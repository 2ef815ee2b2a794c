-- Anew: entries whose keys get other ranks and stamps.
use Rattle.std.specs.Prelude.{ℕ}
use Rattle.cs_types.specs.Queue as queue
use Rattle.order_tree.specs.Order.{Entry}

-- an entry whose pid has another rank and another stamp now, in place of those
abbrev pub rekeyed : (ℕ → queue.Key → queue.Key) → Entry → Entry
rekeyed at entry =
    let place = at entry.1 (entry.0.rank, entry.0.stamp) in
    (record entry.0 { rank = place.0; stamp = place.1 }, entry.1)

-- the same of a task in the queue of its class
abbrev pub reranked : (ℕ → queue.Key → queue.Key) → queue.Key × ℕ → queue.Key × ℕ
reranked at entry = (at entry.1 entry.0, entry.1)
