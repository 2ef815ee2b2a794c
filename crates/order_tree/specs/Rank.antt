-- Rank: how the tasks of a scheduling class stand in an ordered tree.
use Rattle.std.specs.Prelude.{◌≡◌, ℕ, IsTrue, Option, slice_get}
use Rattle.std.specs.Option.{option_map}
use Rattle.std.specs.FinMap.{contains_key, entries}
use Rattle.cs_types.specs.Queue as queue
use Rattle.cs_types.specs.Queue.{Ranked}
use Rattle.order_tree.specs.Order.{Members, Ordered}
use Rattle.order_tree.specs.Renamed.{map_renamed}
use Rattle.order_tree.specs.declared.key.Key.{Key}

-- the rank and the stamp of a key, and the key that stands for them
abbrev pub rank_at : Key → queue.Key
rank_at key = (key.rank, key.stamp)

abbrev pub key_at : queue.Key → Key
key_at place = record { group = 0; class = 0; rank = place.0; stamp = place.1 }

-- a task as it is handed over when all leave: the stamp of its key, and its pid
abbrev pub stamped : queue.Key × ℕ → ℕ × ℕ
stamped entry = (entry.0.1, entry.1)

-- the rank of the first task, none if there is no task
abbrev pub least_rank : queue.Members → Option ℕ
least_rank members = option_map (λ entry. entry.0.0) (slice_get (entries members) 0)

-- a key of the one group and the one class
abbrev pub IsRankKey : Key → Type 0
IsRankKey key = (key.group ≡ 0) × (key.class ≡ 0)

-- each key is one of these
abbrev pub IsOfClass : Members → Type 0
IsOfClass members = (key : Key) → IsTrue (contains_key members key) → IsRankKey key

-- what contracts see of a queue with this tree
abbrev pub ranked_of : Ordered → Ranked
ranked_of tree = record { members = map_renamed queue.key_cmp rank_at tree.members; spare = tree.spare }
