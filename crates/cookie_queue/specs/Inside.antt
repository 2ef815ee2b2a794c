-- Inside: how the tasks with cookies stand in an ordered tree.
use Rattle.std.specs.Prelude.{ℕ, ◌==◌, cond, Option, Some, None}
use Rattle.cs_types.specs.declared.queue.Queued.{Queued}
use Rattle.cs_types.specs.Queue.{Spot, Spotted, spot_cmp, queued_in}
use Rattle.order_tree.specs.Order.{Entry, Ordered}
use Rattle.order_tree.specs.Renamed.{map_renamed}
use Rattle.order_tree.specs.declared.key.Key.{Key}

-- the spot that a key stands for, and the key that stands for a spot
abbrev pub spot_at : Key → Spot
spot_at key = (key.group, (key.class, (key.rank, key.stamp)))

abbrev pub key_at : Spot → Key
key_at spot = record { group = spot.0; class = spot.1.0; rank = spot.1.1.0; stamp = spot.1.1.1 }

-- what contracts see of a queue with this tree
abbrev pub spotted_of : Ordered → Spotted
spotted_of tree = record { tasks = map_renamed spot_cmp spot_at tree.members; spare = tree.spare }

-- the task of an entry, if that has the cookie
abbrev pub with_cookie : ℕ → Option Entry → Option Queued
with_cookie cookie None = None
with_cookie cookie (Some entry) = cond (entry.0.group == cookie) (Some (queued_in (spot_at entry.0) entry.1)) None
